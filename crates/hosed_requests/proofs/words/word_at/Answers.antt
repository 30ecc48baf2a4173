use Rattle.std.proofs.Common.{rules}
use Rattle.std.specs.String.{string_bytes}
use Rattle.hosed_requests.proofs.Commands.{word_there}
use Rattle.hosed_requests.proofs.words.word_at.Goals as goal

pub returns-clause-some : goal.returns-clause-some
returns-clause-some c =
    let took = word_there string_bytes c.args.words.now c.args.at c.in_ok-get.field-0.now _ c.requires (search rules) (c.in_ok-get.ensures.lookup.1) in
    rw c.as_str.ensures.value took
