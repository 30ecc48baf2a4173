use Rattle.std.proofs.Common.{map}
use Rattle.std.specs.String.{string_bytes}
use Rattle.hosed_requests.specs.ProgramWords.{program_word}
use Rattle.hosed_requests.proofs.Commands.{asks_first, asks_one, first_and_rest, verbs_told}
use Rattle.hosed_requests.proofs.verb.verb_of.Goals as goal

pub returns-in-len1-up-clause-none : goal.returns-in-len1-up-clause-none
returns-in-len1-up-clause-none c =
    let is = first_and_rest string_bytes c.args.words.now c.first-item.result c.in-len1-up.len_at_least c.first-item.is in
    asks_first (string_bytes c.first-item.result) _ c.as_bytes.result.now (map string_bytes c.args.words.now) c.with_word.result is c.as_bytes.ensures.value
    (c.with_word.ensures.none program_word verbs_told)

pub returns-in-len1-up-clause-some : goal.returns-in-len1-up-clause-some
returns-in-len1-up-clause-some c =
    let is = first_and_rest string_bytes c.args.words.now c.first-item.result c.in-len1-up.len_at_least c.first-item.is in
    asks_one (string_bytes c.first-item.result) _ c.as_bytes.result.now (map string_bytes c.args.words.now) c.with_word.result is c.as_bytes.ensures.value
    (c.with_word.ensures.some program_word verbs_told)
