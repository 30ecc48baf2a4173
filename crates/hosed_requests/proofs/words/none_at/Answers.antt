use Rattle.std.proofs.Common.{arith, map}
use Rattle.std.proofs.lemmas.List.{length-map}
use Rattle.std.specs.String.{string_bytes}
use Rattle.hosed_requests.proofs.Commands.{one_too_many}
use Rattle.hosed_requests.proofs.words.none_at.Goals as goal

pub returns-then-words-at-clause-wrong : goal.returns-then-words-at-clause-wrong
returns-then-words-at-clause-wrong c = one_too_many (map string_bytes c.args.words.now) c.args.at c.requires (omega (arith, length-map c.args.words.now string_bytes))
