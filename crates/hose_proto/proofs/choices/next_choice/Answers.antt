use Rattle.std.proofs.Common.{rules}
use Rattle.hose_proto.proofs.choices.next_choice.Goals as goal

pub returns-in_default-with_word-clause-wrong : goal.returns-in_default-with_word-clause-wrong
returns-in_default-with_word-clause-wrong g c = λ word_of are. let none = c.in_default-with_word.ensures.none word_of are in search rules

pub returns-clause-ok : goal.returns-clause-ok
returns-clause-ok g c = λ word_of are. let same = c.in-Some-with_word.ensures.some word_of are in search rules
