use Rattle.std.proofs.Common.{map}
use Rattle.std.specs.String.{string_bytes}
use Rattle.hosed_program.proofs.WordsTaken.{AreTakenWhereTold}
use Rattle.hosed_program.proofs.words.program_words.Given as goal

-- all words before the place were taken
abbrev pub invariant-loop-place : goal.invariant-loop-place
invariant-loop-place g l = AreTakenWhereTold (g.G.Given.words l.given) l.place (map string_bytes l.words.items)
