use Rattle.std.proofs.Common.{◌≢◌, All, take}
use Rattle.hose_proto.proofs.choices.with_word.Given as goal

abbrev pub invariant-loop-row : goal.invariant-loop-row
invariant-loop-row g l = All (λ row. row.1.now ≢ l.word) (take l.row-index l.table)
