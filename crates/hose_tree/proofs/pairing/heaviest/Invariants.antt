use Rattle.std.proofs.Common.{◌≡◌, map}
use Rattle.hose_tree.proofs.Paired.{rows_of}
use Rattle.hose_tree.proofs.pairing.heaviest.Given as goal

abbrev pub invariant-loop-i : goal.invariant-loop-i
invariant-loop-i l = map (λ row. row.items) l.rows.items ≡ rows_of l.hose l.marks l.i
