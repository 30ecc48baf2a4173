use Rattle.std.proofs.Common.{◌≡◌, map}
use Rattle.std.specs.List.{range_with_len}
use Rattle.hose_tree.specs.steps.Side.{paired}
use Rattle.hose_tree.proofs.pairing.heaviest_row.Given as goal

abbrev pub invariant-loop-j : goal.invariant-loop-j
invariant-loop-j l = l.row.items ≡ map (paired l.hose l.marks l.i) (range_with_len 0 l.j)
