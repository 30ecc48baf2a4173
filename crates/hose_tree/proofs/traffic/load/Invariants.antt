use Rattle.std.proofs.Common.{◌≡◌, ◌*◌, ◌≤◌}
use Rattle.hose_graph.specs.declared.limits.TheConstants.{MOST_ENDS, MOST_RATE}
use Rattle.hose_law.specs.Matrix.{sum_below}
use Rattle.hose_tree.specs.steps.Side.{sent_across}
use Rattle.hose_tree.proofs.traffic.load.Given as goal

abbrev pub invariant-loop-i : goal.invariant-loop-i
invariant-loop-i l = (l.load ≡ sum_below l.i (sent_across l.hose l.marks l.matrix)) × (l.load ≤ l.i * (MOST_ENDS * MOST_RATE))
