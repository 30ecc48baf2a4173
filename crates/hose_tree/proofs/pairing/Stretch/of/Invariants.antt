use Rattle.std.proofs.Common.{◌≡◌, ◌*◌, ◌≤◌, cond}
use Rattle.hose_graph.specs.declared.limits.TheConstants.{MOST_RATE}
use Rattle.hose_law.specs.Matrix.{rate_at, sum_below}
use Rattle.hose_law.specs.Route.{one_alone}
use Rattle.hose_tree.specs.steps.Side.{is_marked}
use Rattle.hose_tree.proofs.pairing.Stretch.of.Given as goal

abbrev pub invariant-loop-k : goal.invariant-loop-k
invariant-loop-k l =
    (l.start ≡ sum_below l.k (λ m. cond (one_alone (is_marked l.hose l.marks m) (is_marked l.hose l.marks l.i)) 0 (rate_at l.hose m))) × (l.start ≤ l.k * MOST_RATE)
