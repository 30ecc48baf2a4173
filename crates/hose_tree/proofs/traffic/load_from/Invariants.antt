use Rattle.std.proofs.Common.{◌≡◌, ◌*◌, ◌≤◌, cond}
use Rattle.hose_graph.specs.declared.limits.TheConstants.{MOST_RATE}
use Rattle.hose_law.specs.Matrix.{demand, sum_below}
use Rattle.hose_law.specs.Route.{one_alone}
use Rattle.hose_tree.specs.steps.Side.{is_marked}
use Rattle.hose_tree.proofs.traffic.load_from.Given as goal

abbrev pub invariant-loop-j : goal.invariant-loop-j
invariant-loop-j l =
    (l.load ≡ sum_below l.j (λ k. cond (one_alone (is_marked l.hose l.marks l.i) (is_marked l.hose l.marks k)) (demand l.matrix l.i k) 0)) × (l.load ≤ l.j * MOST_RATE)
