-- The nodes so far have the endpoint more, and the others are as they were.
use Rattle.std.proofs.Common.{◌≡◌, ℕ, ◌<◌, ◌≤◌, length}
use Rattle.hose_graph.specs.Row.{distance_of}
use Rattle.hose_plan.specs.steps.Rooting.{heavier}
use Rattle.hose_root.specs.steps.Choice.{weight_at}
use Rattle.hose_plan.proofs.root.add_row.Given as goal

abbrev pub invariant-loop-node : goal.invariant-loop-node
invariant-loop-node l = record {
  added : (v : ℕ) → v < l.node → weight_at l.weights v ≡ heavier (weight_at l.initial.weights v) l.rate (distance_of l.row v);
  same : (v : ℕ) → l.node ≤ v → v < length l.initial.weights → weight_at l.weights v ≡ weight_at l.initial.weights v;
}
