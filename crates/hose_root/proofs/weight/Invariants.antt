-- Every endpoint so far has a distance, and the weight is their sum.
use Rattle.std.proofs.Common.{◌≡◌, ◌*◌, ◌≤◌, take}
use Rattle.hose_graph.specs.declared.limits.TheConstants.{MOST_DISTANCE, MOST_RATE}
use Rattle.hose_root.specs.steps.Weight.{LeavesOut, weight_of}
use Rattle.hose_root.proofs.weight.Given as goal

abbrev pub invariant-loop-node : goal.invariant-loop-node
invariant-loop-node l = record {
  sum : l.weight ≡ weight_of l.row (take l.node-index l.hose);
  all : ¬ LeavesOut l.row (take l.node-index l.hose);
  small : l.weight ≤ l.node-index * (MOST_RATE * MOST_DISTANCE);
}
