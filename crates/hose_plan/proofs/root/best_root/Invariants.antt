-- The weights of the endpoints so far, and their rows.
use Rattle.hose_plan.specs.steps.Rooting.{AreDistancesOver}
use Rattle.hose_plan.proofs.Weights.{AreSoFar}
use Rattle.hose_plan.proofs.root.best_root.Given as goal

abbrev pub invariant-loop-node : goal.invariant-loop-node
invariant-loop-node l = record {
  weights : AreSoFar l.top l.links l.hose l.node-index l.weights.items;
  made : AreDistancesOver l.top l.links l.made.items;
}
