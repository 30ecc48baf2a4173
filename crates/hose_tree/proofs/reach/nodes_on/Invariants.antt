use Rattle.hose_tree.specs.steps.Nodes.{AreNodesBelow}
use Rattle.hose_tree.proofs.reach.nodes_on.Given as goal

abbrev pub invariant-loop-v : goal.invariant-loop-v
invariant-loop-v l = AreNodesBelow l.side l.v l.nodes.items
