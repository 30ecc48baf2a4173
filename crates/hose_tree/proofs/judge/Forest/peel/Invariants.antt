use Rattle.hose_tree.specs.steps.Peeling.{HasNoLeafBelow, KeepsQuestions}
use Rattle.hose_tree.proofs.judge.Forest.peel.Given as goal

abbrev pub invariant-loop-node : goal.invariant-loop-node
invariant-loop-node l = KeepsQuestions l.top l.total l.fn.self l.self × HasNoLeafBelow l.node l.self
