use Rattle.hose_tree.proofs.Marking.{IsMarked}
use Rattle.hose_tree.proofs.traffic.mark_beyond.Given as goal

abbrev pub invariant-loop-step : goal.invariant-loop-step
invariant-loop-step l = IsMarked l.tree l.link l.step-index l.marks
