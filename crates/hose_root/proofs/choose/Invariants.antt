-- The best of the places so far.
use Rattle.hose_root.proofs.Best.{BestBelow}
use Rattle.hose_root.proofs.choose.Given as goal

abbrev pub invariant-loop-place : goal.invariant-loop-place
invariant-loop-place l = BestBelow l.weights l.place l.best
