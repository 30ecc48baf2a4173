-- The best of the places so far.
use Rattle.hose_price.proofs.Best.{IsFirstBelow}
use Rattle.hose_price.proofs.priced.best_of.Given as goal

abbrev pub invariant-loop-place : goal.invariant-loop-place
invariant-loop-place l = IsFirstBelow l.prices l.place l.best
