use Rattle.std.proofs.Common.{reverse}
use Rattle.hose_tree.proofs.Unwinding.{IsUnwound}
use Rattle.hose_tree.proofs.reserve.amounts_by_step.Given as goal

abbrev pub invariant-loop-step : goal.invariant-loop-step
invariant-loop-step l = IsUnwound l.tree l.hose (reverse l.step-iterator.iter.rest.now) l.rates l.pairs.items
