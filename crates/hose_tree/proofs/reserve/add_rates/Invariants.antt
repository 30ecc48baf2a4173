use Rattle.std.proofs.Common.{take}
use Rattle.hose_tree.specs.steps.Rates.{AreRatesOf}
use Rattle.hose_tree.proofs.reserve.add_rates.Given as goal

abbrev pub invariant-loop-node : goal.invariant-loop-node
invariant-loop-node l = AreRatesOf (take l.node-index l.ends) l.rates
