use Rattle.std.proofs.Common.{◌≡◌}
use Rattle.cases_lead.proofs.machines.leader.Given as goal

abbrev pub invariant-loop-number : goal.invariant-loop-number
invariant-loop-number l = l.recent.epoch ≡ l.number
