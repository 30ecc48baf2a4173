use Rattle.std.proofs.Common.{ℕ, ◌<◌, get_or}
use Rattle.hose_plan.proofs.NamedLinks.{IsServedAgain}
use Rattle.hose_plan.proofs.since.is_service_since.Given as goal

abbrev pub invariant-loop-at : goal.invariant-loop-at
invariant-loop-at l = (k : ℕ) → k < l.at-index → IsServedAgain l.top l.service l.changes l.seen l.served (get_or l.changes k (0, 0))
