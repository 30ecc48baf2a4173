use Rattle.std.proofs.Common.{ℕ, ◌<◌, get_or}
use Rattle.hose_plan.proofs.NamedLinks.{IsSettled}
use Rattle.hose_plan.proofs.since.are_safe_since.Given as goal

abbrev pub invariant-loop-epoch : goal.invariant-loop-epoch
invariant-loop-epoch l = (k : ℕ) → k < l.epoch-index → IsSettled l.top l.service l.loads l.changes l.seen l.grounds.half l.grounds.safe (get_or l.changes k (0, 0))
