use Rattle.std.proofs.Common.{ℕ, ◌<◌}
use Rattle.hose_plan.specs.steps.Planning.{IsSafeStill}
use Rattle.hose_plan.proofs.holding.are_safe.Given as goal

abbrev pub invariant-loop-link : goal.invariant-loop-link
invariant-loop-link l = (k : ℕ) → k < l.link → IsSafeStill l.top l.service l.loads l.grounds.half l.grounds.safe k
