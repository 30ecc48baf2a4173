-- What is asked for is as it was, and the pass has maybe seen more.
use Rattle.std.proofs.Common.{◌≡◌}
use Rattle.hose_shared.specs.steps.Sharing.{HasSeenMore}
use Rattle.hose_shared.proofs.shared.Shared.admit_bound.Given as goal

abbrev pub invariant-loop : goal.invariant-loop
invariant-loop g l = (l.asked ≡ l.fn.asked) × HasSeenMore l.fn.pass l.pass
