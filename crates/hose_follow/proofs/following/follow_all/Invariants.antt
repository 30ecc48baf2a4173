use Rattle.std.proofs.Common.{◌+◌, ◌-◌, ◌*◌, ◌^◌, length}
use Rattle.hose_follow.specs.steps.Exchanging.{FollowsOn, follow_state}
use Rattle.hose_follow.specs.steps.Follower.{follower_tellings}
use Rattle.hose_follow.proofs.following.follow_all.Given as goal

abbrev pub invariant-loop-end : goal.invariant-loop-end
invariant-loop-end g l = FollowsOn (follower_tellings g.S.Source g.O.Sink g.D.Disk)
    (follow_state l.fn.source l.fn.intake l.fn.sink l.fn.store) (follow_state l.source l.intake l.sink l.store)

abbrev pub decreases-loop-end : goal.decreases-loop-end
decreases-loop-end g l = 2 ^ 31 - 2 * l.intake.taken + length l.intake.buffer.pending
