use Rattle.hose_follow.specs.steps.Follower.{follower, follower_tellings}
use Rattle.hose_follow.proofs.Ending.{nothing_done}
use Rattle.hose_follow.proofs.following.follow.Goals as goal

pub returns-in_default : goal.returns-in_default
returns-in_default g c = nothing_done (follower_tellings g.S.Source g.O.Sink g.D.Disk) (follower c.args.source.now c.args.sink.now c.args.store.now)
