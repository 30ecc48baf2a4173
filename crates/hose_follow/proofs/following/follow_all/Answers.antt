use Rattle.hose_follow.specs.steps.Follower.{follower_tellings}
use Rattle.hose_follow.proofs.Exchanges.{ended, followed_none, exchanged}
use Rattle.hose_follow.proofs.following.follow_all.Goals as goal

pub loop-end-init : goal.loop-end-init
loop-end-init g c = followed_none (follower_tellings g.S.Source g.O.Sink g.D.Disk) _ c.requires.pending c.requires.taken

pub loop-end-preserved : goal.loop-end-preserved
loop-end-preserved g c = exchanged (follower_tellings g.S.Source g.O.Sink g.D.Disk) _ _ _ c.in_default.field-0 c.loop-end.invariant c.in_default.ensures

pub returns-in-Err : goal.returns-in-Err
returns-in-Err g c = ended (follower_tellings g.S.Source g.O.Sink g.D.Disk) _ _ _ c.in-Err.end c.loop-end.invariant c.in-Err.ensures
