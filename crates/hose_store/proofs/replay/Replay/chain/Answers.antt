use Rattle.hose_store.proofs.Replays.{has_entries}
use Rattle.hose_store.proofs.replay.Replay.chain.Goals as goal

pub returns-clause-held : goal.returns-clause-held
returns-clause-held g c = λ was network entries replaying. has_entries g.D.Disk was network c.args.self.now entries replaying
