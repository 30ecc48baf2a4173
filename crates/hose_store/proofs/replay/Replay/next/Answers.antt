use Rattle.hose_store.proofs.Before.{all_before}
use Rattle.hose_store.proofs.Replays.{replayed}
use Rattle.hose_store.proofs.replay.Replay.next.Goals as goal

pub returns-clause-read : goal.returns-clause-read
returns-clause-read g c = λ was network entries replaying.
    replayed g.D.Disk was network c.args.self.now _ entries replaying (g.met.D.Disk.counts_now replaying.opened) (g.met.D.Disk.untold c.read_next.new.reading.disk) c.read_next.ensures.on.network c.read_next.ensures.on.only
    c.read_next.result (c.read_next.ensures.next entries replaying.given) c.read_next.ensures.on.count c.read_next.ensures.on.stopped

pub returns-clause-until : goal.returns-clause-until
returns-clause-until g c = all_before g.D.Disk c.args.self.now c.read_next.new.book c.read_next.new.reading c.read_next.ensures.on.network c.read_next.ensures.on.only c.read_next.result c.read_next.ensures.next
