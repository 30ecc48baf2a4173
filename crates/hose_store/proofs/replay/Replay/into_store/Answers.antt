use Rattle.hose_store.proofs.Becoming.{becomes, fails_after}
use Rattle.hose_store.proofs.replay.Replay.into_store.Goals as goal

pub returns-clause-becomes : goal.returns-clause-becomes
returns-clause-becomes g c = becomes g.D.Disk c.args.self c.from_reading.result (g.met.D.Disk.counts_now) c.requires.4 c.from_reading.ensures.ledger c.from_reading.ensures.has c.from_reading.ensures.any_moment c.from_reading.ensures.count c.from_reading.ensures.keeps

pub returns-clause-failed : goal.returns-clause-failed
returns-clause-failed g c = fails_after g.D.Disk c.args.self c.from_reading.result (g.met.D.Disk.counts_now) c.requires.4 c.from_reading.ensures.any_moment c.from_reading.ensures.failed c.from_reading.ensures.keeps
