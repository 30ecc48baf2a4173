use Rattle.hose_disk.specs.steps.Disk.{IsTruncated}
use Rattle.hose_journal.proofs.Beginnings.{cut_empties, emptied_run}
use Rattle.hose_journal.proofs.Runs.{synced_step}
use Rattle.hose_journal.proofs.beginning.empty.Goals as goal

pub returns-in_err-sync-clause-any_moment : goal.returns-in_err-sync-clause-any_moment
returns-in_err-sync-clause-any_moment g c =
    emptied_run g.D.Disk c.args.disk.now c.sync.new.self c.cut.new.self c.requires (g.met.D.Disk.only_now c.args.disk.now) c.cut.ensures.time c.cut.ensures.images c.sync.ensures.time c.sync.ensures.images

pub returns-clause-any_moment : goal.returns-clause-any_moment
returns-clause-any_moment g c =
    emptied_run g.D.Disk c.args.disk.now c.sync.new.self c.cut.new.self c.requires (g.met.D.Disk.only_now c.args.disk.now) c.cut.ensures.time c.cut.ensures.images c.sync.ensures.time c.sync.ensures.images

pub returns-clause-emptied : goal.returns-clause-emptied
returns-clause-emptied g c =
    let synced = c.sync.new.self in
    cut_empties g.D.Disk c.args.disk.now synced (synced_step g.D.Disk (IsTruncated 0) c.args.disk.now c.cut.new.self synced (g.met.D.Disk.reads_an_image c.args.disk.now) (g.met.D.Disk.counts_now synced)
    (g.met.D.Disk.untold synced) c.in_ok-cut.ensures.cut c.sync.ensures.same c.in_ok-sync.ensures.durable)
