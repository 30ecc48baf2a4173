use Rattle.std.proofs.Common.{length}
use Rattle.hose_disk.specs.steps.Disk.{IsOverwritten}
use Rattle.hose_journal.proofs.Runs.{goes_on, only_content, synced_step, torn_run}
use Rattle.hose_journal.proofs.steps.put.Goals as goal

pub returns-in_err-write_at-clause-any_moment : goal.returns-in_err-write_at-clause-any_moment
returns-in_err-write_at-clause-any_moment g c =
    let old = c.args.disk.now in
    torn_run g.D.Disk old c.write_at.new.self c.args.at (length c.args.bytes.now) (g.met.D.Disk.only_now old) c.write_at.ensures.time c.write_at.ensures.images

pub returns-in_err-sync-clause-any_moment : goal.returns-in_err-sync-clause-any_moment
returns-in_err-sync-clause-any_moment g c =
    let old = c.args.disk.now in
    let wrote = torn_run g.D.Disk old c.write_at.new.self c.args.at (length c.args.bytes.now) (g.met.D.Disk.only_now old) c.write_at.ensures.time c.write_at.ensures.images in
    goes_on g.D.Disk old c.write_at.new.self c.sync.new.self _ wrote c.sync.ensures.time (λ d image. c.write_at.ensures.images d (c.sync.ensures.images d image))

pub returns-clause-any_moment : goal.returns-clause-any_moment
returns-clause-any_moment g c =
    let old = c.args.disk.now in
    let wrote = torn_run g.D.Disk old c.write_at.new.self c.args.at (length c.args.bytes.now) (g.met.D.Disk.only_now old) c.write_at.ensures.time c.write_at.ensures.images in
    goes_on g.D.Disk old c.write_at.new.self c.sync.new.self _ wrote c.sync.ensures.time (λ d image. c.write_at.ensures.images d (c.sync.ensures.images d image))

pub returns-clause-landed : goal.returns-clause-landed
returns-clause-landed g c =
    synced_step g.D.Disk (IsOverwritten c.args.at c.args.bytes.now) c.args.disk.now c.write_at.new.self c.sync.new.self (g.met.D.Disk.reads_an_image c.args.disk.now) (g.met.D.Disk.counts_now c.sync.new.self)
    (g.met.D.Disk.untold c.sync.new.self) c.in_ok-write_at.ensures.written c.sync.ensures.same c.in_ok-sync.ensures.durable

pub returns-clause-durable : goal.returns-clause-durable
returns-clause-durable g c =
    only_content g.D.Disk c.write_at.new.self c.sync.new.self (g.met.D.Disk.counts_now c.sync.new.self) (g.met.D.Disk.untold c.sync.new.self) c.sync.ensures.same c.in_ok-sync.ensures.durable
