use Rattle.std.proofs.Common.{None, refl, sym, subst}
use Rattle.std.proofs.lemmas.Result.{on_ok_weaker}
use Rattle.hose_journal.specs.steps.Entries.{IsListOf}
use Rattle.hose_journal.specs.steps.Journal.{IsListAmid, with_doubt}
use Rattle.hose_journal.specs.Moments.{Images, LeavesOnly}
use Rattle.hose_journal.proofs.Accounts.{stands_amid, sure_lists}
use Rattle.hose_journal.proofs.Runs.{goes_on, started}
use Rattle.hose_store.proofs.closing.settle_or_sync.Goals as goal

pub returns-then-doubt-clause-any_moment : goal.returns-then-doubt-clause-any_moment
returns-then-doubt-clause-any_moment g c = λ account stands.
    subst (λ (left : g.row.D.Denot). LeavesOnly g.D.Disk c.args.journal.disk left (IsListAmid account None)) (sym c.stop.ensures) (c.settle-result.ensures.any_moment account stands)

pub returns-then-doubt-clause-settled : goal.returns-then-doubt-clause-settled
returns-then-doubt-clause-settled g c = on_ok_weaker c.settle-result.result
    (λ settled account stands.
    subst (λ (left : g.row.D.Denot). Images g.D.Disk left (IsListOf account.digest account.entries)) (sym c.stop.ensures)
    (sure_lists g.D.Disk c.settle-result.new.self (with_doubt account None) (settled account stands) refl)) c.settle-result.ensures.settled

pub returns-clause-any_moment : goal.returns-clause-any_moment
returns-clause-any_moment g c = λ account stands.
    let disk = g.D.Disk in
    let old = c.stop-disk.result in
    let P = IsListAmid account None in
    let amid = subst (λ (now : g.row.D.Denot). Images disk now P) (sym c.stop-disk.ensures) (stands_amid disk c.args.journal account stands) in
    let run = goes_on disk old old c.sync-result.new.self P (started disk old P (g.met.D.Disk.only_now old) amid) c.sync-result.ensures.time (λ image is. amid image (c.sync-result.ensures.images image is)) in
    subst (λ (from : g.row.D.Denot). LeavesOnly disk from c.sync-result.new.self P) c.stop-disk.ensures run
