use Rattle.std.proofs.Common.{◌≡◌, ◌≤◌, ◌∙◌, List, ℕ, [], length, sym, ap, subst, None}
use Rattle.hose_graph.specs.Network.{Network}
use Rattle.hose_graph.specs.declared.limits.TheConstants.{MOST_EPOCH}
use Rattle.hose_book.specs.Ledger.{Ledger}
use Rattle.hose_journal.specs.steps.Entries.{IsListOf}
use Rattle.hose_journal.specs.steps.Journal.{Stands}
use Rattle.hose_journal.specs.Moments.{LeavesOnly}
use Rattle.hose_journal.specs.steps.Opening.{IsOpened, KeepsList}
use Rattle.hose_journal.specs.steps.Reading.{Reads}
use Rattle.hose_store.specs.Opening.{IsAtOpening, IsRefusedStore}
use Rattle.hose_store.specs.steps.Opening.{IsOpenedOn, IsStopped}
use Rattle.hose_store.specs.Recovery.{digest_of}
use Rattle.hose_store.specs.steps.Store.{account_of}
use Rattle.hose_store.proofs.Histories.{few_in_history, is_digest, sound_items}
use Rattle.hose_store.proofs.Openings.{at_opening, has_recovered, opened_on, opened_then, read_history, refused_entries, refused_open, sealing_run}
use Rattle.hose_store.proofs.Readings.{given_first}
use Rattle.hose_store.proofs.store.Store.open.Goals.{After-finish}
use Rattle.hose_store.proofs.store.Store.open.Goals as goal

pub returns-in-Err-clause-any_moment : goal.returns-in-Err-clause-any_moment
returns-in-Err-clause-any_moment g c =
    let is = is_digest c.args.top c.digest-digest.result c.digest-digest.ensures in
    at_opening g.D.Disk c.args.disk c.in-Err.refused.1 c.args.top
    (subst (λ (digest : List ℕ). LeavesOnly g.D.Disk c.args.disk c.in-Err.refused.1 (IsOpened g.D.Disk c.args.disk digest)) is c.in-Err.ensures.any_moment)

pub returns-in-Err-clause-refused : goal.returns-in-Err-clause-refused
returns-in-Err-clause-refused g c =
    refused_open g.D.Disk c.args.disk c.in-Err.refused.1 c.args.top c.digest-digest.result c.in-Err.refused.0 _ (is_digest c.args.top c.digest-digest.result c.digest-digest.ensures) c.from.ensures
    (g.met.D.Disk.only_now c.args.disk) (g.met.D.Disk.untold c.in-Err.refused.1) c.in-Err.ensures.keeps c.in-Err.ensures.any_moment c.in-Err.ensures.refused

pub recover-requires : goal.recover-requires
recover-requires g c =
    let top = c.args.top in
    let is = is_digest top c.digest-digest.result c.digest-digest.ensures in
    let reads = subst (λ (digest : List ℕ). Reads g.D.Disk c.in-Ok-open.reading digest []) is c.in-Ok-open.ensures.reads in
    ([], given_first g.D.Disk c.in-Ok.book top c.in-Ok-open.reading c.in-Ok.ensures.value c.in-Ok.ensures.tracks reads c.in-Ok-open.ensures.fault)

-- the journal stands for the history that was read, which is short enough
stands : (g : _) (c : After-finish g) → Stands g.D.Disk c.finish.result (account_of c.recover.new.book.network c.in-Ok-recover.ensures.recovered.0 None) × (length c.in-Ok-recover.ensures.recovered.0 ≤ MOST_EPOCH)
stands g c =
    let book = c.recover.new.book in
    let history = c.in-Ok-recover.ensures.recovered.0 in
    let given = c.in-Ok-recover.ensures.recovered.1 in
    (c.finish.ensures.stands (digest_of book.network) history given.reads, few_in_history book.network history (sound_items book.network history given.sound))

-- up to the seal and within it
sealed_run : (g : _) (c : After-finish g) (new : g.row.D.Denot) → LeavesOnly g.D.Disk c.finish.result.disk new (IsListOf (digest_of c.recover.new.book.network) c.in-Ok-recover.ensures.recovered.0) → LeavesOnly g.D.Disk c.args.disk new (IsAtOpening g.D.Disk c.args.disk c.args.top)
sealed_run g c new run =
    let is = is_digest c.args.top c.digest-digest.result c.digest-digest.ensures in
    sealing_run g.D.Disk c.args.disk c.in-Ok-open.reading.disk c.finish.result.disk new c.args.top c.digest-digest.result c.recover.new.book c.recover.new.reading c.in-Ok-recover.ensures.recovered.0 c.in-Ok-recover.ensures.recovered.1 is
    (c.recover.ensures.network ∙ ap (λ (l : Ledger). l.network) c.in-Ok.ensures.value) (g.met.D.Disk.counts_now c.in-Ok-open.reading.disk) c.in-Ok-open.ensures.keeps c.in-Ok-open.ensures.list
    c.in-Ok-open.ensures.any_moment c.recover.ensures.only c.in-Ok-recover.ensures.closed c.finish.ensures.disk run

pub seal_plain-requires-clause-stands : goal.seal_plain-requires-clause-stands
seal_plain-requires-clause-stands g c =
    let is = stands g (goal.at.seal_plain-requires-clause-stands g c).After-finish in
    (account_of c.recover.new.book.network c.in-Ok-recover.ensures.recovered.0 None, is.0, is.1)

pub seal_plain-requires-clause-sure : goal.seal_plain-requires-clause-sure
seal_plain-requires-clause-sure g c = sym (stands g (goal.at.seal_plain-requires-clause-sure g c).After-finish).0.doubt

pub invariant_of-result : goal.invariant_of-result
invariant_of-result g c =
    let book = c.recover.new.book in
    let history = c.in-Ok-recover.ensures.recovered.0 in
    let is = stands g (goal.at.invariant_of-result g c).After-finish in (
      history,
      None,
      has_recovered g.D.Disk book c.recover.new.reading c.in-Ok-seal_plain.journal history c.in-Ok-recover.ensures.recovered.1
          (c.in-Ok-seal_plain.ensures.stands (account_of book.network history None) is.0 is.1) c.in-Ok-seal_plain.ensures.sealed,
    )

pub returns-in-Ok-seal_plain-clause-any_moment : goal.returns-in-Ok-seal_plain-clause-any_moment
returns-in-Ok-seal_plain-clause-any_moment g c =
    let at = goal.at.returns-in-Ok-seal_plain-clause-any_moment g c in
    let is = stands g at.After-finish in
    sealed_run g at.After-finish c.in-Ok-seal_plain.journal.disk (c.in-Ok-seal_plain.ensures.any_moment (account_of c.recover.new.book.network c.in-Ok-recover.ensures.recovered.0 None) is.0 is.1)

pub returns-in-Ok-seal_plain-clause-opened : goal.returns-in-Ok-seal_plain-clause-opened
returns-in-Ok-seal_plain-clause-opened g c =
    let disk = g.D.Disk in
    let old = c.args.disk in
    let mid = c.in-Ok-open.reading.disk in
    let book = c.recover.new.book in
    let reading = c.recover.new.reading in
    let history = c.in-Ok-recover.ensures.recovered.0 in
    let given = c.in-Ok-recover.ensures.recovered.1 in
    let is = is_digest c.args.top c.digest-digest.result c.digest-digest.ensures in
    let network : book.network ≡ c.args.top = c.recover.ensures.network ∙ ap (λ (l : Ledger). l.network) c.in-Ok.ensures.value in
    let list = subst (λ (digest : List ℕ). KeepsList (disk.content old) (disk.content mid) digest) (is ∙ ap digest_of (sym network)) c.in-Ok-open.ensures.list in
    let read = read_history disk old mid book reading history given c.in-Ok-open.ensures.keeps.tells list c.recover.ensures.only.same c.in-Ok-recover.ensures.closed in
    let is_there = stands g (goal.at.returns-in-Ok-seal_plain-clause-opened g c).After-finish in
    let journal = c.in-Ok-seal_plain.journal in
    subst (λ (top : Network). IsOpenedOn disk old top (record { ledger = book; journal = journal })) network
    (opened_on disk old book reading journal history given read (c.in-Ok-seal_plain.ensures.stands (account_of book.network history None) is_there.0 is_there.1) c.in-Ok-seal_plain.ensures.sealed)

pub returns-in-Err-seal_plain-clause-any_moment : goal.returns-in-Err-seal_plain-clause-any_moment
returns-in-Err-seal_plain-clause-any_moment g c =
    let at = goal.at.returns-in-Err-seal_plain-clause-any_moment g c in
    let is = stands g at.After-finish in
    sealed_run g at.After-finish c.in-Err-seal_plain.disk (c.in-Err-seal_plain.ensures.any_moment (account_of c.recover.new.book.network c.in-Ok-recover.ensures.recovered.0 None) is.0 is.1)

pub returns-in-Err-recover-clause-any_moment : goal.returns-in-Err-recover-clause-any_moment
returns-in-Err-recover-clause-any_moment g c =
    let disk = g.D.Disk in
    let old = c.args.disk in
    let mid = c.in-Ok-open.reading.disk in
    let is = is_digest c.args.top c.digest-digest.result c.digest-digest.ensures in
    let run = subst (λ (digest : List ℕ). LeavesOnly disk old mid (IsOpened disk old digest)) is c.in-Ok-open.ensures.any_moment in
    subst (λ (new : g.row.D.Denot). LeavesOnly disk old new (IsAtOpening disk old c.args.top)) (sym c.stop.ensures)
    (at_opening disk old c.recover.new.reading.disk c.args.top (opened_then disk old mid c.recover.new.reading.disk (digest_of c.args.top) (g.met.D.Disk.counts_now mid) run c.recover.ensures.only))

pub returns-in-Err-recover-clause-refused : goal.returns-in-Err-recover-clause-refused
returns-in-Err-recover-clause-refused g c =
    let disk = g.D.Disk in
    let old = c.args.disk in
    let mid = c.in-Ok-open.reading.disk in
    let new = c.recover.new.reading.disk in
    let top = c.args.top in
    let is = is_digest top c.digest-digest.result c.digest-digest.ensures in
    let run = subst (λ (digest : List ℕ). LeavesOnly disk old mid (IsOpened disk old digest)) is c.in-Ok-open.ensures.any_moment in
    let later = opened_then disk old mid new (digest_of top) (g.met.D.Disk.counts_now mid) run c.recover.ensures.only in
    let list = subst (λ (digest : List ℕ). KeepsList (disk.content old) (disk.content mid) digest) is c.in-Ok-open.ensures.list in
    let reads = subst (λ (digest : List ℕ). Reads disk c.in-Ok-open.reading digest []) is c.in-Ok-open.ensures.reads in
    let stopped = subst (λ (network : Network). IsStopped disk mid new network c.in-Err-recover.fault) (ap (λ (l : Ledger). l.network) c.in-Ok.ensures.value) c.in-Err-recover.ensures.stopped in
    subst (λ (last : g.row.D.Denot). IsRefusedStore disk old last top c.in-Err-recover.fault) (sym c.stop.ensures)
    (refused_entries disk old mid new top c.in-Err-recover.fault reads.size (g.met.D.Disk.untold new) c.in-Ok-open.ensures.keeps list c.recover.ensures.only.same later stopped)
