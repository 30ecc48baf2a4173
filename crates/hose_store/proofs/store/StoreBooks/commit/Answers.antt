use Rattle.std.proofs.Common.{◌≡◌, subst, sym}
use Rattle.hose_law.specs.History.{IsSoundAt}
use Rattle.hose_book.specs.Ledger.{Ledger}
use Rattle.hose_book.specs.steps.Ledger.{TracksOn}
use Rattle.hose_book.specs.declared.books.Committed.TheVariants.{Disk, Done}
use Rattle.hose_store.specs.steps.Commit.{Went}
use Rattle.hose_store.specs.steps.Store.{KeptStore, account_of}
use Rattle.hose_store.proofs.Commits.{left_with, went_done, went_failed}
use Rattle.hose_store.proofs.Histories.{few_entries}
use Rattle.hose_store.proofs.store.StoreBooks.commit.Goals.{in-Admit-1, in-Release-1}
use Rattle.hose_store.proofs.store.StoreBooks.commit.Goals as goal

pub append-requires-clause-stands : goal.append-requires-clause-stands
append-requires-clause-stands g c =
    let book = c.self.inside.book in
    let has = c.self.invariant in
    let sound : IsSoundAt book.network book.book c.args.entry = subst (λ (s : KeptStore g.row.D.Denot). IsSoundAt s.ledger.network s.ledger.book c.args.entry) (sym c.self.view_is) c.requires.sound in
    (account_of book.network has.0 has.1, c.args.entry, has.2.journal, c.requires.ready, few_entries book.network book.book has.0 c.args.entry has.2.book sound)

pub invariant_of-self : goal.invariant_of-self
invariant_of-self g c =
    let book = c.self.inside.book in
    let old : KeptStore g.row.D.Denot = record { ledger = book; journal = c.self.inside.journal } in
    let has = c.self.invariant in
    let entry = c.args.entry in
    let sound : IsSoundAt book.network book.book entry = subst (λ (s : KeptStore g.row.D.Denot). IsSoundAt s.ledger.network s.ledger.book entry) (sym c.self.view_is) c.requires.sound in
    let tracks = subst (TracksOn book entry) c.apply.ensures.ledger c.apply.ensures.tracks in
    let went = went_done g.D.Disk old c.append.new.self entry c.args.ready c.requires.ready sound
    c.append.ensures.any_moment c.append.ensures.tells c.append.ensures.call.opened c.append.ensures.sealed tracks c.in-Ok.ensures.added c.in-Ok.ensures.call.told in
    left_with g.D.Disk has.0 has.1 entry Done _ ((subst (λ (ledger : Ledger). Went g.D.Disk old entry Done (record { ledger = ledger; journal = c.append.new.self })) (sym c.apply.ensures.ledger) went).left has.0 has.1 has.2)

pub returns-in-Ok-clause-went : goal.returns-in-Ok-clause-went
returns-in-Ok-clause-went g c =
    let book = c.self.inside.book in
    let old : KeptStore g.row.D.Denot = record { ledger = book; journal = c.self.inside.journal } in
    let entry = c.args.entry in
    let sound : IsSoundAt book.network book.book entry = subst (λ (s : KeptStore g.row.D.Denot). IsSoundAt s.ledger.network s.ledger.book entry) (sym c.self.view_is) c.requires.sound in
    let tracks = subst (TracksOn book entry) c.apply.ensures.ledger c.apply.ensures.tracks in
    let went = went_done g.D.Disk old c.append.new.self entry c.args.ready c.requires.ready sound
    c.append.ensures.any_moment c.append.ensures.tells c.append.ensures.call.opened c.append.ensures.sealed tracks c.in-Ok.ensures.added c.in-Ok.ensures.call.told in
    subst (λ (s : KeptStore g.row.D.Denot). Went g.D.Disk s entry Done (record { ledger = c.apply.new.self; journal = c.append.new.self })) c.self.view_is
    (subst (λ (ledger : Ledger). Went g.D.Disk old entry Done (record { ledger = ledger; journal = c.append.new.self })) (sym c.apply.ensures.ledger) went)

pub invariant_of-self-in-Err : goal.invariant_of-self-in-Err
invariant_of-self-in-Err g c =
    let book = c.self.inside.book in
    let has = c.self.invariant in
    let entry = c.args.entry in
    let sound : IsSoundAt book.network book.book entry = subst (λ (s : KeptStore g.row.D.Denot). IsSoundAt s.ledger.network s.ledger.book entry) (sym c.self.view_is) c.requires.sound in
    let went = went_failed g.D.Disk (record { ledger = book; journal = c.self.inside.journal }) c.append.new.self entry c.args.ready c.requires.ready sound
    c.append.ensures.any_moment c.append.ensures.tells c.append.ensures.call.opened c.append.ensures.sealed c.in-Err.ensures.failed c.in-Err.ensures.call.told in
    left_with g.D.Disk has.0 has.1 entry Disk _ (went.left has.0 has.1 has.2)

pub invariant_of-self-in-Err-2 : goal.invariant_of-self-in-Err-2
invariant_of-self-in-Err-2 g c =
    let book = c.self.inside.book in
    let has = c.self.invariant in
    let entry = c.args.entry in
    let sound : IsSoundAt book.network book.book entry = subst (λ (s : KeptStore g.row.D.Denot). IsSoundAt s.ledger.network s.ledger.book entry) (sym c.self.view_is) c.requires.sound in
    let went = went_failed g.D.Disk (record { ledger = book; journal = c.self.inside.journal }) c.append.new.self entry c.args.ready c.requires.ready sound
    c.append.ensures.any_moment c.append.ensures.tells c.append.ensures.call.opened c.append.ensures.sealed c.in-Err.ensures.failed c.in-Err.ensures.call.told in
    left_with g.D.Disk has.0 has.1 entry Disk _ (went.left has.0 has.1 has.2)

pub returns-in-Err-clause-went : goal.returns-in-Err-clause-went
returns-in-Err-clause-went g c =
    let book = c.self.inside.book in
    let entry = c.args.entry in
    let sound : IsSoundAt book.network book.book entry = subst (λ (s : KeptStore g.row.D.Denot). IsSoundAt s.ledger.network s.ledger.book entry) (sym c.self.view_is) c.requires.sound in
    let went = went_failed g.D.Disk (record { ledger = book; journal = c.self.inside.journal }) c.append.new.self entry c.args.ready c.requires.ready sound
    c.append.ensures.any_moment c.append.ensures.tells c.append.ensures.call.opened c.append.ensures.sealed c.in-Err.ensures.failed c.in-Err.ensures.call.told in
    let now : KeptStore g.row.D.Denot = record { ledger = book; journal = c.append.new.self } in
    let same : c.match-entry.self ≡ now = elim c.match-entry.branch [
      | in-Admit-1 w ↦ w.self-is
      | in-Release-1 w ↦ w.self-is
    ] in
    rw same (subst (λ (s : KeptStore g.row.D.Denot). Went g.D.Disk s entry Disk now) c.self.view_is went)
