-- What an audit does, from what was read and what was told.
use Rattle.std.proofs.Common.{◌≡◌, ◌≢◌, ◌∙◌, ◌⊎◌, inl, inr, ℕ, List, IsErr, Result, Ok, Err, refl, sym, ap, subst}
use Rattle.std.specs.Prelude.{⊤}
use Rattle.hose_io.specs.Frame.{Frame, Met}
use Rattle.hose_io.specs.declared.Failed.{Failed}
use Rattle.hose_io.specs.declared.sink.Sink.{Ghosts as SinkGhosts}
use Rattle.hose_graph.specs.Network.{Network}
use Rattle.hose_graph.specs.declared.entry.Entry.{Entry}
use Rattle.hose_law.specs.History.{EntryKind, book_of, IsSound}
use Rattle.hose_audit.specs.Audit.{audit_text}
use Rattle.hose_book.specs.Ledger.{Ledger}
use Rattle.hose_disk.specs.Cabinet.{object_of}
use Rattle.hose_store.specs.Recovery.{IsHistoryOf}
use Rattle.hose_store.specs.steps.Store.{KeptStore}
use Rattle.hose_offline.specs.AuditOutcome.{AuditOutcome, IsAudited, to_audit, HasAudited}
use Rattle.hose_offline.specs.steps.AuditOutcome.{AuditsJournal}
use Rattle.hose_outside.specs.Reading.{PricedNames, ReadsTopology}
use Rattle.hose_outside.specs.Ending.{EndsTold, NoneFailed}
use Rattle.hose_outside.specs.Fault.{status_of}
use Rattle.hose_outside.specs.steps.Journal.{ClosesJournal, OpensJournal, TouchesOnly}
use Rattle.hose_outside.specs.OnDisk.{CabinetFailed}
use Rattle.hose_outside.specs.Parts.{Parts, Tellings}
use Rattle.hose_outside.specs.Unopened.{first_of}
use Rattle.hose_outside.specs.declared.fault.Fault.{Fault}
use Rattle.hose_outside.specs.declared.fault.Fault.TheVariants.{Cabinet}
use Rattle.hose_outside.proofs.TextsRead.{has_before, held_before}
use Rattle.hose_outside.proofs.Outcomes.{clash}
use Rattle.hose_store.specs.steps.Opening.{IsOpenedOn}
use Rattle.hose_outside.specs.Journal.{IsLeftWith}
use Rattle.hose_outside.proofs.PutBack.{IsPutBack, TakenFrom, at_opening, counts, held_as, left_as}
use Rattle.hose_outside.proofs.Named.{named_not_1, named_not_read, named_read, no_store, told_status}
use Rattle.hose_outside.proofs.Journals.{put_back}

-- closing alone fails as the cabinet does
closing_alone : (closing : Result ⊤ Failed) (why : Fault) → first_of (Ok tt) closing ≡ Err why → why ≡ Cabinet
closing_alone (Ok done) why is = cc is
closing_alone (Err failed) why is = cc is

told_not : {O : Type 0} (sink : SinkGhosts O) (output output' : O) (status : ℕ) (closing : Result ⊤ Failed) (text : List ℕ) (other : ℕ) → EndsTold sink output output' status (first_of (Ok tt) closing) text → other ≢ 0 → other ≢ 4 → other ≢ 6 → status ≡ other → ⊥
told_not sink output output' status closing text other ends no_0 no_4 no_6 is =
    told_status sink output output' status (first_of (Ok tt) closing) text ends other no_0 no_4 (λ why fault same. no_6 (sym same ∙ ap status_of (closing_alone closing why fault))) is

module _ {I O C E : Type 0} (tells : Tellings I O C E) (name : List ℕ) (before after : Parts I O C) (mid : C) (network : Network) (store : KeptStore E) (Kind : EntryKind) (closing : Result ⊤ Failed)
    (opens : OpensJournal tells.cabinet tells.disk Kind name before.cabinet mid network store) (closes : ClosesJournal tells.cabinet tells.disk mid after.cabinet store closing) where
  abbrev opened : IsOpenedOn tells.disk opens.was network store
  opened = opens.opens.opened

  unused_back : IsPutBack tells.cabinet tells.disk name before.cabinet mid after.cabinet opens.was closes.left
  unused_back = put_back tells.cabinet tells.disk name before.cabinet mid after.cabinet network store Kind opens store closing closes

  left_before : (was : E) → TakenFrom tells.cabinet tells.disk name before.cabinet mid after.cabinet network opens.was closes.left unused_back was → IsLeftWith tells.disk was network opened.history closes.left
  left_before was is =
      let images = opens.opens.unused closes.left closing closes.closes in
      record {
        now = images.now;
        moments = λ image since. at_opening tells.cabinet tells.disk name before.cabinet mid after.cabinet network opens.was closes.left unused_back was image is.0 is.1.0
            (images.moments image (subst (λ (t : ℕ). tells.disk.left_since closes.left t image) (sym is.1.1) since));
      }

  -- the journal was opened and closed, and nothing was entered
  pub audits_in : HasAudited tells name before after network opened.history closing
  audits_in = record {
    begun = held_as tells.cabinet tells.disk name before.cabinet mid after.cabinet network opens.was closes.left unused_back (IsHistoryOf network opened.history) opened.read;
    sound = subst (λ (n : Network). IsSound n 0 opened.history) opened.network opened.has.sound;
    met = counts tells.cabinet tells.disk name before.cabinet mid after.cabinet network opens.was closes.left unused_back closing closes.call.told;
    left = left_as tells.cabinet tells.disk name before.cabinet mid after.cabinet network opens.was closes.left unused_back (λ was now. IsLeftWith tells.disk was network opened.history now) left_before;
  }

  -- the text of the book that comes back is that of the history's
  pub audit_text_of : (ledger : Ledger) → ledger ≡ store.ledger → audit_text ledger.network ledger.book ≡ audit_text network (book_of 0 opened.history)
  audit_text_of ledger is =
      ap (λ (l : Ledger). audit_text l.network l.book) is ∙ (ap (λ (n : Network). audit_text n store.ledger.book) opened.network ∙ ap (audit_text network) opened.has.book)

module _ {I O C E : Type 0} (tells : Tellings I O C E) (journal : List ℕ) (before after : Parts I O C) (network : Network) where
  -- the book of the journal was read, and is told
  pub book_told : (Kind : EntryKind) (mid : C) (store : KeptStore E) (closing : Result ⊤ Failed) (ledger : Ledger) (status : ℕ) → OpensJournal tells.cabinet tells.disk Kind journal before.cabinet mid network store → ClosesJournal tells.cabinet tells.disk mid after.cabinet store closing
      → ledger ≡ store.ledger → EndsTold tells.sink before.output after.output status (first_of (Ok tt) closing) (audit_text ledger.network ledger.book) → AuditsJournal tells journal before after status network
  book_told Kind mid store closing ledger status opens closes is ends = inl (
    opens.opens.opened.history,
    closing,
    audits_in tells journal before after mid network store Kind closing opens closes,
    subst (EndsTold tells.sink before.output after.output status (first_of (Ok tt) closing)) (audit_text_of tells journal before after mid network store Kind closing opens closes ledger is) ends,
  )

  audited_not : (status : ℕ) → IsAudited tells journal before after status network → (other : ℕ) → other ≢ 0 → other ≢ 4 → other ≢ 6 → status ≢ other
  audited_not status told other no_0 no_4 no_6 is = told_not tells.sink before.output after.output status told.1 (audit_text network (book_of 0 told.0)) other told.3 no_0 no_4 no_6 is

module _ {I O C E : Type 0} (tells : Tellings I O C E) (names : PricedNames) (before after : Parts I O C) where
  module _ (read : C) (network : Network) (reads : ReadsTopology tells.cabinet before.cabinet read names.prices names.topology (Ok network)) where
    audited_before : (history : List Entry) (closing : Result ⊤ Failed) → HasAudited tells names.journal (record before { cabinet = read }) after network history closing → HasAudited tells names.journal before after network history closing
    audited_before history closing has = record {
      begun = held_before tells.cabinet tells.disk before.cabinet read after.cabinet reads.only_texts names.journal _ has.begun;
      sound = has.sound;
      met = subst (λ (f : Frame). Met f (object_of (tells.cabinet.frame after.cabinet)) closing) reads.text.1 has.met;
      left = has_before tells.cabinet tells.disk before.cabinet read after.cabinet reads.only_texts names.journal _ has.left;
    }

    pub is_audited : (status : ℕ) → AuditsJournal tells names.journal (record before { cabinet = read }) after status network → TouchesOnly tells.cabinet names.journal read after.cabinet → after.input ≡ before.input → AuditOutcome tells names before after status
    is_audited status (inr (why, is, not, out)) same input = named_not_read tells names before after _ why status (no_store tells names before after read network why reads same not) is out tt input
    is_audited status (inl (history, closing, after_read, ends)) same input =
        named_read tells names before after _ read network status reads same input (history, closing, has, ends)
        (audited_not tells names.journal before after network status (history, closing, has, ends) 8 (λ e. absurd (cc e)) (λ e. absurd (cc e)) (λ e. absurd (cc e)))
        (λ told held. at closing has.met.failed held ends)
        (λ told held. absurd (clash tells.cabinet tells.disk before.cabinet after.cabinet names.journal _ _ (λ image is none. none history is) has.begun told))
      where
        has : HasAudited tells names.journal before after network history closing
        has = audited_before history closing after_read

        at : (one : Result ⊤ Failed) → (IsErr one → CabinetFailed tells.cabinet before.cabinet after.cabinet) → NoneFailed tells before after ⊤ → EndsTold tells.sink before.output after.output status (first_of (Ok tt) one) (audit_text network (book_of 0 history)) → (status ≡ 0) ⊎ (status ≡ 7)
        at (Ok done) rose held (inl whole) = inl whole.0
        at (Ok done) rose held (inr part) = absurd (held.writing part.1)
        at (Err failed) rose held one = absurd (held.keeping_it (rose refl))

  pub audit_not_1 : (status : ℕ) → AuditOutcome tells names before after status → status ≢ 1
  audit_not_1 status outcome = named_not_1 tells names before after (to_audit tells names.journal before after) outcome.left status
      (λ network told one. audited_not tells names.journal before after network status told 1 (λ e. absurd (cc e)) (λ e. absurd (cc e)) (λ e. absurd (cc e)) one) outcome.named.ends
