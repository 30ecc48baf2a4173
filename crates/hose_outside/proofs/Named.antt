-- What a command that names a topology and a journal stands for, from what was read and what was
-- told.
use Rattle.std.proofs.Common.{◌≡◌, ◌≢◌, ◌∙◌, ◌⊎◌, ◌↔◌, inl, inr, ℕ, ◌+◌, ◌<◌, ◌≤◌, List, ◌++◌, length, Option, None, Some, IsSome, IsTrue, Result, Ok, Err, refl, sym, ap, subst, arith}
use Rattle.hose_io.specs.Frame.{Frame, Rose}
use Rattle.hose_io.specs.Stream.{Gives, Grows, Stream}
use Rattle.hose_io.specs.declared.sink.Sink.{Ghosts as SinkGhosts}
use Rattle.hose_io.proofs.Streams.{Grows-append, GrowsInPart-after}
use Rattle.hose_graph.specs.Network.{Network}
use Rattle.hose_graph.specs.declared.entry.Entry.{Entry}
use Rattle.hose_disk.specs.declared.cabinet.Cabinet.{Ghosts as CabinetGhosts}
use Rattle.hose_store.specs.Recovery.{IsHistoryOf}
use Rattle.hose_outside.specs.NamedOutcome.{EndsNamed, EndsRefused, JournalIs, NamedOutcome, NamesOutcome, Purpose}
use Rattle.hose_outside.specs.Reading.{IsNotRead, IsTextServable, PricedNames, ReadsTopology, named_text}
use Rattle.hose_outside.specs.CabinetText.{OnlyTextsRead}
use Rattle.hose_outside.specs.Ending.{EndsTold, NoneFailed, IsOut}
use Rattle.hose_outside.specs.Fault.{last_line, status_of}
use Rattle.hose_outside.specs.steps.Journal.{TouchesOnly}
use Rattle.hose_outside.specs.OnDisk.{JournalIsTold, OthersStay}
use Rattle.hose_outside.specs.Parts.{Parts, Tellings}
use Rattle.hose_outside.specs.TopologyTold.{IsRefusedText, limit_of, notation_of}
use Rattle.hose_outside.specs.Unopened.{OpensNoJournal}
use Rattle.hose_outside.specs.declared.fault.Fault.{Fault}
use Rattle.hose_outside.specs.declared.fault.Fault.TheVariants.{Words, Topology, Text, Other, Damaged, Cabinet, Memory, TooLong}
use Rattle.hose_outside.proofs.TextsRead.{opens_none_before}
use Rattle.hose_outside.proofs.Journals.{not_too_long}
use Rattle.hose_outside.proofs.Outcomes.{clash, no_network_read, no_text, not_long, not_refused, of_read}

-- ---- what is out

-- a line after a text
pub out_after : {O : Type 0} (sink : SinkGhosts O) (was mid now : O) (text line : List ℕ) → Grows (sink.content was) (sink.content mid) text → sink.frame mid ≡ sink.frame was → IsOut sink mid now line → IsOut sink was now (text ++ line)
out_after sink was mid now text line grows same (inl whole) = inl (Grows-append _ _ _ text line grows whole.0, whole.1 ∙ same)
out_after sink was mid now text line grows same (inr part) = inr (subst (λ (f : Frame). Rose f (sink.frame now)) same part.0, GrowsInPart-after _ _ _ text line grows part.1)

-- ---- statuses

pub told_status : {O T : Type 0} (sink : SinkGhosts O) (output output' : O) (status : ℕ) (done : Result T Fault) (text : List ℕ) → EndsTold sink output output' status done text → (other : ℕ) → other ≢ 0 → other ≢ 4 → ((why : Fault) → done ≡ Err why → status_of why ≢ other) → status ≡ other → ⊥
told_status sink output output' status (Ok done) text (inl whole) other no_0 no_4 no_fault is = no_0 (sym is ∙ whole.0)
told_status sink output output' status (Ok done) text (inr part) other no_0 no_4 no_fault is = no_4 (sym is ∙ part.0)
told_status sink output output' status (Err why) text ends other no_0 no_4 no_fault is = no_fault why refl (sym ends.0 ∙ is)

too_long_8 : (why : Fault) → status_of why ≡ 8 → why ≡ TooLong
too_long_8 TooLong is = refl
too_long_8 another is = absurd (omega (arith, is))

-- ---- a command that names a topology and a journal

-- once a text was read, and then a journal used, the disks of other names are as they were
others_read : {C E : Type 0} (cabinet : CabinetGhosts C E) (name : List ℕ) (old mid new : C) → OnlyTextsRead cabinet old mid → TouchesOnly cabinet name mid new → OthersStay cabinet name old new
others_read {E = E} cabinet name old mid new only alone = λ other apart. alone.others other apart ∙ ap (λ (held : List ℕ → Option E). held other) only.disks

-- Nothing was read but a text, of which these bytes were taken: no topology was read of it, or no
-- store was opened.
pub record ReadsNothing {I O C E : Type 0} (tells : Tellings I O C E) (names : PricedNames) (before after : Parts I O C) (why : Fault) : Type 0 where
  pub taken : List ℕ
  pub left : Option Stream
  pub gives : Gives (named_text tells names before) left taken
  pub limit : length taken ≤ limit_of (notation_of names.topology) + 1
  pub too_long : (why ≡ TooLong) ↔ (limit_of (notation_of names.topology) < length taken)
  pub not_read : IsNotRead tells names before after left why
  pub absent : IsTrue (tells.cabinet.frame before.cabinet).tells → IsSome (tells.cabinet.text before.cabinet names.topology) → (tells.cabinet.frame after.cabinet).absent ≡ (tells.cabinet.frame before.cabinet).absent
  pub not_there : IsTrue (tells.cabinet.frame before.cabinet).tells → tells.cabinet.text before.cabinet names.topology ≡ None → why ≡ Text
  pub others : OthersStay tells.cabinet names.journal before.cabinet after.cabinet

module _ {I O C E : Type 0} (tells : Tellings I O C E) (names : PricedNames) (before after : Parts I O C) where
  -- ---- nothing was read

  pub no_topology : (why : Fault) → ReadsTopology tells.cabinet before.cabinet after.cabinet names.prices names.topology (Err why) → ReadsNothing tells names before after why
  no_topology why reads = record {
    taken = reads.taken;
    left = reads.left;
    gives = reads.gives;
    limit = reads.limit;
    too_long = ((λ is. reads.too_long.0 (ap Err is)), λ more. cc (reads.too_long.1 more));
    not_read = inl (reads.text, reads.only_texts.disks);
    absent = reads.absent;
    not_there = λ told none. cc (reads.not_there told none);
    others = λ other apart. ap (λ (held : List ℕ → Option E). held other) reads.only_texts.disks;
  }

  pub no_store : (read : C) (network : Network) (why : Fault) → ReadsTopology tells.cabinet before.cabinet read names.prices names.topology (Ok network) → TouchesOnly tells.cabinet names.journal read after.cabinet
      → OpensNoJournal tells.cabinet tells.disk names.journal read after.cabinet network (Err why) → ReadsNothing tells names before after why
  no_store read network why reads same not = record {
    taken = reads.taken;
    left = reads.left;
    gives = reads.gives;
    limit = reads.limit;
    too_long = ((λ is. absurd (not_too_long tells.cabinet tells.disk names.journal read after.cabinet network why not is)), λ more. absurd (cc (reads.too_long.1 more)));
    not_read = inr (record { network = network; text = reads.text.2; is = opens_none_before tells.cabinet tells.disk before.cabinet read after.cabinet reads.only_texts reads.text.1 names.journal network why not });
    absent = λ told some. same.absent ∙ reads.absent told some;
    not_there = λ told none. absurd (cc (reads.not_there told none));
    others = others_read tells.cabinet names.journal before.cabinet read after.cabinet reads.only_texts same;
  }

  module _ (purpose : Purpose) where
    abbrev Failing : Type 0
    Failing = NoneFailed tells before after purpose.OthersHeld

    -- what was read of the journal of a network, and what it was told to be
    abbrev Told : Network → (List ℕ → Type 0) → Type 0
    Told network Is = JournalIsTold tells.cabinet tells.disk before.cabinet (Some names.journal) Is

    pub named_not_read : (why : Fault) (status : ℕ) → ReadsNothing tells names before after why → status ≡ status_of why → IsOut tells.sink before.output after.output (last_line why) → purpose.Untouched → after.input ≡ before.input → NamedOutcome tells names before after purpose status
    named_not_read why status reads is out untouched input = record {
      left = reads.left;
      takes = (
        reads.taken,
        reads.gives,
        reads.limit,
        (
          (λ at_8. reads.too_long.0 (too_long_8 why (sym is ∙ at_8))),
          λ more. is ∙ ap status_of (reads.too_long.1 more),
        ),
      );
      named = record {
        ends = inr (why, is, reads.not_read, out, untouched);
        refused = λ refused. rw is (refused_by why refused reads.not_read);
        not_there = λ told none. is ∙ ap status_of (reads.not_there told none);
        absent = reads.absent;
        others = reads.others;
        refused_journal = λ servable told held. rw is (journal_by why servable held reads.not_read reads.too_long.0);
      };
      complete = λ servable told held. rw is (complete_by why servable told held reads.not_read reads.too_long.0);
      input = input;
    }
      where
        refused_by : (one : Fault) → IsRefusedText (notation_of names.topology) (named_text tells names before) reads.left → IsNotRead tells names before after reads.left one → EndsRefused tells names before after reads.left (status_of one)
        refused_by one refused (inr served) = absurd (no_network_read (notation_of names.topology) names.prices _ _ served.network refused served.text)
        refused_by (Topology refusal) refused (inl text) = inl refl
        refused_by Memory refused (inl ((inl starved, held), disks)) = inr (inl (refl, starved))
        refused_by Memory refused (inl ((inr read, held), disks)) = absurd (no_text (notation_of names.topology) _ _ refused read)
        refused_by Text refused (inl text) = inr (inr (inl (refl, text.0)))
        refused_by TooLong refused (inl text) = inr (inr (inr (refl, text.0.0)))
        refused_by another refused (inl text) = absurd text.0

        complete_by : (one : Fault) → IsTextServable tells names before → JournalIs tells names before after (λ network bytes. (history : List Entry) × IsHistoryOf network history bytes) → Failing
            → IsNotRead tells names before after reads.left one → (one ≡ TooLong → limit_of (notation_of names.topology) < length reads.taken) → (status_of one ≡ 0) ⊎ (status_of one ≡ 7)
        complete_by (Topology refusal) servable told held (inl text) long = absurd (not_refused (notation_of names.topology) refusal _ _ reads.taken reads.gives servable text.0.0)
        complete_by Memory servable told held (inl text) long = inr refl
        complete_by Text servable told held (inl text) long = absurd (held.keeping_it text.0)
        complete_by TooLong servable told held (inl text) long = absurd (not_long (notation_of names.topology) _ _ reads.taken reads.gives servable (long refl))
        complete_by Memory servable told held (inr served) long = inr refl
        complete_by Cabinet servable told held (inr served) long = absurd (held.keeping_it served.is.1)
        complete_by (Other kept given) servable told held (inr served) long = absurd (clash tells.cabinet tells.disk before.cabinet after.cabinet names.journal _ _ (λ image none history. none history.0 history.1) served.is.1.none
            (of_read (notation_of names.topology) names.prices _ _ reads.taken served.network _ reads.gives served.text told))
        complete_by (Damaged at) servable told held (inr served) long = absurd (clash tells.cabinet tells.disk before.cabinet after.cabinet names.journal _ _ (λ image none history. none history.0 history.1) served.is.none
            (of_read (notation_of names.topology) names.prices _ _ reads.taken served.network _ reads.gives served.text told))
        complete_by another servable told held (inl text) long = absurd text.0
        complete_by another servable told held (inr served) long = absurd served.is

        journal_by : (one : Fault) → IsTextServable tells names before → Failing → IsNotRead tells names before after reads.left one → (one ≡ TooLong → limit_of (notation_of names.topology) < length reads.taken) → (status_of one ≡ 5) ⊎ (status_of one ≡ 7)
        journal_by (Topology refusal) servable held (inl text) long = absurd (not_refused (notation_of names.topology) refusal _ _ reads.taken reads.gives servable text.0.0)
        journal_by Memory servable held (inl text) long = inr refl
        journal_by Text servable held (inl text) long = absurd (held.keeping_it text.0)
        journal_by TooLong servable held (inl text) long = absurd (not_long (notation_of names.topology) _ _ reads.taken reads.gives servable (long refl))
        journal_by (Other kept given) servable held (inl text) long = inl refl
        journal_by (Damaged at) servable held (inl text) long = inl refl
        journal_by Memory servable held (inr served) long = inr refl
        journal_by Cabinet servable held (inr served) long = absurd (held.keeping_it served.is.1)
        journal_by (Other kept given) servable held (inr served) long = inl refl
        journal_by (Damaged at) servable held (inr served) long = inl refl
        journal_by another servable held (inl text) long = absurd text.0
        journal_by another servable held (inr served) long = absurd served.is

    -- ---- a topology was read, and this was told of its network
    module _ (read : C) (network : Network) (status : ℕ) (reads : ReadsTopology tells.cabinet before.cabinet read names.prices names.topology (Ok network)) (same : TouchesOnly tells.cabinet names.journal read after.cabinet) where
      pub names_read : purpose.IsFulfilled status network → (Told network (λ bytes. (history : List Entry) → ¬ IsHistoryOf network history bytes) → Failing → (status ≡ 5) ⊎ (status ≡ 7)) → NamesOutcome tells names before after purpose reads.left status
      names_read tells_so refuses = record {
        ends = inl (record { network = network; text = reads.text.2; is = tells_so });
        refused = λ refused. absurd (no_network_read (notation_of names.topology) names.prices _ _ network refused reads.text.2);
        not_there = λ told none. absurd (cc (reads.not_there told none));
        absent = λ told some. same.absent ∙ reads.absent told some;
        others = others_read tells.cabinet names.journal before.cabinet read after.cabinet reads.only_texts same;
        refused_journal = λ servable told held. refuses (of_read (notation_of names.topology) names.prices _ _ reads.taken network _ reads.gives reads.text.2 told) held;
      }

      pub named_read : after.input ≡ before.input → purpose.IsFulfilled status network → status ≢ 8 → (Told network (λ bytes. (history : List Entry) × IsHistoryOf network history bytes) → Failing → (status ≡ 0) ⊎ (status ≡ 7))
          → (Told network (λ bytes. (history : List Entry) → ¬ IsHistoryOf network history bytes) → Failing → (status ≡ 5) ⊎ (status ≡ 7)) → NamedOutcome tells names before after purpose status
      named_read input tells_so never_8 completes refuses = record {
        left = reads.left;
        takes = (reads.taken, reads.gives, reads.limit, ((λ at_8. absurd (never_8 at_8)), λ more. absurd (cc (reads.too_long.1 more))));
        named = names_read tells_so refuses;
        complete = λ servable told held. completes (of_read (notation_of names.topology) names.prices _ _ reads.taken network _ reads.gives reads.text.2 told) held;
        input = input;
      }

    -- ---- the words are not what is wrong
    pub named_not_1 : (left : Option Stream) (status : ℕ) → ((network : Network) → purpose.IsFulfilled status network → status ≢ 1) → EndsNamed tells names before after purpose left status → status ≢ 1
    named_not_1 left status never (inl told) is = never told.network told.is is
    named_not_1 left status never (inr not) is = by not.0 not.2 (sym not.1 ∙ is)
      where
        by : (why : Fault) → IsNotRead tells names before after left why → status_of why ≡ 1 → ⊥
        by (Words word) (inl text) one = text.0
        by (Words word) (inr served) one = served.is
        by another not one = omega (arith, one)
