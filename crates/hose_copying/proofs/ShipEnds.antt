-- What shipping a journal stands for, from what was read, what was shipped and what was told.
use Rattle.std.proofs.Common.{◌≡◌, ◌≢◌, ◌∙◌, ◌⊎◌, inl, inr, ℕ, ◌-◌, List, [], Option, None, Some, IfSome, Result, Ok, Err, refl, sym, ap, subst, arith}
use Rattle.std.specs.Prelude.{⊤}
use Rattle.std.proofs.Math.Seq.{drop-nil}
use Rattle.hose_io.specs.Frame.{Stays}
use Rattle.hose_io.specs.Stream.{Grows}
use Rattle.hose_io.proofs.Frames.{Rose-before}
use Rattle.hose_io.proofs.Streams.{Grows-nil}
use Rattle.hose_graph.specs.Network.{Network}
use Rattle.hose_graph.specs.declared.entry.Entry.{Entry}
use Rattle.hose_disk.specs.Cabinet.{CabinetFrame}
use Rattle.hose_disk.specs.Disk.{DiskFrame}
use Rattle.hose_journal.specs.Image.{IsClosed, IsUnbegun, Meaning, front_of}
use Rattle.hose_journal.specs.Layout.{chained_version}
use Rattle.hose_journal.specs.Moments.{LeavesOnly}
use Rattle.hose_journal.specs.Opening.{AddsNoRecord}
use Rattle.hose_store.specs.Entries.{BeginsWith, IsDamagedAfter}
use Rattle.hose_store.specs.Opening.{IsAtOpening}
use Rattle.hose_store.specs.Recovery.{IsHistoryOf, IsRecoveredAs, digest_of}
use Rattle.hose_store.specs.Replaying.{KeepsRead}
use Rattle.hose_store.specs.declared.fault.StoreFault.{StoreFault}
use Rattle.hose_store.specs.declared.fault.StoreFault.TheVariants as store
use Rattle.hose_follow.specs.Packet.{Packet, packets_bytes, packets_from}
use Rattle.hose_follow.specs.steps.Shipping.{Ships, ShipsBefore as ShipsUpToDamage, ShipsUpTo, shipment}
use Rattle.hose_follow.specs.declared.shipping.ShipFault.{ShipFault}
use Rattle.hose_follow.specs.declared.shipping.ShipFault.TheVariants.{Store, Write}
use Rattle.hose_outside.specs.Reading.{PricedNames, ReadsTopology}
use Rattle.hose_outside.specs.Ending.{IsLastLine, NoneFailed, status_of_done}
use Rattle.hose_outside.specs.Fault.{of_store}
use Rattle.hose_outside.specs.steps.Journal.{TouchesOnly}
use Rattle.hose_outside.specs.OnDisk.{CabinetFailed, HadContent, IsUnopened, JournalIsTold}
use Rattle.hose_outside.specs.Parts.{Parts, Tellings}
use Rattle.hose_outside.specs.Unopened.{OpensNoJournal}
use Rattle.hose_copying.specs.ShipOutcome.{AreAllBeforeDamage, IsLeftWithoutRecord, IsReadAsBefore, ShipOutcome, ShipsBefore, ShipsJournal, ShipsPart, to_ship}
use Rattle.hose_copying.specs.steps.ShipOutcome.{shipping_done}
use Rattle.hose_outside.specs.declared.fault.Fault.{Fault}
use Rattle.hose_outside.specs.declared.fault.Fault.TheVariants as fault
use Rattle.hose_outside.proofs.Named.{named_not_1, named_read}
use Rattle.hose_outside.proofs.TextsRead.{has_before, held_before, opens_none_before, unopened_before}
use Rattle.hose_outside.proofs.Journals.{not_opened}
use Rattle.hose_outside.proofs.Outcomes.{clash}
use Rattle.hose_outside.proofs.PutBack.{IsPutBack, held_as, left_as, opens_none}

-- ---- in a cabinet

none_out : (network : Network) (from : ℕ) (out : Option (List ℕ)) → Grows out out (packets_bytes (packets_from network from []))
none_out network from out = subst (λ (packets : List Packet). Grows out out (packets_bytes packets)) (sym (drop-nil (from - 1))) (Grows-nil out)

-- what holds whatever is read holds, or this does
outside : (A : Type 0) (P : List ℕ → Type 0) (content : Option (List ℕ)) → IfSome content (λ bytes. A ⊎ P bytes) → A ⊎ IfSome content P
outside A P None is = inr tt
outside A P (Some bytes) is = is

module _ {I O C E : Type 0} (tells : Tellings I O C E) (name : List ℕ) (from : ℕ) (before after : Parts I O C) (network : Network) where
  -- the disk was not opened
  pub none_shipped : tells.cabinet.held after.cabinet ≡ tells.cabinet.held before.cabinet → CabinetFailed tells.cabinet before.cabinet after.cabinet → after.output ≡ before.output → ShipsJournal tells name from before after network (Err fault.Cabinet)
  none_shipped same failed no_output = (
    (inl same, failed),
    record {
      part = record { entries = []; sound = tt; held = inl refl; out = subst (λ (o : O). Grows (tells.sink.content before.output) (tells.sink.content o) (packets_bytes (packets_from network from []))) (sym no_output) (none_out network from (tells.sink.content before.output)) };
      all = tt;
    },
    ap tells.sink.frame no_output,
    inl same,
  )

  module _ (mid : C) (opened left : E) (back : IsPutBack tells.cabinet tells.disk name before.cabinet mid after.cabinet opened left) where
    part : (Puts : List ℕ → Type 0) → ShipsUpTo tells.disk (shipment opened network from) Puts → ShipsPart tells name from before after network Puts
    part Puts up = record {
      entries = up.entries;
      sound = up.held.sound;
      held = at (outside (up.entries ≡ []) (BeginsWith (digest_of network) up.entries) (tells.disk.content opened) up.held.read);
      out = up.out;
    }
      where
        at : (up.entries ≡ []) ⊎ IfSome (tells.disk.content opened) (BeginsWith (digest_of network) up.entries) → (up.entries ≡ []) ⊎ HadContent tells.cabinet tells.disk before.cabinet name (BeginsWith (digest_of network) up.entries)
        at (inl none) = inl none
        at (inr begins) = inr (held_as tells.cabinet tells.disk name before.cabinet mid after.cabinet network opened left back (BeginsWith (digest_of network) up.entries) begins)

    all_before : (at : ℕ) → ShipsUpToDamage tells.disk (shipment opened network from) (Grows (tells.sink.content before.output) (tells.sink.content after.output)) (store.Damaged at) → ShipsBefore tells name from before after network (fault.Damaged at)
    unfolding part
    all_before at up = record {
      part = part _ up.part;
      all = held_as tells.cabinet tells.disk name before.cabinet mid after.cabinet network opened left back (IsDamagedAfter network up.part.entries at) up.all;
    }

    as_before : KeepsRead tells.disk opened left network → IsReadAsBefore tells name from before after network
    as_before keeps = left_as tells.cabinet tells.disk name before.cabinet mid after.cabinet network opened left back (λ was now. KeepsRead tells.disk was now network)
        (λ was taken. subst (λ (content : Option (List ℕ)). (tells.disk.content left ≡ content) ⊎ (IfSome content IsUnbegun × IfSome (tells.disk.content left) (IsClosed (front_of chained_version (digest_of network) [])))) taken.0 keeps)

    without_record : AddsNoRecord (tells.disk.content opened) (tells.disk.content left) (digest_of network) → IsLeftWithoutRecord tells name from before after network
    without_record adds = inr (left_as tells.cabinet tells.disk name before.cabinet mid after.cabinet network opened left back (λ was now. AddsNoRecord (tells.disk.content was) (tells.disk.content now) (digest_of network))
        (λ was taken. subst (λ (content : Option (List ℕ)). AddsNoRecord content (tells.disk.content left) (digest_of network)) taken.0 adds))

    module _ (one : (image : List ℕ) (one two : Meaning Entry) → IsRecoveredAs network image one → IsRecoveredAs network image two → one ≡ two) (run : LeavesOnly tells.disk opened left (IsAtOpening tells.disk opened network)) where
      not_shipped : (why : StoreFault) → Ships tells.sink tells.disk before.output after.output (shipment opened network from) left (Err (Store why)) → OpensNoJournal tells.cabinet tells.disk name before.cabinet after.cabinet network (Err (of_store why))
      not_shipped why ships =
          opens_none tells.cabinet tells.disk name before.cabinet mid after.cabinet network opened left back (Err (of_store why)) (not_opened tells.disk network opened left why one run ships.2)

      pub ships_in : (shipped : Result ℕ ShipFault) → Ships tells.sink tells.disk before.output after.output (shipment opened network from) left shipped → ShipsJournal tells name from before after network (shipping_done shipped)
      ships_in (Ok count) ships = record {
        history = ships.0.history;
        held = held_as tells.cabinet tells.disk name before.cabinet mid after.cabinet network opened left back (IsHistoryOf network ships.0.history) ships.0.read;
        out = ships.0.out;
        writing = ships.1;
        keeping = ap (λ (f : CabinetFrame). f.returned) back.in_place.call ∙ (ships.2 ∙ ap (λ (f : DiskFrame). f.faults) back.out.fresh);
        read = as_before ships.3;
      }
      ships_in (Err Write) ships = (part _ ships.0, ships.1.rose, as_before ships.2)
      ships_in (Err (Store store.Disk)) ships = (not_shipped store.Disk ships, record { part = part _ ships.0.part; all = tt }, ships.1, without_record ships.3)
      ships_in (Err (Store (store.Other kept given))) ships = (not_shipped (store.Other kept given) ships, record { part = part _ ships.0.part; all = tt }, ships.1, without_record ships.3)
      ships_in (Err (Store (store.Damaged at))) ships = (not_shipped (store.Damaged at) ships, all_before at ships.0, ships.1, without_record ships.3)
      ships_in (Err (Store store.Memory)) ships = (not_shipped store.Memory ships, record { part = part _ ships.0.part; all = tt }, ships.1, without_record ships.3)

-- ---- the outcome

module _ {I O C E : Type 0} (tells : Tellings I O C E) (from : ℕ) where
  never_1_or_8 : (name : List ℕ) (before after : Parts I O C) (network : Network) (done : Result ⊤ Fault) → ShipsJournal tells name from before after network done → (status_of_done done ≡ 1) ⊎ (status_of_done done ≡ 8) → ⊥
  never_1_or_8 name before after network (Ok value) ships (inl is) = omega (arith, is)
  never_1_or_8 name before after network (Ok value) ships (inr is) = omega (arith, is)
  never_1_or_8 name before after network (Err (fault.Words word)) ships is = ships.0
  never_1_or_8 name before after network (Err fault.TooLong) ships is = ships.0
  never_1_or_8 name before after network (Err another) ships (inl is) = omega (arith, is)
  never_1_or_8 name before after network (Err another) ships (inr is) = omega (arith, is)

  module _ (names : PricedNames) (before : Parts I O C) where
    -- what was so of the cabinet after the topology was read was so before
    module _ (after : Parts I O C) (read : C) (network : Network) (reads : ReadsTopology tells.cabinet before.cabinet read names.prices names.topology (Ok network)) where
      part_before : (Puts : List ℕ → Type 0) → ShipsPart tells names.journal from (record before { cabinet = read }) after network Puts → ShipsPart tells names.journal from before after network Puts
      part_before Puts is = record { entries = is.entries; sound = is.sound; held = at is.held; out = is.out }
        where
          at : (is.entries ≡ []) ⊎ HadContent tells.cabinet tells.disk read names.journal (BeginsWith (digest_of network) is.entries) → (is.entries ≡ []) ⊎ HadContent tells.cabinet tells.disk before.cabinet names.journal (BeginsWith (digest_of network) is.entries)
          at (inl none) = inl none
          at (inr held) = inr (held_before tells.cabinet tells.disk before.cabinet read after.cabinet reads.only_texts names.journal _ held)

      all_too : (why : Fault) → ((entries : List Entry) → AreAllBeforeDamage tells names.journal from (record before { cabinet = read }) after network entries why → AreAllBeforeDamage tells names.journal from before after network entries why)
          → ShipsBefore tells names.journal from (record before { cabinet = read }) after network why → ShipsBefore tells names.journal from before after network why
      unfolding part_before
      all_too why all is = record { part = part_before _ is.part; all = all is.part.entries is.all }

      not_before : (why : Fault) → OpensNoJournal tells.cabinet tells.disk names.journal read after.cabinet network (Err why) → OpensNoJournal tells.cabinet tells.disk names.journal before.cabinet after.cabinet network (Err why)
      not_before why not = opens_none_before tells.cabinet tells.disk before.cabinet read after.cabinet reads.only_texts reads.text.1 names.journal network why not

      without_before : IsLeftWithoutRecord tells names.journal from (record before { cabinet = read }) after network → IsLeftWithoutRecord tells names.journal from before after network
      without_before (inl same) = inl (same ∙ reads.only_texts.disks)
      without_before (inr has) = inr (has_before tells.cabinet tells.disk before.cabinet read after.cabinet reads.only_texts names.journal _ has)

      ships_before : (done : Result ⊤ Fault) → ShipsJournal tells names.journal from (record before { cabinet = read }) after network done → ShipsJournal tells names.journal from before after network done
      ships_before (Ok value) ships = record {
        history = ships.history;
        held = held_before tells.cabinet tells.disk before.cabinet read after.cabinet reads.only_texts names.journal _ ships.held;
        out = ships.out;
        writing = ships.writing;
        keeping = ships.keeping;
        read = has_before tells.cabinet tells.disk before.cabinet read after.cabinet reads.only_texts names.journal _ ships.read;
      }
      ships_before (Err fault.Write) ships = (part_before _ ships.0, ships.1, has_before tells.cabinet tells.disk before.cabinet read after.cabinet reads.only_texts names.journal _ ships.2)
      ships_before (Err (fault.Other kept given)) ships = (not_before (fault.Other kept given) ships.0, all_too (fault.Other kept given) (λ entries all. all) ships.1, ships.2, without_before ships.3)
      ships_before (Err (fault.Damaged at)) ships = (not_before (fault.Damaged at) ships.0, all_too (fault.Damaged at) (λ entries all. held_before tells.cabinet tells.disk before.cabinet read after.cabinet reads.only_texts names.journal _ all) ships.1, ships.2, without_before ships.3)
      ships_before (Err fault.Cabinet) ships = (not_before fault.Cabinet ships.0, all_too fault.Cabinet (λ entries all. all) ships.1, ships.2, without_before ships.3)
      ships_before (Err fault.Memory) ships = (not_before fault.Memory ships.0, all_too fault.Memory (λ entries all. all) ships.1, ships.2, without_before ships.3)
      ships_before (Err another) ships = absurd ships.0

    module _ (left : O) (after : Parts I O C) (network : Network) (stays : Stays (tells.sink.frame left) (tells.sink.frame after.output)) where
      abbrev Ended : Result ⊤ Fault → Type 0
      Ended done = ShipsJournal tells names.journal from before (record after { output = left }) network done

      -- the journal was told to be so
      abbrev Told : (List ℕ → Type 0) → Type 0
      Told Is = JournalIsTold tells.cabinet tells.disk before.cabinet (Some names.journal) Is

      completes : (status : ℕ) (done : Result ⊤ Fault) → status ≡ status_of_done done → Ended done → Told (λ bytes. (history : List Entry) × IsHistoryOf network history bytes) → NoneFailed tells before after ⊤ → (status ≡ 0) ⊎ (status ≡ 7)
      completes status (Ok value) is ships told held = inl is
      completes status (Err fault.Write) is ships told held = absurd (held.writing (Rose-before (tells.sink.frame before.output) (tells.sink.frame left) (tells.sink.frame after.output) ships.1 stays))
      completes status (Err (fault.Other kept given)) is ships told held = absurd (clash tells.cabinet tells.disk before.cabinet after.cabinet names.journal _ _ (λ image none history. none history.0 history.1) ships.0.1.none told)
      completes status (Err (fault.Damaged at)) is ships told held = absurd (clash tells.cabinet tells.disk before.cabinet after.cabinet names.journal _ _ (λ image none history. none history.0 history.1) ships.0.none told)
      completes status (Err fault.Cabinet) is ships told held = absurd (held.keeping_it ships.0.1)
      completes status (Err fault.Memory) is ships told held = inr is
      completes status (Err another) is ships told held = absurd ships.0

      refuses : (status : ℕ) (done : Result ⊤ Fault) → status ≡ status_of_done done → Ended done → Told (λ bytes. (history : List Entry) → ¬ IsHistoryOf network history bytes) → NoneFailed tells before after ⊤ → (status ≡ 5) ⊎ (status ≡ 7)
      refuses status (Ok value) is ships told held = absurd (clash tells.cabinet tells.disk before.cabinet after.cabinet names.journal _ _ (λ image history none. none ships.history history) ships.held told)
      refuses status (Err fault.Write) is ships told held = absurd (held.writing (Rose-before (tells.sink.frame before.output) (tells.sink.frame left) (tells.sink.frame after.output) ships.1 stays))
      refuses status (Err (fault.Other kept given)) is ships told held = inl is
      refuses status (Err (fault.Damaged at)) is ships told held = inl is
      refuses status (Err fault.Cabinet) is ships told held = absurd (held.keeping_it ships.0.1)
      refuses status (Err fault.Memory) is ships told held = inr is
      refuses status (Err another) is ships told held = absurd ships.0

      pub is_shipped : (read : C) (done : Result ⊤ Fault) (status : ℕ) → ReadsTopology tells.cabinet before.cabinet read names.prices names.topology (Ok network) → TouchesOnly tells.cabinet names.journal read after.cabinet → after.input ≡ before.input
          → ShipsJournal tells names.journal from (record before { cabinet = read }) (record after { output = left }) network done → IsUnopened tells.cabinet tells.disk read after.cabinet network names.journal → status ≡ status_of_done done → IsLastLine tells.sink left after.output done → ShipOutcome tells names from before after status
      is_shipped read done status reads same input shipped unopened is out =
          let ships = ships_before (record after { output = left }) read network reads done shipped in
          named_read tells names before after _ read network status reads same input
          (record { ends = record { left = left; done = done; leaves = ships; last_line = out; is_status = is }; unopened = unopened_before tells.cabinet tells.disk before.cabinet read after.cabinet reads.only_texts network names.journal unopened })
          (λ at_8. never_1_or_8 names.journal before (record after { output = left }) network done ships (inr (sym is ∙ at_8)))
          (λ told held. completes status done is ships told held) (λ told held. refuses status done is ships told held)

    -- the words are not what is wrong
    pub ship_not_1 : (after : Parts I O C) (status : ℕ) → ShipOutcome tells names from before after status → status ≢ 1
    ship_not_1 after status outcome = named_not_1 tells names before after (to_ship tells names.journal from before after) outcome.left status
        (λ network told one. never_1_or_8 names.journal before (record after { output = told.ends.left }) network told.ends.done told.ends.leaves (inl (sym told.ends.is_status ∙ one))) outcome.named.ends
