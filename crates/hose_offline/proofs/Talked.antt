-- Lines that are answered by the book of a journal, which is opened and closed.
use Rattle.std.proofs.Common.{◌≡◌, ◌↔◌, inl, inr, ℕ, ◌≤◌, List, Result, Ok, Err, sym, ap, subst, arith}
use Rattle.std.specs.Prelude.{⊤}
use Rattle.hose_io.specs.declared.Failed.{Failed}
use Rattle.hose_io.specs.declared.source.Source.{Ghosts as SourceGhosts}
use Rattle.hose_io.specs.declared.sink.Sink.{Ghosts as SinkGhosts}
use Rattle.hose_words.specs.steps.Lines.{Reader}
use Rattle.hose_graph.specs.Network.{Network}
use Rattle.hose_graph.specs.declared.entry.Entry.{Entry}
use Rattle.hose_graph.specs.declared.command.Reply.{Reply}
use Rattle.hose_law.specs.History.{IsDecidedAt, IsSound}
use Rattle.hose_law.specs.Script.{ReadLine}
use Rattle.hose_book.specs.steps.GoingOn.{GoesOn}
use Rattle.hose_disk.specs.Cabinet.{CabinetFrame}
use Rattle.hose_disk.specs.declared.cabinet.Cabinet.{Ghosts as CabinetGhosts}
use Rattle.hose_disk.specs.declared.disk.Disk.{Ghosts as DiskGhosts}
use Rattle.hose_journal.specs.declared.prepared.Ready.{Ready}
use Rattle.hose_store.specs.Beginning.{HasLeft}
use Rattle.hose_store.specs.steps.Commit.{Closes, store_books}
use Rattle.hose_store.specs.Recovery.{IsHistoryOf}
use Rattle.hose_store.specs.steps.Store.{KeptStore}
use Rattle.hose_outside.specs.steps.Journal.{ClosesJournal, OpensJournal}
use Rattle.hose_outside.specs.Parts.{parts, tellings}
use Rattle.hose_outside.specs.OnDisk.{opening_of}
use Rattle.hose_talk.specs.Talk.{talk}
use Rattle.hose_offline.specs.Talking.{IsAskedBy, TellsDisks}
use Rattle.hose_offline.specs.steps.Talking.{Talks, TalkTellings, talk_tellings}
use Rattle.hose_offline.specs.steps.TalkingOnDisk.{HasTalkedInCabinet}
use Rattle.hose_outside.specs.Unopened.{first_of}
use Rattle.hose_outside.specs.declared.fault.Fault.{Fault}
use Rattle.hose_outside.specs.declared.fault.Fault.TheVariants.{TooLong}
use Rattle.hose_outside.proofs.PutBack.{IsPutBack, counts, held_as, left_as_kind}
use Rattle.hose_outside.proofs.Journals.{put_back}

-- closing does not change whether the input was too long
pub first_long : (served : Result ⊤ Fault) (closing : Result ⊤ Failed) → (first_of served closing ≡ Err TooLong) ↔ (served ≡ Err TooLong)
first_long (Ok done) (Ok closed) = ((λ is. is), (λ is. is))
first_long (Err why) (Ok closed) = ((λ is. is), (λ is. is))
first_long (Ok done) (Err failed) = ((λ is. cc is), (λ is. cc is))
first_long (Err why) (Err failed) = ((λ is. is), (λ is. is))

-- a core begins with a sound history where its store does
pub first_sound : {E : Type 0} (first store : KeptStore E) (history : List Entry) → first ≡ store → IsSound store.ledger.network 0 history → IsSound first.ledger.network 0 history
first_sound {E} first store history same sound = subst (λ (kept : KeptStore E). IsSound kept.ledger.network 0 history) (sym same) sound

module _ {C E : Type 0} (cabinet : CabinetGhosts C E) (disk : DiskGhosts E) (name : List ℕ) (old mid new : C) (network : Network) (store : KeptStore E) where
  module _ {S O : Type 0} (source : SourceGhosts S) (sink : SinkGhosts O) (start now : Reader S) (output output' : O) (first last : KeptStore E) (served : Result ⊤ Fault) (closing : Result ⊤ Failed)
      (opens : OpensJournal cabinet disk IsDecidedAt name old mid network store) (closes : ClosesJournal cabinet disk mid new last closing)
      (asked : (lines : List ReadLine) (replies : List Reply) (history : List Entry) (last : KeptStore E) (left : E) (closing : Result ⊤ Failed) → GoesOn (store_books disk) (IsAskedBy opens.opens.opened.history lines replies) network opens.opens.opened.history store history last → Closes disk last left closing
      → HasLeft disk (IsAskedBy opens.opens.opened.history lines replies) (disk.may_leave opens.was) (opening_of disk network opens.opens.opened.history opens.was) history left closing) where
    abbrev tells : TalkTellings S O (KeptStore E) Ready
    tells = talk_tellings source sink (store_books disk)

    back : IsPutBack cabinet disk name old mid new opens.was closes.left
    back = put_back cabinet disk name old mid new network store IsDecidedAt opens last closing closes

    returned : (cabinet.frame new).returned ≡ (disk.frame closes.left).faults
    returned = ap (λ (f : CabinetFrame). f.returned) closes.back.call

    told_back : (before after : ℕ) (replies : List Reply) → after ≤ (disk.frame closes.left).faults → TellsDisks before replies after → TellsDisks 0 replies (cabinet.frame new).returned
    told_back before after replies more (inl told) = inl (omega (arith, told, more, returned))
    told_back before after replies more (inr most) = inr (omega (arith, most, more, returned))

    talks_in : Talks tells network opens.opens.opened.history (talk start output store) (talk now output' last) served
        → HasTalkedInCabinet (tellings source sink cabinet disk) name (parts start output old) (parts now output' new) network served closing
    talks_in talks = record {
      since = opens.opens.opened.history;
      first = store;
      last = last;
      begun = held_as cabinet disk name old mid new network opens.was closes.left back (IsHistoryOf network opens.opens.opened.history) opens.opens.opened.read;
      talks = talks;
      keeps = λ history lines replies goes told. record {
        told = told_back _ _ replies closes.call.met.stays.never_falls told;
        met = counts cabinet disk name old mid new network opens.was closes.left back closing closes.call.told;
        left = left_as_kind cabinet disk name old mid new network opens.was closes.left back (IsAskedBy opens.opens.opened.history lines replies) opens.opens.opened.history history closing
            (asked lines replies history last closes.left closing goes closes.closes);
      };
    }

    -- lines were answered by a core that began with the store
    pub talked_in : first ≡ store → Talks tells first.ledger.network opens.opens.opened.history (talk start output first) (talk now output' last) served
        → HasTalkedInCabinet (tellings source sink cabinet disk) name (parts start output old) (parts now output' new) network served closing
    talked_in same talks = talks_in
        (subst (λ (n : Network). Talks tells n opens.opens.opened.history (talk start output store) (talk now output' last) served) opens.opens.opened.network
        (subst (λ (kept : KeptStore E). Talks tells kept.ledger.network opens.opens.opened.history (talk start output kept) (talk now output' last) served) same talks))
