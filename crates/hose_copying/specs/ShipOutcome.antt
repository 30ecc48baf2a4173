-- What stands after `ship`, by what ended it.
use Rattle.std.specs.Prelude.{◌≡◌, ◌⊎◌, ℕ, List, [], Result, Ok, Err, ⊤}
use Rattle.hose_io.specs.Frame.{Rose}
use Rattle.hose_io.specs.Stream.{Grows}
use Rattle.hose_io.specs.Writing.{GrowsInPart}
use Rattle.hose_graph.specs.Network.{Network}
use Rattle.hose_graph.specs.declared.entry.Entry.{Entry}
use Rattle.hose_law.specs.History.{IsSound}
use Rattle.hose_journal.specs.Opening.{AddsNoRecord}
use Rattle.hose_store.specs.Entries.{BeginsWith, IsDamagedAfter}
use Rattle.hose_store.specs.Recovery.{IsHistoryOf, digest_of}
use Rattle.hose_store.specs.Replaying.{KeepsRead}
use Rattle.hose_follow.specs.Packet.{packets_bytes, packets_from}
use Rattle.hose_outside.specs.NamedOutcome.{NamedOutcome, Purpose}
use Rattle.hose_outside.specs.Reading.{PricedNames}
use Rattle.hose_outside.specs.Ending.{EndsAfter, OutputWorked}
use Rattle.hose_outside.specs.OnDisk.{HadContent, IsUnopened, OfHeld}
use Rattle.hose_outside.specs.Parts.{Parts, Tellings}
use Rattle.hose_outside.specs.Unopened.{OpensNoJournal}
use Rattle.hose_outside.specs.declared.fault.Fault.{Fault}
use Rattle.hose_outside.specs.declared.fault.Fault.TheVariants.{Damaged, Write}

module _ {I O C E : Type 0} (tells : Tellings I O C E) (journal : List ℕ) (from : ℕ)
    (before after : Parts I O C) where
  -- What is read of the journal's disk is as before; or none was begun there, and it is a journal
  -- of the newest version without a record. So no seal was written.
  abbrev pub IsReadAsBefore : Network → Type 0
  IsReadAsBefore network = OfHeld tells.cabinet journal before.cabinet after.cabinet (λ was left.
      KeepsRead tells.disk was left network)

  -- The journal's disk was not taken; or no record was written on it: what is read of it is as
  -- before, or none was begun there, and none is there, or one that was begun and has no record.
  abbrev pub IsLeftWithoutRecord : Network → Type 0
  IsLeftWithoutRecord network =
      (tells.cabinet.held after.cabinet ≡ tells.cabinet.held before.cabinet)
      ⊎ OfHeld tells.cabinet journal before.cabinet after.cabinet (λ was left.
      AddsNoRecord (tells.disk.content was) (tells.disk.content left) (digest_of network))

  -- The packets, from an epoch on, of all entries of the journal are out, as it was read at its
  -- opening. No call on its disk failed.
  pub record ShipsWhole (network : Network) : Type 0 where
    pub history : List Entry
    pub held : HadContent tells.cabinet tells.disk before.cabinet journal
        (IsHistoryOf network history)
    pub out : Grows (tells.sink.content before.output) (tells.sink.content after.output)
        (packets_bytes (packets_from network from history))
    pub writing : OutputWorked tells.sink before.output after.output
    pub keeping : (tells.cabinet.frame after.cabinet).returned ≡ 0
    pub read : IsReadAsBefore network

  -- The packets, from an epoch on, of entries with which the journal begins, as it was read at its
  -- opening, each sound at the book of those before it, or of none; `Puts` says how much of them is
  -- out.
  pub record ShipsPart (network : Network) (Puts : List ℕ → Type 0) : Type 0 where
    pub entries : List Entry
    pub sound : IsSound network 0 entries
    pub held : (entries ≡ []) ⊎ HadContent tells.cabinet tells.disk before.cabinet
        journal (BeginsWith (digest_of network) entries)
    pub out : Puts (packets_bytes (packets_from network from entries))

  -- where the journal is damaged, as it was read at its opening, these are all entries before it
  abbrev pub AreAllBeforeDamage : Network → List Entry → Fault → Type 0
  AreAllBeforeDamage network entries (Damaged at) = HadContent tells.cabinet tells.disk
      before.cabinet journal (IsDamagedAfter network entries at)
  AreAllBeforeDamage network entries _ = ⊤

  -- The packets of entries with which the journal begins are out: of all before damage, if that is
  -- the fault.
  pub record ShipsBefore (network : Network) (why : Fault) : Type 0 where
    pub part : ShipsPart network
        (Grows (tells.sink.content before.output) (tells.sink.content after.output))
    pub all : AreAllBeforeDamage network part.entries why

  -- What shipping comes to, before its last line. At a fault of the journal packets of entries with
  -- which it begins are out; where the output failed, a part of such packets is. No record and no
  -- seal was written.
  abbrev pub ShipsJournal : Network → Result ⊤ Fault → Type 0
  ShipsJournal network (Ok _) = ShipsWhole network
  ShipsJournal network (Err Write) = ShipsPart network
      (GrowsInPart (tells.sink.content before.output) (tells.sink.content after.output))
      × Rose (tells.sink.frame before.output) (tells.sink.frame after.output)
      × IsReadAsBefore network
  ShipsJournal network (Err why) = OpensNoJournal tells.cabinet tells.disk journal
      before.cabinet after.cabinet network (Err why)
      × ShipsBefore network why × OutputWorked tells.sink before.output after.output
      × IsLeftWithoutRecord network

module _ {I O C E : Type 0} (tells : Tellings I O C E) (journal : List ℕ) (from : ℕ)
    (before after : Parts I O C) where
  -- The journal was shipped, and nothing was entered in it.
  pub record IsShipped (status : ℕ) (network : Network) : Type 0 where
    pub ends : EndsAfter tells.sink after.output status (λ left.
        ShipsJournal tells journal from before (record after { output = left }) network)
    pub unopened : IsUnopened tells.cabinet tells.disk before.cabinet after.cabinet network journal

  -- shipping is to tell the entries of the journal as packets
  abbrev pub to_ship : Purpose
  to_ship = record { IsFulfilled = IsShipped; Untouched = ⊤; OthersHeld = ⊤ }

module _ {I O C E : Type 0} (tells : Tellings I O C E) (names : PricedNames) (from : ℕ)
    (before after : Parts I O C) where
  -- what stands after the entries of a journal that is named were shipped
  abbrev pub ShipOutcome : ℕ → Type 0
  ShipOutcome =
      NamedOutcome tells names before after (to_ship tells names.journal from before after)
