-- What comes of a command that names a topology and a journal.
use Rattle.std.specs.Prelude.{◌≡◌, ◌⊎◌, ℕ, List, Option, None, Some, IsSome, IsTrue}
use Rattle.hose_io.specs.Stream.{Stream}
use Rattle.hose_graph.specs.Network.{Network}
use Rattle.hose_graph.specs.declared.entry.Entry.{Entry}
use Rattle.hose_store.specs.Recovery.{IsHistoryOf}
use Rattle.hose_outside.specs.Reading.{IsLongAt, IsNotRead, IsStarvedAt, IsTextServable, PricedNames, named_text}
use Rattle.hose_outside.specs.Ending.{IsOut, NoneFailed, TakesWithinLimit}
use Rattle.hose_outside.specs.Fault.{last_line, status_of}
use Rattle.hose_outside.specs.OnDisk.{CabinetFailed, JournalIsTold, OthersStay}
use Rattle.hose_outside.specs.Parts.{Parts, Tellings}
use Rattle.hose_outside.specs.TopologyTold.{HasNetwork, IsFor, IsRefusedText, notation_of}
use Rattle.hose_outside.specs.declared.fault.Fault.{Fault}

-- What such a command is for: what it comes to on the network, by its status; what else is as it
-- was where it comes to nothing; and what else did not fail where no call did.
pub record Purpose : Type 1 where
  pub IsFulfilled : ℕ → Network → Type 0
  pub Untouched : Type 0
  pub OthersHeld : Type 0

module _ {I O C E : Type 0} (tells : Tellings I O C E) (names : PricedNames)
    (before after : Parts I O C) where
  -- The topology and the journal that were named were read, and the command was done, or failed,
  -- as its purpose says; or not, and nothing but the last line is out, which tells why, and the
  -- rest is untouched.
  abbrev pub EndsNamed : Purpose → Option Stream → ℕ → Type 0
  EndsNamed purpose left status =
      HasNetwork (notation_of names.topology) names.prices (named_text tells names before) left
      (purpose.IsFulfilled status)
      ⊎ ((why : Fault) × (status ≡ status_of why) × IsNotRead tells names before after left why
      × IsOut tells.sink before.output after.output (last_line why) × purpose.Untouched)

  -- A topology that is refused gives 2, but for want of memory, a cabinet that failed, and a text
  -- that is too long before it is refused.
  abbrev pub EndsRefused : Option Stream → ℕ → Type 0
  EndsRefused left status = (status ≡ 2) ⊎ (((status ≡ 7)
      × IsStarvedAt (notation_of names.topology) (named_text tells names before) left)
      ⊎ (((status ≡ 6) × CabinetFailed tells.cabinet before.cabinet after.cabinet)
      ⊎ ((status ≡ 8)
      × IsLongAt (notation_of names.topology) (named_text tells names before) left)))

  -- the journal is told, and is so for each network with whose text the topology begins
  abbrev pub JournalIs : (Network → List ℕ → Type 0) → Type 0
  JournalIs Is = IsFor (notation_of names.topology) names.prices (named_text tells names before)
      (λ network. JournalIsTold tells.cabinet tells.disk before.cabinet
      (Some names.journal) (Is network))

  -- What comes of reading the text and opening the journal, of which this is told. Of the text
  -- this is left.
  pub record NamesOutcome (purpose : Purpose) (left : Option Stream) (status : ℕ) : Type 0 where
    pub ends : EndsNamed purpose left status
    pub refused : IsRefusedText (notation_of names.topology) (named_text tells names before) left
        → EndsRefused left status
    -- a text that is not there is a failure of the cabinet, and one that is there is not absent
    pub not_there : IsTrue (tells.cabinet.frame before.cabinet).tells
        → tells.cabinet.text before.cabinet names.topology ≡ None → status ≡ 6
    pub absent : IsTrue (tells.cabinet.frame before.cabinet).tells
        → IsSome (tells.cabinet.text before.cabinet names.topology)
        → (tells.cabinet.frame after.cabinet).absent ≡ (tells.cabinet.frame before.cabinet).absent
    -- the disks of all other names are as they were, whatever ended the command
    pub others : OthersStay tells.cabinet names.journal before.cabinet after.cabinet
    -- a journal that stands for no history of the network is refused
    pub refused_journal : IsTextServable tells names before
        → JournalIs (λ network bytes. (history : List Entry) → ¬ IsHistoryOf network history bytes)
        → NoneFailed tells before after purpose.OthersHeld → (status ≡ 5) ⊎ (status ≡ 7)

  -- What comes of a command that names a topology and a journal and reads nothing besides.
  pub record NamedOutcome (purpose : Purpose) (status : ℕ) : Type 0 where
    pub left : Option Stream
    pub takes : TakesWithinLimit (notation_of names.topology) (named_text tells names before) left
        status
    pub named : NamesOutcome purpose left status
    -- a text of a network, with a journal of that network, is told, but for want of memory and
    -- where a call failed
    pub complete : IsTextServable tells names before
        → JournalIs (λ network bytes. (history : List Entry) × IsHistoryOf network history bytes)
        → NoneFailed tells before after purpose.OthersHeld → (status ≡ 0) ⊎ (status ≡ 7)
    -- nothing is taken of the input
    pub input : after.input ≡ before.input
