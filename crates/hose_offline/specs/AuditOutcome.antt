-- What stands after `audit`, by what ended it.
use Rattle.std.specs.Prelude.{ℕ, List, Result, Ok, ⊤}
use Rattle.hose_io.specs.declared.Failed.{Failed}
use Rattle.hose_graph.specs.Network.{Network}
use Rattle.hose_graph.specs.declared.entry.Entry.{Entry}
use Rattle.hose_law.specs.History.{book_of, IsSound}
use Rattle.hose_audit.specs.Audit.{audit_text}
use Rattle.hose_store.specs.Recovery.{IsHistoryOf}
use Rattle.hose_outside.specs.Reading.{PricedNames}
use Rattle.hose_outside.specs.Ending.{EndsTold}
use Rattle.hose_outside.specs.OnDisk.{HadContent, OfHeld}
use Rattle.hose_outside.specs.Parts.{Parts, Tellings}
use Rattle.hose_outside.specs.Unopened.{first_of}
use Rattle.hose_io.specs.Frame.{Met}
use Rattle.hose_disk.specs.Cabinet.{object_of}
use Rattle.hose_outside.specs.Journal.{IsLeftWith}
use Rattle.hose_outside.specs.NamedOutcome.{NamedOutcome, Purpose}

module _ {I O C E : Type 0} (tells : Tellings I O C E) (name : List ℕ)
    (before after : Parts I O C) (network : Network) where
  -- The journal of a name stood for the history, as it was read at its opening, and is left with
  -- it. The cabinet failed exactly where closing did.
  pub record HasAudited (history : List Entry) (closing : Result ⊤ Failed) : Type 0 where
    pub begun : HadContent tells.cabinet tells.disk before.cabinet name
        (IsHistoryOf network history)
    pub sound : IsSound network 0 history
    pub met : Met (object_of (tells.cabinet.frame before.cabinet))
        (object_of (tells.cabinet.frame after.cabinet)) closing
    pub left : OfHeld tells.cabinet name before.cabinet after.cabinet (λ was left.
        IsLeftWith tells.disk was network history left)

module _ {I O C E : Type 0} (tells : Tellings I O C E) (journal : List ℕ)
    (before after : Parts I O C) where
  -- A history was read, for which the journal stood, and the text of its book is told after the
  -- journal was closed.
  abbrev pub IsAudited : ℕ → Network → Type 0
  IsAudited status network = (history : List Entry) × (closing : Result ⊤ Failed)
      × HasAudited tells journal before after network history closing
      × EndsTold tells.sink before.output after.output status (first_of (Ok tt) closing)
      (audit_text network (book_of 0 history))

  -- an audit is to tell the book of the journal
  abbrev pub to_audit : Purpose
  to_audit = record { IsFulfilled = IsAudited; Untouched = ⊤; OthersHeld = ⊤ }

module _ {I O C E : Type 0} (tells : Tellings I O C E) (names : PricedNames)
    (before after : Parts I O C) where
  -- what stands after an audit of a journal that is named
  abbrev pub AuditOutcome : ℕ → Type 0
  AuditOutcome =
      NamedOutcome tells names before after (to_audit tells names.journal before after)
