-- A store, as contracts see it, and the history that it stands for.
use Rattle.std.specs.Prelude.{ℕ, List, [], ◌∷◌, ◌++◌, Option, Some, None}
use Rattle.hose_graph.specs.Network.{Network}
use Rattle.hose_graph.specs.declared.entry.Entry.{Entry}
use Rattle.hose_book.specs.Ledger.{Ledger}
use Rattle.hose_journal.specs.declared.journal.Journal.{Journal}
use Rattle.hose_store.specs.Recovery.{IsHistoryOf}

-- a network with its book, and the journal on a disk
pub record KeptStore (D : Type 0) : Type 0 where
  pub ledger : Ledger
  pub journal : Journal D

-- the image stands for the history and one entry more
abbrev pub IsHistoryWith : Network → List Entry → Option Entry → List ℕ → Type 0
IsHistoryWith network history None image = ⊥
IsHistoryWith network history (Some entry) image =
    IsHistoryOf network (history ++ entry ∷ []) image
