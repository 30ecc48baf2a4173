-- The ledger, as contracts see it: a network, its book and recent changes; and what a book keeps.
use Rattle.std.specs.Prelude.{◌≡◌, ℕ, List}
use Rattle.hose_graph.specs.Network.{Network}
use Rattle.hose_graph.specs.declared.entry.Entry.{Entry}
use Rattle.hose_law.specs.Book.{Book}
use Rattle.hose_law.specs.History.{book_of}
use Rattle.hose_law.specs.Recent.{Recent}

-- a network, the book of it, and which links recent entries touched
pub record Ledger : Type 0 where
  pub network : Network
  pub book : Book
  pub recent : Recent

-- the book of a ledger is that of a history which begins at an epoch
abbrev pub HasBookOf : ℕ → List Entry → Ledger → Type 0
HasBookOf epoch history ledger = ledger.book ≡ book_of epoch history

-- the ledger is that of a network and a history: its book is the history's
pub record IsLedgerOf (network : Network) (epoch : ℕ) (history : List Entry)
    (ledger : Ledger) : Type 0 where
  pub is_network : ledger.network ≡ network
  pub is_book : HasBookOf epoch history ledger
