-- What packets make of the history of a store to which they were offered.
use Rattle.std.specs.Prelude.{◌≡◌, List, Option}
use Rattle.hose_graph.specs.declared.entry.Entry.{Entry}
use Rattle.hose_law.specs.History.{IsSoundAt}
use Rattle.hose_book.specs.steps.GoingOn.{GoesOn}
use Rattle.hose_disk.specs.declared.disk.Disk.{Ghosts}
use Rattle.hose_store.specs.steps.Commit.{store_books}
use Rattle.hose_store.specs.steps.Store.{KeptStore, HasHistory}

-- A store that had a history has one that goes on from there, by commits of sound entries.
pub record LeadsOn {D : Type 0} (disk : Ghosts D) (first : KeptStore D) (since : List Entry)
    (last : KeptStore D) : Type 0 where
  pub history : List Entry
  pub doubt : Option Entry
  pub network : last.ledger.network ≡ first.ledger.network
  pub has : HasHistory disk last history doubt
  pub goes_on : GoesOn (store_books disk) IsSoundAt first.ledger.network since first history last
