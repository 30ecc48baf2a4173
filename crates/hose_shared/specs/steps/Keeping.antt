-- What a store that is shared stands for.
use Rattle.std.specs.Prelude.{◌≡◌, List}
use Rattle.hose_graph.specs.declared.entry.Entry.{Entry}
use Rattle.hose_law.specs.steps.Tracks.{Tracks}
use Rattle.hose_book.specs.steps.GoingOn.{GoesOn}
use Rattle.hose_book.specs.Ledger.{HasBookOf}
use Rattle.hose_disk.specs.declared.disk.Disk.{Ghosts}
use Rattle.hose_store.specs.steps.Commit.{store_books}
use Rattle.hose_store.specs.steps.Store.{KeptStore}
use Rattle.hose_turn.specs.declared.view.Origin.{Origin}
use Rattle.hose_turn.specs.declared.view.Tried.{Tried}
use Rattle.hose_shared.specs.Trying.{IsTried}

-- The store's book is that of the history, which it tracks. The store with which the lock was made
-- stood for the first list, and commits of entries that were decided led from there to here,
-- whichever of them the disk refused: each is one of the history's, or was tried.
pub record StandsShared {D : Type 0} (disk : Ghosts D)
    (Begins : List Entry → KeptStore D → Type 0) (origin : Origin) (history : List Entry)
    (tries : List Tried) (store : KeptStore D) : Type 0 where
  pub first : KeptStore D
  pub begins : Begins origin.since first
  pub goes_on : GoesOn (store_books disk) (IsTried history tries) origin.network origin.since first
      history store
  pub epoch : origin.first ≡ 0
  pub network : store.ledger.network ≡ origin.network
  pub book : HasBookOf 0 history store.ledger
  pub tracks : Tracks 0 history store.ledger.recent
