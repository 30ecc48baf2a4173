-- What a commit makes of a store, and what closing does.
use Rattle.std.specs.Prelude.{◌≡◌, ◌⊎◌, Bool, false, true, List, [], ◌∷◌, ◌++◌, Option, Some, None, Result, OnOk}
use Rattle.hose_io.specs.declared.Failed.{Failed}
use Rattle.hose_graph.specs.declared.entry.Entry.{Entry}
use Rattle.hose_book.specs.steps.Commit.{Commits, KeepsTracks}
use Rattle.hose_book.specs.declared.books.Committed.{Committed}
use Rattle.hose_book.specs.declared.books.Committed.TheVariants.{Done, Disk}
use Rattle.hose_book.specs.declared.books.Books.{Ghosts as BooksGhosts}
use Rattle.hose_disk.specs.Disk.{object_frame}
use Rattle.hose_disk.specs.declared.disk.Disk.{Ghosts}
use Rattle.hose_journal.specs.steps.Journal.{IsReady}
use Rattle.hose_journal.specs.declared.prepared.Ready.{Ready}
use Rattle.hose_journal.specs.Moments.{Images, LeavesOnly, TellsAsBefore}
use Rattle.hose_store.specs.Recovery.{IsHistoryOf}
use Rattle.hose_store.specs.steps.Store.{KeptStore, HasHistory, IsAmid}

-- The store has the history with the entry; or that of before, and in doubt is the entry that was,
-- none, or this one.
abbrev pub IsLeft : {D : Type 0} → Ghosts D → List Entry → Option Entry → Entry → Committed
    → KeptStore D → Type 0
IsLeft disk history doubt entry Done new = HasHistory disk new (history ++ entry ∷ []) None
IsLeft disk history doubt entry Disk new = HasHistory disk new history doubt
    ⊎ (HasHistory disk new history None ⊎ HasHistory disk new history (Some entry))

-- the disk failed
abbrev pub is_disk : Committed → Bool
is_disk Done = false
is_disk Disk = true

-- For every history that the store had: at each moment each image stands for it, or for it and one
-- entry more, the one in doubt or this one; and what the store has now.
pub record Went {D : Type 0} (disk : Ghosts D) (old : KeptStore D) (entry : Entry)
    (result : Committed) (new : KeptStore D) : Type 0 where
  pub commits : Commits old.ledger entry result new.ledger
  pub tracks : KeepsTracks old.ledger entry result new.ledger
  pub any_moment : (history : List Entry) (doubt : Option Entry) → HasHistory disk old history doubt
      → LeavesOnly disk old.journal.disk new.journal.disk
      (IsAmid old.ledger.network history doubt (Some entry))
  pub left : (history : List Entry) (doubt : Option Entry) → HasHistory disk old history doubt
      → IsLeft disk history doubt entry result new
  pub tells : TellsAsBefore disk old.journal.disk new.journal.disk
  pub opened : (disk.frame new.journal.disk).opened ≡ (disk.frame old.journal.disk).opened
  pub told : (disk.frame new.journal.disk).has_failed ≡ is_disk result

-- For every history that the store had: at each moment of closing each image stands for it, or for
-- it and the entry in doubt; and for it alone after a success.
pub record Closes {D T : Type 0} (disk : Ghosts D) (old : KeptStore D) (left : D)
    (result : Result T Failed) : Type 0 where
  pub any_moment : (history : List Entry) (doubt : Option Entry) → HasHistory disk old history doubt
      → LeavesOnly disk old.journal.disk left (IsAmid old.ledger.network history doubt None)
  pub closed : OnOk result ((history : List Entry) (doubt : Option Entry)
      → HasHistory disk old history doubt
      → Images disk left (IsHistoryOf old.ledger.network history))
  pub tells : TellsAsBefore disk old.journal.disk left

-- a store as books
abbrev pub store_books : {D : Type 0} → Ghosts D → BooksGhosts (KeptStore D) Ready
store_books disk = record {
  ledger = λ store. store.ledger;
  frame = λ store. object_frame (disk.frame store.journal.disk);
  fits = λ ready entry. IsReady entry ready;
  went = Went disk;
}
