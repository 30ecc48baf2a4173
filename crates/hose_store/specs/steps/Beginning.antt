-- What a store stands for since its opening. The kind of the entries that were added, as sound or
-- decided, and the images that the disk had at its opening are parameters: steps of proofs.
use Rattle.std.specs.Prelude.{◌≡◌, ◌⊎◌, ℕ, ◌≤◌, List, length, Option, IfSome, is_some}
use mathlib.Core.List.{IsPrefix}
use Rattle.hose_graph.specs.declared.entry.Entry.{Entry}
use Rattle.hose_law.specs.History.{AreFrom, EntryKind, book_of, opening_book}
use Rattle.hose_disk.specs.declared.disk.Disk.{Ghosts}
use Rattle.hose_store.specs.steps.Store.{KeptStore, HasHistory}
use Rattle.hose_store.specs.Beginning.{Beginning, IsPartOf}

-- The store stands for the history: it has it, with one entry in doubt at most; what was added
-- since the opening is of this kind; and at each moment since then each image stands for a part of
-- the history, for such a part and one entry more, or is one that the disk had.
pub record StandsFor {D : Type 0} (disk : Ghosts D) (Kind : EntryKind) (Had : List ℕ → Type 0)
    (beginning : Beginning) (history : List Entry) (store : KeptStore D) : Type 0 where
  pub doubt : Option Entry
  pub network : store.ledger.network ≡ beginning.network
  pub has : HasHistory disk store history doubt
  pub since : IsPrefix beginning.since history
  pub added : AreFrom Kind beginning.network (opening_book 0) (length beginning.since) history
  pub doubtful : IfSome doubt (Kind beginning.network (book_of 0 history))
  pub later : beginning.moment ≤ disk.moment store.journal.disk
  pub moments : (image : List ℕ) → disk.left_since store.journal.disk beginning.moment image
      → IsPartOf Kind beginning history image ⊎ Had image
  pub tells : is_some (disk.content store.journal.disk) ≡ beginning.tells
