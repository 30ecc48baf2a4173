-- What a store stands for since its opening. The kind of the entries that were added, as sound or
-- decided, and the images that the disk had at its opening are parameters.
use Rattle.std.specs.Prelude.{◌⊎◌, ℕ, Bool, List, [], ◌∷◌, ◌++◌, Option, IfSome, Result, OnOk}
use Rattle.hose_io.specs.declared.Failed.{Failed}
use mathlib.Core.List.{IsPrefix}
use Rattle.hose_graph.specs.Network.{Network}
use Rattle.hose_graph.specs.declared.entry.Entry.{Entry}
use Rattle.hose_law.specs.History.{EntryKind, book_of}
use Rattle.hose_disk.specs.declared.disk.Disk.{Ghosts}
use Rattle.hose_journal.specs.Moments.{Images}
use Rattle.hose_store.specs.Recovery.{IsHistoryOf}
use Rattle.hose_store.specs.Store.{IsHistoryWith}

-- what is fixed when a store is opened: the history that it had then, its network, the moment of
-- the opening, and whether the disk tells its content
pub record Beginning : Type 0 where
  pub since : List Entry
  pub network : Network
  pub moment : ℕ
  pub tells : Bool

-- the image stands for the history, or for it and one entry more, which is of this kind there
abbrev pub IsOrOneMore : EntryKind → Network → List Entry → List ℕ → Type 0
IsOrOneMore Kind network history image = IsHistoryOf network history image
    ⊎ ((entry : Entry) × Kind network (book_of 0 history) entry
    × IsHistoryOf network (history ++ entry ∷ []) image)

-- the image stands for the history, or for it and the entry in doubt, if there is one
abbrev pub IsOrInDoubt : Network → List Entry → Option Entry → List ℕ → Type 0
IsOrInDoubt network history doubt image = IsHistoryOf network history image
    ⊎ IsHistoryWith network history doubt image

-- The image stands for a part of the history from its beginning, with all that there was at the
-- opening; or for such a part and one entry more, which is of this kind there.
abbrev pub IsPartOf : EntryKind → Beginning → List Entry → List ℕ → Type 0
IsPartOf Kind beginning history image =
    (part : List Entry) × IsPrefix beginning.since part × IsPrefix part history
    × IsOrOneMore Kind beginning.network part image

-- What a store that stood for the history has left of its disk, once it is closed: each image now
-- stands for the history, or for it and the one entry in doubt, and for the history alone where
-- closing did not fail; and since the opening each stands for a part, as above.
pub record HasLeft {D T : Type 0} (disk : Ghosts D) (Kind : EntryKind) (Had : List ℕ → Type 0)
    (beginning : Beginning) (history : List Entry) (left : D) (result : Result T Failed) :
    Type 0 where
  pub doubt : Option Entry
  pub doubtful : IfSome doubt (Kind beginning.network (book_of 0 history))
  pub now : Images disk left (IsOrInDoubt beginning.network history doubt)
  pub closed : OnOk result (Images disk left (IsHistoryOf beginning.network history))
  pub moments : (image : List ℕ) → disk.left_since left beginning.moment image
      → IsPartOf Kind beginning history image ⊎ Had image
