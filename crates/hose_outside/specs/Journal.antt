-- A journal's disk, which is taken out of a cabinet and put back, and the store on it between.
use Rattle.std.specs.Prelude.{◌≡◌, ℕ, ◌≤◌, List, IfSome, Ok}
use Rattle.hose_graph.specs.Network.{Network}
use Rattle.hose_graph.specs.declared.entry.Entry.{Entry}
use Rattle.hose_disk.specs.Cabinet.{Has, IsDiskCall, after_back, opened_at, where_told}
use Rattle.hose_disk.specs.Disk.{NoneNew}
use Rattle.hose_disk.specs.declared.cabinet.Cabinet.{Ghosts as CabinetGhosts}
use Rattle.hose_disk.specs.declared.disk.Disk.{Ghosts as DiskGhosts}
use Rattle.hose_journal.specs.Moments.{Images}
use Rattle.hose_store.specs.Opening.{IsAtOpening}
use Rattle.hose_store.specs.Recovery.{IsHistoryOf}

-- ---- the store on a disk

module _ {E : Type 0} (disk : DiskGhosts E) (old : E) (network : Network) where
  -- Each image that a stop may leave of a disk stands for the history. At each moment since its
  -- opening each image is one that it had then, or stands for what it stood for as it was read.
  pub record IsLeftWith (history : List Entry) (left : E) : Type 0 where
    pub now : Images disk left (IsHistoryOf network history)
    pub moments : (image : List ℕ) → disk.left_since left (disk.moment old) image
        → IsAtOpening disk old network image

-- ---- the disk in a cabinet

module _ {C E : Type 0} (cabinet : CabinetGhosts C E) (disk : DiskGhosts E) where
  -- The disk was taken out of the cabinet, as it was held there under the name, and no call was
  -- made on it.
  pub record IsTakenOut (name : List ℕ) (old new : C) (taken : E) : Type 0 where
    pub content : Has (cabinet.frame old).tells (cabinet.held old name) (λ was.
        disk.content taken ≡ disk.content was)
    pub images : Has (cabinet.frame old).tells (cabinet.held old name) (λ was.
        NoneNew (disk.may_leave was) (disk.may_leave taken))
    pub moment : Has (cabinet.frame old).tells (cabinet.held old name) (λ was.
        disk.moment taken ≡ disk.moment was)
    pub fresh : disk.frame taken ≡ opened_at (disk.moment taken)
    pub call : IsDiskCall {T = E} name (cabinet.frame old) (cabinet.frame new) (Ok taken)

  -- The disk was put into the cabinet, under the name of the one that was out.
  pub record IsPutIn (old new : C) (left : E) : Type 0 where
    pub held : IfSome (cabinet.frame old).out (λ out.
        cabinet.held new out ≡ where_told (cabinet.frame old).tells left)
    pub never_falls : (cabinet.frame old).faults ≤ (cabinet.frame new).faults
    pub call : cabinet.frame new ≡ after_back (disk.frame left) (cabinet.frame old)
