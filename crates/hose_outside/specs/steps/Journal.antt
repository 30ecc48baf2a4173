-- A journal's disk, which is taken out of a cabinet and put back, and the store on it between:
-- steps of proofs.
use Rattle.std.specs.Prelude.{◌≡◌, ℕ, ◌≤◌, List, None, Some, OnErr, OnOk, Result, ⊤}
use Rattle.hose_io.specs.Frame.{Stays}
use Rattle.hose_io.specs.declared.Failed.{Failed}
use Rattle.hose_graph.specs.Network.{Network}
use Rattle.hose_graph.specs.declared.entry.Entry.{Entry}
use Rattle.hose_law.specs.History.{EntryKind}
use Rattle.hose_book.specs.steps.GoingOn.{GoesOn}
use Rattle.hose_disk.specs.Cabinet.{CabinetFrame, object_of}
use Rattle.hose_disk.specs.steps.Disk.{IsCalled}
use Rattle.hose_disk.specs.declared.cabinet.Cabinet.{Ghosts as CabinetGhosts}
use Rattle.hose_disk.specs.declared.disk.Disk.{Ghosts as DiskGhosts}
use Rattle.hose_journal.specs.Moments.{KeepsCount, LeavesOnly}
use Rattle.hose_store.specs.Beginning.{HasLeft}
use Rattle.hose_store.specs.steps.Beginning.{StandsFor}
use Rattle.hose_store.specs.steps.Commit.{Closes, store_books}
use Rattle.hose_store.specs.Opening.{IsAtOpening}
use Rattle.hose_store.specs.steps.Opening.{IsOpenedOn}
use Rattle.hose_store.specs.steps.Store.{KeptStore}
use Rattle.hose_outside.specs.OnDisk.{OthersStay, opening_of}
use Rattle.hose_outside.specs.declared.fault.Fault.{Fault}
use Rattle.hose_outside.specs.Journal.{IsLeftWith, IsPutIn, IsTakenOut}

-- ---- the store on a disk

-- What holds of a disk at each moment: what a stop may leave now is what a stop since now may
-- leave, and a disk that does not tell leaves nothing.
pub record IsLawful {E : Type 0} (disk : DiskGhosts E) : Type 0 where
  pub counts_now : (at : E) (t : ℕ) (image : List ℕ) → t ≤ disk.moment at
      → disk.may_leave at image → disk.left_since at t image
  pub only_now : (at : E) (image : List ℕ) → disk.left_since at (disk.moment at) image
      → disk.may_leave at image
  pub untold : (at : E) (t : ℕ) (image : List ℕ) → disk.content at ≡ None
      → disk.left_since at t image → ⊥

-- A store was just opened on the disk, of which no call failed, and stands for the history for
-- which the disk stood as it was read. However it is closed, the disk is left with that history
-- before anything is added, and else with the one that entries of this kind lead to, as `HasLeft`
-- says.
pub record IsJustOpened {E : Type 0} (disk : DiskGhosts E) (Kind : EntryKind) (old : E)
    (network : Network) (store : KeptStore E) : Type 0 where
  pub lawful : IsLawful disk
  pub opened : IsOpenedOn disk old network store
  pub images : LeavesOnly disk old store.journal.disk (IsAtOpening disk old network)
  pub count : KeepsCount disk old store.journal.disk
  pub stands : StandsFor disk Kind (disk.may_leave old) (opening_of disk network opened.history old)
      opened.history store
  pub unused : (left : E) (closing : Result ⊤ Failed) → Closes disk store left closing
      → IsLeftWith disk old network opened.history left
  pub leaves : (history : List Entry) (last : KeptStore E) (left : E) (closing : Result ⊤ Failed)
      → GoesOn (store_books disk) Kind network opened.history store history last
      → Closes disk last left closing
      → HasLeft disk Kind (disk.may_leave old) (opening_of disk network opened.history old) history
      left closing

-- ---- the disk in a cabinet

-- No disk is out of the cabinet, and it is the cabinet that it was.
pub record IsBack (before after : CabinetFrame) : Type 0 where
  pub none_out : after.out ≡ None
  pub stays : Stays (object_of before) (object_of after)

-- What opening a journal leaves of the cabinet: its disk is out, or where none was opened no disk
-- is. No text was asked for, and it is the cabinet that it was.
pub record IsOpenCall {T : Type 0} (name : List ℕ) (before after : CabinetFrame)
    (result : Result T Fault) : Type 0 where
  pub out : OnOk result (after.out ≡ Some name)
  pub back : OnErr result (after.out ≡ None)
  pub absent : after.absent ≡ before.absent
  pub stays : Stays (object_of before) (object_of after)

-- No text was asked for, and the disks of other names than this one are as they were.
pub record TouchesOnly {C E : Type 0} (cabinet : CabinetGhosts C E) (name : List ℕ) (old new : C) :
    Type 0 where
  pub absent : (cabinet.frame new).absent ≡ (cabinet.frame old).absent
  pub others : OthersStay cabinet name old new

module _ {C E : Type 0} (cabinet : CabinetGhosts C E) (disk : DiskGhosts E) where
  -- The disk of a name was taken out, and the store was opened on it.
  pub record OpensJournal (Kind : EntryKind) (name : List ℕ) (old new : C) (network : Network)
      (store : KeptStore E) : Type 0 where
    pub was : E
    pub taken : IsTakenOut cabinet disk name old new was
    pub opens : IsJustOpened disk Kind was network store

  -- The store was closed, and its disk was put back.
  pub record ClosesJournal (old new : C) (store : KeptStore E) (closing : Result ⊤ Failed) :
      Type 0 where
    pub left : E
    pub closes : Closes disk store left closing
    pub call : IsCalled (disk.frame store.journal.disk) (disk.frame left) closing
    pub back : IsPutIn cabinet disk old new left
    pub keeps : IsBack (cabinet.frame old) (cabinet.frame new)
    pub absent : (cabinet.frame new).absent ≡ (cabinet.frame old).absent
