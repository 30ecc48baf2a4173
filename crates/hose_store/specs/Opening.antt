-- What the opening of a store finds, and what it leaves.
use Rattle.std.specs.Prelude.{◌≡◌, ◌⊎◌, ℕ, List, IfSome}
use Rattle.hose_graph.specs.Network.{Network}
use Rattle.hose_graph.specs.declared.entry.Entry.{Entry}
use Rattle.hose_disk.specs.declared.disk.Disk.{Ghosts}
use Rattle.hose_journal.specs.Image.{other, damaged}
use Rattle.hose_journal.specs.Moments.{LeavesOnly}
use Rattle.hose_journal.specs.Reading.{HasFailed}
use Rattle.hose_store.specs.Recovery.{digest_of, IsHistoryOf, IsRecoveredAs}
use Rattle.hose_store.specs.declared.fault.StoreFault.{StoreFault}
use Rattle.hose_store.specs.declared.fault.StoreFault.TheVariants.{Disk, Other, Damaged, Memory}

-- An image at some moment of an opening: one of before, or one that stands for the history for
-- which the disk stood as it was read.
abbrev pub IsAtOpening : {D : Type 0} → Ghosts D → D → Network → List ℕ → Type 0
IsAtOpening disk old top image = disk.may_leave old image
    ⊎ ((history : List Entry) × IfSome (disk.content old) (IsHistoryOf top history)
    × IsHistoryOf top history image)

-- nothing on the disk was changed: at every moment a stop leaves what it might have left before
abbrev pub IsUnchanged : {D : Type 0} → Ghosts D → D → D → Type 0
IsUnchanged disk old new = LeavesOnly disk old new (disk.may_leave old)

-- Why a store is not opened: the disk failed; or it is unchanged and, as it was read, had the
-- journal of another topology or was damaged, or memory was wanting.
abbrev pub IsRefusedStore : {D : Type 0} → Ghosts D → D → D → Network → StoreFault → Type 0
IsRefusedStore disk old new top Disk = HasFailed disk old new
IsRefusedStore disk old new top (Other kept given) = IsUnchanged disk old new
    × (given ≡ digest_of top)
    × IfSome (disk.content old) (λ bytes. IsRecoveredAs top bytes (other kept))
IsRefusedStore disk old new top (Damaged at) = IsUnchanged disk old new
    × IfSome (disk.content old) (λ bytes. IsRecoveredAs top bytes (damaged at))
IsRefusedStore disk old new top Memory = IsUnchanged disk old new
