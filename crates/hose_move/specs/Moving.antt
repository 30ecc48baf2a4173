-- What moving entries into the journal of a network comes to.
use Rattle.std.specs.Prelude.{◌≡◌, ◌≢◌, ◌⊎◌, ℕ, ◌+◌, ◌≤◌, List, [], ◌∷◌, ◌++◌, length, take, Some, IfSome, Result, Ok, Err, slice_get, ⊤}
use mathlib.Core.List.{IsPrefix}
use Rattle.hose_graph.specs.Network.{Network}
use Rattle.hose_graph.specs.declared.entry.Entry.{Entry}
use Rattle.hose_law.specs.History.{IsSound, IsSoundAt, book_of}
use Rattle.hose_disk.specs.declared.disk.Disk.{Ghosts}
use Rattle.hose_journal.specs.Moments.{Images, KeepsCount, LeavesOnly}
use Rattle.hose_journal.specs.Opening.{KeepsDisk}
use Rattle.hose_journal.specs.Reading.{HasFailed}
use Rattle.hose_store.specs.Entries.{HasEntries}
use Rattle.hose_store.specs.Opening.{IsAtOpening, IsRefusedStore}
use Rattle.hose_store.specs.Recovery.{IsHistoryOf}
use Rattle.hose_store.specs.Replaying.{IsOnlyOpened}
use Rattle.hose_move.specs.declared.fault.MoveFault.{MoveFault}
use Rattle.hose_move.specs.declared.fault.MoveFault.TheVariants.{Store, Differs, Unsound, Disk, Memory}
use Rattle.hose_store.specs.declared.fault.StoreFault.TheVariants as store

-- the bytes stand for a history that is a part of these entries, from the first one on
abbrev pub StandsForPart : Network → List Entry → List ℕ → Type 0
StandsForPart network entries bytes =
    (had : List Entry) × IsPrefix had entries × IsHistoryOf network had bytes

module _ {D : Type 0} (disk : Ghosts D) (was : D) (network : Network) (entries : List Entry) where
  -- The image stands for a part of the entries, from the first one on, with all for which the disk
  -- stood at first.
  pub record IsPartMoved (image : List ℕ) : Type 0 where
    pub part : List Entry
    pub is_part : IsPrefix part entries
    pub since : IfSome (disk.content was) (StandsForPart network part)
    pub stands : IsHistoryOf network part image

  -- an image at some moment: one of an opening, or one that stands for a part of the entries
  abbrev pub IsInMove : List ℕ → Type 0
  IsInMove image = IsAtOpening disk was network image ⊎ IsPartMoved image

  -- what was done to the disk: each image at each moment is one of these
  pub record OnlyMoves (left : D) : Type 0 where
    pub run : LeavesOnly disk was left IsInMove
    pub keeps : KeepsDisk disk was left

  -- The first entries, so many of them, are sound, and each image now stands for exactly these. At
  -- first the disk stood for a part of them. No call of it failed.
  pub record HasMovedTo (left : D) (place : ℕ) : Type 0 where
    pub few : place ≤ length entries
    pub sound : IsSound network 0 (take place entries)
    pub since : IfSome (disk.content was) (StandsForPart network (take place entries))
    pub images : Images disk left (IsHistoryOf network (take place entries))
    pub count : KeepsCount disk was left

  -- The journal on the disk begins with the entries before this epoch, and then has another one
  -- than that of this epoch. The disk was only opened.
  pub record DiffersAt (left : D) (epoch : ℕ) : Type 0 where
    pub place : ℕ
    pub is_epoch : epoch ≡ place + 1
    pub other : Entry
    pub differs : slice_get entries place ≢ Some other
    pub held : HasEntries network (disk.content was) (take place entries ++ other ∷ [])
    pub opened : IsOnlyOpened disk was left network
    pub count : KeepsCount disk was left

  -- The entries before this epoch stand in the journal, and that of this epoch is not sound at the
  -- book that they lead to.
  pub record IsUnsoundAt (left : D) (epoch : ℕ) : Type 0 where
    pub place : ℕ
    pub is_epoch : epoch ≡ place + 1
    pub moved : HasMovedTo left place
    pub entry : Entry
    pub is_entry : slice_get entries place ≡ Some entry
    pub unsound : ¬ IsSoundAt network (book_of 0 (take place entries)) entry

  -- What moving entries comes to: all are moved, and so many VPNs are live; or why not.
  abbrev pub Moves : D → Result ℕ MoveFault → Type 0
  Moves left (Ok live) =
      HasMovedTo left (length entries) × (live ≡ length (book_of 0 entries).live)
  Moves left (Err (Store fault)) =
      IsRefusedStore disk was left network fault × IsOnlyOpened disk was left network
  Moves left (Err (Differs epoch)) = DiffersAt left epoch
  Moves left (Err (Unsound epoch)) = IsUnsoundAt left epoch
  Moves left (Err Disk) = HasFailed disk was left
  Moves left (Err Memory) = KeepsCount disk was left

-- the move did not end for a fault of the disk, nor for want of memory
abbrev pub HasEnough : Result ℕ MoveFault → Type 0
HasEnough (Ok live) = ⊤
HasEnough (Err (Store store.Disk)) = ⊥
HasEnough (Err (Store (store.Other kept given))) = ⊤
HasEnough (Err (Store (store.Damaged at))) = ⊤
HasEnough (Err (Store store.Memory)) = ⊥
HasEnough (Err (Differs epoch)) = ⊤
HasEnough (Err (Unsound epoch)) = ⊤
HasEnough (Err Disk) = ⊥
HasEnough (Err Memory) = ⊥
