-- What the opening of a journal finds, and what it leaves: steps of proofs.
use Rattle.std.specs.Prelude.{◌≡◌, ◌⊎◌, ℕ, ◌<◌, ◌≤◌, ◌^◌, Bool, List, [], ◌++◌, length, Option, Result, Ok, Err, IfSome}
use Rattle.hose_disk.specs.declared.disk.Disk.{Ghosts}
use Rattle.hose_journal.specs.Entries.{is_chained}
use Rattle.hose_journal.specs.steps.Entries.{IsListOf, Means}
use Rattle.hose_journal.specs.Image.{IsClosed, IsUnbegun, IsVersion, IsHeadless, IsUnmarked, IsOther, head, other, front_of}
use Rattle.hose_journal.specs.Layout.{chained_version}
use Rattle.hose_journal.specs.Reading.{HasFailed}
use Rattle.hose_journal.specs.steps.Reading.{IsPiece}
use Rattle.hose_journal.specs.declared.fault.JournalFault.{JournalFault}
use Rattle.hose_journal.specs.declared.fault.JournalFault.TheVariants.{Disk, Other, Damaged, Memory}
use Rattle.hose_journal.specs.declared.piece.Piece.{Piece}

-- an image at some moment of an opening: one of before, or a journal without an entry where none
-- was begun
abbrev pub IsOpened : {D : Type 0} → Ghosts D → D → List ℕ → List ℕ → Type 0
IsOpened disk old digest image =
    disk.may_leave old image ⊎ (IfSome (disk.content old) IsUnbegun × IsListOf digest [] image)

-- What is read is as before, or it is a journal without an entry where none was begun.
abbrev pub KeepsList : Option (List ℕ) → Option (List ℕ) → List ℕ → Type 0
KeepsList old new digest = (new ≡ old)
    ⊎ (IfSome old IsUnbegun × IfSome new (IsListOf digest []))

-- What is read is as before, or it is a journal of the version whose records have chain values, and
-- no record stands in it.
abbrev pub KeepsOrBegins : Option (List ℕ) → Option (List ℕ) → List ℕ → Type 0
KeepsOrBegins old new digest = (new ≡ old)
    ⊎ IfSome new (IsClosed (front_of chained_version digest []))

-- the first piece of a disk of this length
pub record IsFront {D : Type 0} (disk : Ghosts D) (now : D) (piece : Piece) (end : ℕ) :
    Type 0 where
  pub small : end < 2 ^ 62
  pub from : piece.from ≡ 0
  pub is_piece : IsPiece (disk.content now) end piece
  pub told : IfSome (disk.content now) (λ bytes. length bytes ≡ end)

-- a head of this digest, with a gate after it, and whether records have chain values
pub record IsHeadOf (digest front : List ℕ) (chained : Bool) : Type 0 where
  pub version : ℕ
  pub is_version : IsVersion version
  pub chained_is : is_chained version [] ≡ chained
  pub rest : List ℕ
  pub some : 1 ≤ length rest
  pub is : front ≡ head version digest ++ rest

-- No head stands at the front: its first gate is not open, or another mark follows or no version
-- that there is.
abbrev pub HasNoHead : List ℕ → ℕ → Type 0
HasNoHead front at = (IsHeadless front × (at ≡ 0)) ⊎ (IsUnmarked front × (at ≡ 1))

-- what is found at the front of a journal that was begun
abbrev pub HasHead : List ℕ → List ℕ → Result Bool JournalFault → Type 0
HasHead front digest (Ok chained) = IsHeadOf digest front chained
HasHead front digest (Err (Damaged at)) = HasNoHead front at
HasHead front digest (Err (Other kept given)) = IsOther digest kept front × (given ≡ digest)
HasHead front digest (Err Disk) = ⊥
HasHead front digest (Err Memory) = ⊥

-- Why a journal is not opened. A fault of the disk has raised its count.
abbrev pub IsRefusedJournal : {D : Type 0} → Ghosts D → D → D → List ℕ → JournalFault → Type 0
IsRefusedJournal disk old new digest (Damaged at) =
    IfSome (disk.content old) (λ bytes. HasNoHead bytes at)
IsRefusedJournal disk old new digest (Other kept given) = (given ≡ digest)
    × IfSome (disk.content old) (λ bytes. Means digest bytes (other kept))
IsRefusedJournal disk old new digest Disk = HasFailed disk old new
IsRefusedJournal disk old new digest Memory = new ≡ old
