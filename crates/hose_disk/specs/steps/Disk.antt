-- What the calls of a disk do to what it holds, to what a stop may leave, and to its frame: steps
-- of proofs.
use Rattle.std.specs.Prelude.{◌≡◌, ◌⊎◌, ℕ, ◌+◌, ◌-◌, ◌≤◌, min, max, List, ◌++◌, length, take, drop, Option, None, Some, Result, is_err, ⊤}
use Rattle.hose_io.specs.Frame.{Met}
use Rattle.hose_io.specs.declared.Failed.{Failed}
use Rattle.hose_disk.specs.Disk.{DiskFrame, object_frame}

-- ---- frames

-- What each call does to the frame: its failure has a cause and is told, and the moment of the
-- opening stays.
pub record IsCalled {T : Type 0} (before after : DiskFrame) (result : Result T Failed) :
    Type 0 where
  pub met : Met (object_frame before) (object_frame after) result
  pub opened : after.opened ≡ before.opened
  pub told : after.has_failed ≡ is_err result

-- ---- bytes

-- new is old with these bytes at this place
abbrev pub IsOverwritten : ℕ → List ℕ → List ℕ → List ℕ → Type 0
IsOverwritten at bytes old new = new ≡ take at old ++ bytes ++ drop (at + length bytes) old

-- new is the front of old, of this length
abbrev pub IsTruncated : ℕ → List ℕ → List ℕ → Type 0
IsTruncated len old new = new ≡ take len old

-- A write of so many bytes was begun: any bytes may be in its range and past the old end, and the
-- others are as before.
pub record Torn (at count : ℕ) (old new : List ℕ) : Type 0 where
  pub front : take at new ≡ take at old
  pub after : drop (at + count) new ≡ drop (at + count) old
  pub no_shorter : length old ≤ length new
  pub no_longer : length new ≤ max (length old) (at + count)

-- A cut was begun: the length is one from what was asked for up to the old one.
pub record IsCut (len : ℕ) (old new : List ℕ) : Type 0 where
  pub no_shorter : min len (length old) ≤ length new
  pub front : take (length new) old ≡ new

-- a read of `room` bytes from a place gave these
pub record IsReadAt (at room : ℕ) (bytes got : List ℕ) : Type 0 where
  pub amount : length got ≡ min room (length bytes - at)
  pub bytes_there : got ≡ take (length got) (drop at bytes)

-- Where a disk tells, what it held and what it holds are in this relation. Whether it tells stays.
abbrev pub ContentSteps : (List ℕ → List ℕ → Type 0) → Option (List ℕ) → Option (List ℕ) → Type 0
ContentSteps step None None = ⊤
ContentSteps step None (Some new) = ⊥
ContentSteps step (Some old) None = ⊥
ContentSteps step (Some old) (Some new) = step old new

-- ---- images

-- each image that a stop may leave now is one of before, after a step
abbrev pub StepsTo : (List ℕ → List ℕ → Type 0) → (List ℕ → Type 0) → (List ℕ → Type 0) → Type 0
StepsTo step old new = (image : List ℕ) → new image → (was : List ℕ) × old was × step was image

-- a stop leaves these bytes and nothing else
abbrev pub Only : List ℕ → (List ℕ → Type 0) → Type 0
Only bytes images = (image : List ℕ) → images image → image ≡ bytes

-- Time goes on: a stop at t or later might have left what it might have left before, or what it may
-- leave now.
pub record Elapses (before now : ℕ) (past since : ℕ → List ℕ → Type 0)
    (may_leave : List ℕ → Type 0) : Type 0 where
  pub later : before ≤ now
  pub nothing_else : (t : ℕ) (image : List ℕ) → t ≤ before → since t image →
      past t image ⊎ may_leave image
  pub keeps : (t : ℕ) (image : List ℕ) → t ≤ before → past t image → since t image
