-- What the calls of a disk do to what it holds, to what a stop may leave, and to its frame.
use Rattle.std.specs.Prelude.{ℕ, List, [], Bool}
use Rattle.hose_io.specs.Frame.{Frame}

-- ---- frames

-- how often a disk has failed, the moment of its opening, and whether its last call failed
pub record DiskFrame : Type 0 where
  pub faults : ℕ
  pub opened : ℕ
  pub has_failed : Bool

-- the frame of a disk as an object of the outside, which has no number
abbrev pub object_frame : DiskFrame → Frame
object_frame disk = record { faults = disk.faults; number = 0; loan = [] }

-- ---- images

-- each image that a stop may leave now is one that it might have left before
abbrev pub NoneNew : (List ℕ → Type 0) → (List ℕ → Type 0) → Type 0
NoneNew old new = (image : List ℕ) → new image → old image
