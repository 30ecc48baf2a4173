-- What the calls of a cabinet do to its frame, and what they give.
use Rattle.std.specs.Prelude.{◌≡◌, ℕ, List, [], Option, None, Some, Bool, true, false, if◌then◌else◌, IsTrue, Result, OnOk, OnErr}
use Rattle.hose_io.specs.Count.{one_more}
use Rattle.hose_io.specs.Frame.{Frame, Met}
use Rattle.hose_io.specs.declared.Failed.{Failed}
use Rattle.hose_disk.specs.Disk.{DiskFrame}

-- ---- frames

-- how often a cabinet has failed, how many texts were asked for that are not there, the count of
-- faults of the disk that was put back last, the name of the disk that is out, and whether the
-- cabinet tells its content
pub record CabinetFrame : Type 0 where
  pub faults : ℕ
  pub absent : ℕ
  pub returned : ℕ
  pub out : Option (List ℕ)
  pub tells : Bool

-- the frame of a cabinet as an object of the outside, which has no number
abbrev pub object_of : CabinetFrame → Frame
object_of cabinet = record { faults = cabinet.faults; number = 0; loan = [] }

-- What opening a disk does to the frame: its failure has a cause, and its success takes it out.
pub record IsDiskCall {T : Type 0} (name : List ℕ) (before after : CabinetFrame)
    (result : Result T Failed) : Type 0 where
  pub met : Met (object_of before) (object_of after) result
  pub absent : after.absent ≡ before.absent
  pub returned : after.returned ≡ before.returned
  pub taken_out : OnOk result (after.out ≡ Some name)
  pub none_out : OnErr result (after.out ≡ before.out)
  pub tells : after.tells ≡ before.tells

-- the frame of a cabinet after a disk was put back: where the disk's last call failed, that counts
-- here too
abbrev pub after_back : DiskFrame → CabinetFrame → CabinetFrame
after_back disk cabinet = record cabinet {
  faults = if disk.has_failed then one_more cabinet.faults else cabinet.faults;
  returned = disk.faults;
  out = None;
}

-- ---- texts and disks

-- where a cabinet tells, there is this, and it is so
abbrev pub Has : {A : Type 0} → Bool → Option A → (A → Type 0) → Type 0
Has {A} tells found Is = IsTrue tells → (value : A) × (found ≡ Some value) × Is value

-- this, where a cabinet tells
abbrev pub where_told : {A : Type 0} → Bool → A → Option A
where_told true value = Some value
where_told false value = None

-- the frame of a disk that was opened at this moment, and on which no call was made since
abbrev pub opened_at : ℕ → DiskFrame
opened_at moment = record { faults = 0; opened = moment; has_failed = false }
