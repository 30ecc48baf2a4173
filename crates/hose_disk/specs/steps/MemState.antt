-- What contracts see of a disk in memory, and what each of its calls does to that.
use Rattle.std.specs.Prelude.{◌≡◌, ◌⊎◌, ℕ, List, [], length, Bool, true, false, Option, Some, None, Result, Ok, Err, IsOk, IsErr, Contains, MatchOption, ⊤}
use Rattle.std.proofs.Common.{subst}
use Rattle.hose_io.specs.steps.FailingCalls.{later_calls}
use Rattle.hose_io.specs.steps.Faults.{no_faults, one_fault, one_starved}
use Rattle.hose_io.specs.declared.Failed.{Failed}
use Rattle.hose_io.specs.declared.faults.Faults.{Faults}
use Rattle.hose_disk.specs.Disk.{DiskFrame}
use Rattle.hose_disk.specs.steps.Images.{DiskStep, IsImage, LeftSince}
use Rattle.hose_disk.specs.steps.Recording.{CallRecord, with_call, reads}
use Rattle.hose_disk.specs.declared.call.DiskCall.{DiskCall}
use Rattle.hose_disk.specs.declared.call.DiskCall.TheVariants.{Len, Read, Write, Cut, Sync}

-- the calls of each kind that are to fail, each by its number from now on
pub record ToFail : Type 0 where
  pub lens : List ℕ
  pub reads : List ℕ
  pub writes : List ℕ
  pub cuts : List ℕ
  pub syncs : List ℕ

-- the calls of one kind that are to fail
abbrev pub of_kind : DiskCall → ToFail → List ℕ
of_kind Len failing = failing.lens
of_kind Read failing = failing.reads
of_kind Write failing = failing.writes
of_kind Cut failing = failing.cuts
of_kind Sync failing = failing.syncs

-- the calls that are to fail, with these of one kind, and the others as they were
abbrev pub with_kind : DiskCall → ToFail → List ℕ → ToFail
with_kind Len failing calls = record failing { lens = calls }
with_kind Read failing calls = record failing { reads = calls }
with_kind Write failing calls = record failing { writes = calls }
with_kind Cut failing calls = record failing { cuts = calls }
with_kind Sync failing calls = record failing { syncs = calls }

-- the calls that are to fail, after a call of one kind
abbrev pub after_kind : DiskCall → ToFail → ToFail
after_kind kind failing = with_kind kind failing (later_calls (of_kind kind failing))

-- no call is to fail
abbrev pub none_to_fail : ToFail
none_to_fail = record { lens = []; reads = []; writes = []; cuts = []; syncs = [] }

-- a disk in memory: the record of its calls, those that are to fail, the moment of its opening, its
-- faults, and whether its last call failed
pub record MemState : Type 0 where
  pub made : CallRecord
  pub failing : ToFail
  pub opened : ℕ
  pub faults : Faults
  pub has_failed : Bool

-- a disk of this content, on which no call was made
abbrev pub fresh_disk : List ℕ → MemState
fresh_disk bytes = record {
  made = record { first = bytes; calls = [] };
  failing = none_to_fail;
  opened = 0;
  faults = no_faults;
  has_failed = false;
}

-- ---- what it tells

-- the frame of a disk in memory
abbrev pub mem_disk_frame : MemState → DiskFrame
mem_disk_frame disk =
    record { faults = disk.faults.count; opened = disk.opened; has_failed = disk.has_failed }

-- what a read of a disk in memory gives
abbrev pub content_of : MemState → Option (List ℕ)
content_of disk = Some (reads disk.made)

-- how many calls a disk in memory has recorded
abbrev pub moment_of : MemState → ℕ
moment_of disk = length disk.made.calls

-- the images that a stop now may leave
abbrev pub image_of : MemState → List ℕ → Type 0
image_of disk = IsImage disk.made.first disk.made.calls

-- the images that a stop at some moment from that one on might have left
abbrev pub left_since_of : MemState → ℕ → List ℕ → Type 0
left_since_of disk = LeftSince disk.made.first disk.made.calls

-- a disk in memory tells its content
pub some_is_told : {bytes : List ℕ} → Some bytes ≡ None → ⊥
some_is_told same = subst (λ (told : Option (List ℕ)). MatchOption told ⊥ (λ _. ⊤)) same tt

-- ---- what its calls do

-- a disk in memory after a call that was done
abbrev pub disk_after_done : DiskCall → MemState → DiskStep → MemState
disk_after_done kind disk done = record disk {
  made = with_call disk.made done;
  failing = after_kind kind disk.failing;
  has_failed = false;
}

-- a disk in memory after a call that was to fail, and was begun
abbrev pub disk_after_fault : DiskCall → MemState → DiskStep → MemState
disk_after_fault kind disk begun = record disk {
  made = with_call disk.made begun;
  failing = after_kind kind disk.failing;
  faults = one_fault disk.faults;
  has_failed = true;
}

-- a disk in memory after a call that found no memory for its record; it was not begun
abbrev pub disk_after_starving : DiskCall → MemState → MemState
disk_after_starving kind disk = record disk {
  failing = after_kind kind disk.failing;
  faults = one_starved disk.faults;
  has_failed = true;
}

-- A call of this kind is done where it is not to fail, and is begun where it is; or it found no
-- memory.
abbrev pub IsMemCall : {T : Type 0} → DiskCall → DiskStep → DiskStep → MemState → MemState →
    Result T Failed → Type 0
IsMemCall kind done begun old new (Ok value) =
    (¬ Contains (of_kind kind old.failing) 1) × (new ≡ disk_after_done kind old done)
IsMemCall kind done begun old new (Err failed) =
    (new ≡ disk_after_starving kind old)
    ⊎ (Contains (of_kind kind old.failing) 1 × (new ≡ disk_after_fault kind old begun))

-- How a call ends: its record found no memory, or it was to fail, or it was done.
abbrev pub EndsCall : {T : Type 0} → Bool → Bool → MemState → MemState → Result T Failed → Type 0
EndsCall true fails old new result =
    IsErr result × (new ≡ record old { faults = one_starved old.faults; has_failed = true })
EndsCall false true old new result =
    IsErr result × (new ≡ record old { faults = one_fault old.faults; has_failed = true })
EndsCall false false old new result = IsOk result × (new ≡ record old { has_failed = false })
