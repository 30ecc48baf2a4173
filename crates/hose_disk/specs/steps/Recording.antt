-- What contracts see of a record of calls.
use Rattle.std.specs.Prelude.{ℕ, List, ◌∷◌, map, reverse}
use Rattle.hose_disk.specs.steps.Images.{DiskStep, idle, wrote, tried_write, cut_to, tried_cut, synced, read_of}
use Rattle.hose_disk.specs.declared.recording.Recorded.{Recorded}
use Rattle.hose_disk.specs.declared.recording.Recorded.TheVariants.{Idle, Wrote, TriedWrite, CutTo, TriedCut, Synced}

-- the record of a disk's calls: the content at first, and the calls, the newest first
pub record CallRecord : Type 0 where
  pub first : List ℕ
  pub calls : List DiskStep

-- what a recorded call was
abbrev pub step_of : Recorded → DiskStep
step_of Idle = idle
step_of (Wrote at bytes) = wrote at bytes.items
step_of (TriedWrite at count) = tried_write at count
step_of (CutTo len) = cut_to len
step_of (TriedCut len) = tried_cut len
step_of Synced = synced

-- recorded calls, the newest first
abbrev pub steps_of : List Recorded → List DiskStep
steps_of calls = reverse (map step_of calls)

-- a record of calls with one call more
abbrev pub with_call : CallRecord → DiskStep → CallRecord
with_call made call = record made { calls = call ∷ made.calls }

-- what a read gives after the calls of a record
abbrev pub reads : CallRecord → List ℕ
reads made = read_of made.first made.calls
