use Rattle.std.proofs.Common.{length, ◌-◌, ◌<◌, ◌≤◌, ℕ, [], get_or, map}
use Rattle.std.specs.String.{string_bytes}
use Rattle.hose_doors.specs.Doors.{NamesDoor}
use Rattle.hose_doors.specs.Limits.{most_doors}
use Rattle.hose_doors.proofs.door.doors_named.Given as goal

abbrev pub invariant-loop-place : goal.invariant-loop-place
invariant-loop-place l = (l.place ≤ most_doors) × (l.place ≤ length l.words)
    × ((k : ℕ) → k < l.place → NamesDoor (get_or (map string_bytes l.words) k []))

abbrev pub decreases-loop-place : goal.decreases-loop-place
decreases-loop-place l = length l.words - l.place
