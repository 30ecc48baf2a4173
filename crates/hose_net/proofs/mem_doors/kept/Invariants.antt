use Rattle.std.proofs.Common.{◌≡◌, map, take}
use Rattle.hose_net.specs.steps.MemDoors.{where_kept, where_of}
use Rattle.hose_net.proofs.mem_doors.kept.Given as goal

-- the first so many were kept
abbrev pub invariant-loop-place : goal.invariant-loop-place
invariant-loop-place l = map where_kept l.kept.items ≡ map where_of (take l.place l.addresses)
