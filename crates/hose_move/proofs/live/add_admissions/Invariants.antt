-- The VPNs so far are admitted, and their numbers are told.
use Rattle.std.proofs.Common.{◌≡◌, ◌++◌, map, take}
use Rattle.hose_move.specs.Stating.{admission_entry, number_of}
use Rattle.hose_move.proofs.live.add_admissions.Given as goal

abbrev pub invariant-loop-place : goal.invariant-loop-place
invariant-loop-place l =
    (l.stated.entries.items ≡ l.fn.stated.entries.items ++ map admission_entry (take l.place l.live))
    × (l.stated.numbers.items ≡ l.fn.stated.numbers.items ++ map number_of (take l.place l.live))
