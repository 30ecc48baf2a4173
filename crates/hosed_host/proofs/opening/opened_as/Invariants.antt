use Rattle.std.proofs.Common.{◌≡◌, ◌-◌, ◌≤◌, length}
use Rattle.hosed_host.specs.HostDoors.{door_words}
use Rattle.hosed_host.specs.steps.HostOutcome.{asked_of}
use Rattle.hosed_host.proofs.OpenDoors.{OpensFront}
use Rattle.hosed_host.proofs.opening.opened_as.Given as goal

abbrev pub invariant-loop-place : goal.invariant-loop-place
invariant-loop-place l = (l.place ≤ l.count) × (length l.rules.items ≡ l.place) × (length l.addresses ≡ 65)
    × OpensFront (asked_of l.asked).operator (door_words (asked_of l.asked)) l.place l.addresses l.rules.items

abbrev pub decreases-loop-place : goal.decreases-loop-place
decreases-loop-place l = l.count - l.place
