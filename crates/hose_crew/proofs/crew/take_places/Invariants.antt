use Rattle.std.proofs.Common.{◌≡◌, ℕ, ◌+◌, ◌<◌, ◌≤◌, length, slice_index_or}
use Rattle.hose_crew.specs.steps.Hands.{HasWorked, IsIdle}
use Rattle.hose_crew.proofs.crew.take_places.Given as goal

abbrev pub invariant-loop-number : goal.invariant-loop-number
invariant-loop-number g l =
    (length l.hands ≡ length l.fn.hands)
    × (l.pass ≡ record l.first.value { share = l.pass.share })
    × (l.pass.share + l.number ≡ l.first.value.share)
    × (l.share.parts + l.number ≡ length l.fn.hands)
    × (l.share.amount ≡ 0)
    × ((k : ℕ) (d : _) → k < l.number → HasWorked g.L.Door.came_to g.N.DoorStart.start l.first.value (slice_index_or l.hands k d))
    × ((k : ℕ) (d : _) → l.number ≤ k → k < length l.hands → IsIdle g.N.DoorStart.start.connections (slice_index_or l.hands k d))
