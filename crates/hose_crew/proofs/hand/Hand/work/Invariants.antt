use Rattle.std.proofs.Common.{◌≤◌, ◌-◌, length, map, vec_capacity}
use Rattle.hose_crew.specs.steps.Hands.{Works}
use Rattle.hose_crew.proofs.hand.Hand.work.Given as goal

abbrev pub invariant-loop-one : goal.invariant-loop-one
invariant-loop-one g l =
    Works g.N.DoorStart.start.told l.first.value
    (record { pass = l.pass; parts = l.share.parts; amount = l.share.amount })
    (map g.L.Door.came_to l.self-inside.ended.items)
    × (g.N.DoorStart.start.connections ≤ vec_capacity l.self-inside.ended)

abbrev pub decreases-loop-one : goal.decreases-loop-one
decreases-loop-one g l = g.N.DoorStart.start.connections - length l.self-inside.ended.items
