use Rattle.std.proofs.Common.{◌≡◌, ◌++◌, map}
use Rattle.hose_crew.specs.steps.Hands.{AllComeBack}
use Rattle.hose_crew.proofs.hand.give_back.Given as goal

abbrev pub invariant-loop-done : goal.invariant-loop-done
invariant-loop-done g l =
    (goal.iterator-loop-done g).can_next l.done-iterator
    × (goal.iterator-loop-done g).is_finite l.done-iterator
    × AllComeBack (g.L.Door.told l.initial.door) (g.L.Door.told l.door) (map g.L.Door.came_to l.yielded)
    × (l.fn.ended.items ≡ l.yielded ++ l.done-iterator.rest.items)
    × (g.L.Door.frame l.door ≡ g.L.Door.frame l.initial.door)
    × (g.L.Door.opened_at l.door ≡ g.L.Door.opened_at l.initial.door)
