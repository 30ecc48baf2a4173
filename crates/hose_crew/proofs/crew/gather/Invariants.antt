use Rattle.std.proofs.Common.{◌≡◌, ◌+◌, length}
use Rattle.hose_crew.specs.steps.Hands.{AreBack, HaveWorked, IsGathered}
use Rattle.hose_crew.proofs.crew.gather.Given as goal

abbrev pub invariant-loop-hand : goal.invariant-loop-hand
invariant-loop-hand g l =
    (goal.iterator-loop-hand g).can_next l.hand-iterator
    × (goal.iterator-loop-hand g).is_finite l.hand-iterator
    × HaveWorked g.L.Door.came_to g.N.DoorStart.start l.fn.first.value l.hand-iterator.rest.items
    × IsGathered g.N.Ledger.parts l.fn.first.value l.gathered.pass l.gathered.share.parts
    × (l.gathered.share.parts + length l.hand-iterator.rest.items ≡ g.N.Ledger.parts)
    × (l.gathered.tally.total ≡ l.fn.left.tally.total)
    × AreBack (g.L.Door.told l.fn.left.door) (g.L.Door.told l.gathered.door) l.gathered.share.amount l.gathered.pass
    × (g.L.Door.frame l.gathered.door ≡ g.L.Door.frame l.fn.left.door)
    × (g.L.Door.opened_at l.gathered.door ≡ g.L.Door.opened_at l.fn.left.door)
