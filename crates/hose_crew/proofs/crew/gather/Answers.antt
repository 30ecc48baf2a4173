use Rattle.std.proofs.Common.{refl, rules}
use Rattle.hose_session.proofs.Accounting.{none_accounts}
use Rattle.hose_crew.specs.steps.Hands.{HasWorked}
use Rattle.hose_crew.proofs.Gathering.{all_rest, none_gathered, none_returned}
use Rattle.hose_crew.proofs.crew.gather.Goals as goal

pub loop-hand-init : goal.loop-hand-init
loop-hand-init g c =
    let asked = c.requires in (
      search rules,
      search rules,
      search rules,
      none_gathered _ _ c.args.left.pass c.args.left.share.parts asked.pass (search rules) asked.share.0 asked.of.places,
      search rules,
      refl,
      none_returned g.N.DoorStart.start.told (g.L.Door.told c.args.left.door) c.args.left.tally.total c.args.left.share.amount c.args.left.pass asked.share.1 (none_accounts c.args.left.pass (search rules) (search rules)),
      refl,
      refl,
    )

pub loop-hand-preserved : goal.loop-hand-preserved
loop-hand-preserved g c =
    let Worked = HasWorked g.L.Door.came_to g.N.DoorStart.start c.args.first.now.value in
    let step = c.in-Some.ensures.steps.0 in (
      search rules,
      search rules,
      all_rest Worked c.in-Some.hand c.next.new.self.rest.items (rw step at c.loop-hand.invariant.2),
      search rules,
      search rules,
      search rules,
      search rules,
      search rules,
      search rules,
    )
