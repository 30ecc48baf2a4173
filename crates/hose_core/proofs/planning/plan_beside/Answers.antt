use Rattle.std.proofs.Common.{refl, subst}
use Rattle.hose_law.specs.Decision.{IsRefused}
use Rattle.hose_law.specs.Room.{Room}
use Rattle.hose_core.proofs.Decided.{made_beside, room_there}
use Rattle.hose_core.proofs.planning.plan_beside.Goals as goal

pub returns-in-Ok-Refused-clause-planned : goal.returns-in-Ok-Refused-clause-planned
returns-in-Ok-Refused-clause-planned g c = λ book served loaded at.
    let told = c.in-Ok-Refused.ensures in
    let room = room_there c.args.seen.top.now c.args.seen.service.now c.args.seen.loads.now book served loaded in
    (at, subst (λ (r : Room). IsRefused c.args.seen.top.now r c.args.hose c.in-Ok-Refused.side) room (rw c.in-Ok-Refused.field-0-is at told.decision), rw c.in-Ok-Refused.field-0-is at told.names)

pub returns-in-Ok-Plan-clause-planned : goal.returns-in-Ok-Plan-clause-planned
returns-in-Ok-Plan-clause-planned g c = λ book served loaded at.
    let told = c.in-Ok-Plan.ensures in record {
      of = refl;
      made = made_beside c.args.seen.top.now c.nodes-nodes.ensures.network c.args.seen.service.now c.args.seen.loads.now c.args.hose c.in-Ok-Plan.amounts c.in-Ok-Plan.cost c.args.seen.epoch c.in-Ok-Plan.grounds c.in-Ok-Plan.field-0 c.in-Ok-Plan.field-0-is told.hose
          told.decision told.sound book served loaded at;
    }
