use Rattle.std.proofs.Common.{arith, refl}
use Rattle.hose_plan.proofs.NamedLinks.{all_served}
use Rattle.hose_plan.proofs.since.is_service_since.Goals as goal

pub returns : goal.returns
returns c = (
  λ yes. all_served c.args.top.now c.args.service.now c.args.changes.now c.args.seen c.args.served.now c.requires.served c.requires.service c.requires.others (λ k below. c.loop-at.invariant k (omega arith)),
  λ same. refl,
)
