-- A first plan that fits is there, so the links that are allowed have a plan.
use Rattle.std.proofs.Common.{None}
use Rattle.hose_plan.proofs.Deciding.{first_allowed}
use Rattle.hose_plan.proofs.decision.allowed_plan.Goals as goal

pub returns-in-None : goal.returns-in-None
returns-in-None g c room are = first_allowed c.args.top.now room c.args.hose.now c.args.grounds.now are None c.if-not-grounds.false c.in-None.is
