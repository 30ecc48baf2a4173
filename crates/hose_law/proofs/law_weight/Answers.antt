use Rattle.hose_law.proofs.PlanWeight.{plan_weight}
use Rattle.hose_law.proofs.law_weight.Goals as goal

pub returns : goal.returns
returns c = plan_weight c.args.top.now c.nodes-nodes.ensures.network c.args.links.now c.args.hose.now c.args.plan.now c.requires
