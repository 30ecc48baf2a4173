use Rattle.hose_law.proofs.Weights.{weight_unique}
use Rattle.hose_law.proofs.law_one_weight.Goals as goal

pub returns : goal.returns
returns c = weight_unique c.args.top.now c.args.links.now c.args.root c.args.hose.now
