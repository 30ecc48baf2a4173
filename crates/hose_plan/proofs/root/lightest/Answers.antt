-- The lowest of the least weights is the root.
use Rattle.hose_plan.proofs.Rooted.{best_is_root}
use Rattle.hose_plan.proofs.root.lightest.Goals as goal

pub returns : goal.returns
returns c =
    best_is_root c.args.top.now c.args.links.now c.args.hose.now c.args.weights.now c.requires.weights c.choose.result c.choose.ensures.none.0 c.choose.ensures.least
