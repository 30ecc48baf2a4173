use Rattle.hose_law.specs.steps.Tree.{growth}
use Rattle.hose_law.proofs.Routes.{same_routes}
use Rattle.hose_law.proofs.law_routes.Goals as goal

pub returns : goal.returns
returns c =
    same_routes c.args.top.now (growth c.args.start c.args.steps.now) (growth c.args.other_start c.args.other_steps.now)
    c.requires.tree c.requires.other c.requires.same
