use Rattle.hose_law.specs.steps.Tree.{growth}
use Rattle.hose_law.proofs.Cheapest.{root_within}
use Rattle.hose_law.proofs.law_least.Goals as goal

pub returns : goal.returns
returns c =
    root_within c.args.top.now c.nodes-nodes.ensures.network c.args.links.now c.args.hose.now (growth c.args.start c.args.steps.now) c.args.amounts.now c.requires.tree c.requires.over c.requires.carry
