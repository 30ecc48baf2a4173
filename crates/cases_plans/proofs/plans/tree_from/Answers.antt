use Rattle.cases_plans.proofs.plans.tree_from.Goals as goal

pub returns : goal.returns
returns c = (c.in_ok-tree.ensures c.in_ok-row.ensures.row.0 c.in_ok-row.ensures.row.1).joins
