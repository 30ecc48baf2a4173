-- The row at the place begins at the root.
use Rattle.std.proofs.Common.{rules}
use Rattle.hose_plan.proofs.Rooted.{row_found}
use Rattle.hose_plan.proofs.root.row_among.Goals as goal

pub returns-clause-found : goal.returns-clause-found
returns-clause-found c =
    row_found c.args.top.now c.args.links.now c.args.made.now c.requires.made c.in-Some.place _ (search rules) (search rules) c.args.root (search rules)
