use Rattle.std.proofs.Common.{subst, sym}
use Rattle.hose_cert.specs.CertLine.{cost_line, hose_line}
use Rattle.hose_cert.specs.steps.CertLine.{statement_line}
use Rattle.hose_cert.specs.steps.Draft.{IsRefusedLine}
use Rattle.hose_cert.specs.declared.statement.Statement.{Statement}
use Rattle.hose_cert.proofs.Drafting.{no_cost_next, no_hose_next, refused}
use Rattle.hose_cert.proofs.draft.take_into.Goals as goal

pub returns-in-Cost-clause-takes : goal.returns-in-Cost-clause-takes
returns-in-Cost-clause-takes c = λ lines is.
    subst (λ (t : Statement). IsRefusedLine c.args.top.now lines (statement_line t)) (sym c.in-Cost.is)
    (refused c.args.top.now lines (cost_line c.in-Cost.field-0) (no_cost_next c.args.top.now lines c.args.body c.args.body.last c.in-Cost.field-0 is.last))

pub returns-in-Hose-clause-takes : goal.returns-in-Hose-clause-takes
returns-in-Hose-clause-takes c = λ lines is.
    subst (λ (t : Statement). IsRefusedLine c.args.top.now lines (statement_line t)) (sym c.in-Hose.is)
    (refused c.args.top.now lines (hose_line c.in-Hose.field-0) (no_hose_next c.args.top.now lines c.args.body c.args.body.last c.in-Hose.field-0 is.last))
