use Rattle.std.proofs.Common.{List, None, subst}
use Rattle.hose_cert.specs.CertLine.{CertLine}
use Rattle.hose_cert.specs.steps.CertLine.{statement_line}
use Rattle.hose_cert.specs.Certificate.{MayFollow, last_of}
use Rattle.hose_cert.proofs.Drafting.{refused}
use Rattle.hose_cert.proofs.draft.take_cost.Goals as goal

pub returns-in_default : goal.returns-in_default
returns-in_default c = λ lines none.
    refused c.args.top.now lines (statement_line c.args.told) (λ may.
    let no_cost = rw c.in_default.is at c.as_cost.ensures in
    no_cost c.args.top.now (subst (λ (ls : List CertLine). MayFollow c.args.top.now (last_of None ls) (statement_line c.args.told)) none may))
