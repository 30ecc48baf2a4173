use Rattle.std.proofs.Common.{List, None, subst}
use Rattle.hose_cert.specs.CertLine.{CertLine}
use Rattle.hose_cert.specs.steps.CertLine.{statement_line}
use Rattle.hose_cert.specs.Certificate.{MayFollow, last_of}
use Rattle.hose_cert.proofs.Drafting.{refused}
use Rattle.hose_cert.proofs.draft.take_hose.Goals as goal

pub returns-in_default-clause-takes : goal.returns-in_default-clause-takes
returns-in_default-clause-takes c = λ lines stands.
    refused c.args.top.now lines (statement_line c.args.told) (λ may.
    let none = rw c.in_default.is at c.as_hose.ensures in
    none c.args.top.now c.args.cost (subst (λ (ls : List CertLine). MayFollow c.args.top.now (last_of None ls) (statement_line c.args.told)) stands.0 may))
