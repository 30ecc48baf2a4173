use Rattle.hose_core.specs.steps.Bound.{admission_command}
use Rattle.hose_core.proofs.Earlier.{kept_on, table_on}
use Rattle.hose_core.proofs.SteppedOn.{admission_keeps, keeps_answered}
use Rattle.hose_core.proofs.stepping.Core.admit.Goals as goal

pub invariant_of-self : goal.invariant_of-self
invariant_of-self g c =
    let ledger = g.K.Books.ledger c.self.inside.books in
    let goes = c.admit_with_rows-reply.ensures.answered.ledger in
    (λ customer. kept_on ledger _ goes _ (c.self.invariant.0 customer), table_on ledger _ goes c.self.inside.table c.self.invariant.1)

pub returns : goal.returns
returns g c =
    let asked = c.args.asked in
    keeps_answered c.args.customer.now (admission_command asked.known asked.hose) (admission_keeps asked.known asked.hose) c.self.view_is c.admit_with_rows-reply.ensures.answered c.admit_with_rows-reply.ensures.step
