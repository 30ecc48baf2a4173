use Rattle.std.proofs.Common.{subst}
use Rattle.hose_book.specs.Ledger.{Ledger}
use Rattle.hose_core.specs.steps.Telling.{AreShown}
use Rattle.hose_core.proofs.Told.{vpns_step}
use Rattle.hose_core.proofs.telling.vpns_now.Goals as goal

pub returns-clause-step : goal.returns-clause-step
returns-clause-step g c = λ epoch history held here.
    let customer = c.args.customer.now in
    vpns_step g.K.Books c.args.books.now epoch history customer held here c.vpns.result (subst (λ (l : Ledger). AreShown l customer c.vpns.result) c.book.ensures c.vpns.ensures.answer)
