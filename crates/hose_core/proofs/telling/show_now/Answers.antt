use Rattle.std.proofs.Common.{subst}
use Rattle.hose_book.specs.Ledger.{Ledger}
use Rattle.hose_core.specs.steps.Telling.{IsShown}
use Rattle.hose_core.proofs.Told.{show_step}
use Rattle.hose_core.proofs.telling.show_now.Goals as goal

pub returns-clause-step : goal.returns-clause-step
returns-clause-step g c = λ epoch history held here.
    let customer = c.args.customer.now in
    show_step g.K.Books c.args.books.now epoch history customer held here c.args.id c.show.result (subst (λ (l : Ledger). IsShown l customer c.args.id c.show.result) c.book.ensures c.show.ensures.answer)
