use Rattle.std.proofs.Common.{None, subst}
use Rattle.hose_law.specs.Answer.{IsLinkAnswer}
use Rattle.hose_book.specs.Ledger.{Ledger}
use Rattle.hose_core.proofs.Told.{link_step}
use Rattle.hose_core.proofs.telling.link_now.Goals as goal

pub returns-clause-step : goal.returns-clause-step
returns-clause-step g c = λ customer epoch history held here.
    link_step g.K.Books c.args.books.now epoch history customer held here c.args.link c.link_state.result
    (subst (λ (l : Ledger). IsLinkAnswer l.book c.args.link c.link_state.result None) c.book.ensures c.link_state.ensures.answer)
