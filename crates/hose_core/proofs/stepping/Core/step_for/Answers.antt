use Rattle.std.proofs.Common.{◌∙◌, subst, sym}
use Rattle.hose_core.specs.steps.Holding.{AllQuotes, AreAllKept, AreKept, State, quotes_in}
use Rattle.hose_core.proofs.Earlier.{kept_on}
use Rattle.hose_core.proofs.stepping.Core.step_for.Goals as goal

-- the quotes that the core keeps come back to it
pub invariant_of-self-2 : goal.invariant_of-self-2
invariant_of-self-2 g c =
    let ledger = g.K.Books.ledger c.self.inside.books in
    let goes = c.step-reply.ensures.goes in
    let kept = subst (λ (all : AllQuotes). AreAllKept ledger all) (sym (c.swap-2.ensures.x_after ∙ c.swap.ensures.y_after)) c.self.invariant.0 in (
      λ customer. subst (λ (s : State _). AreKept (g.K.Books.ledger s.books) (quotes_in c.swap-2.new.x customer)) (sym c.self-2.view_is) (kept_on ledger _ goes _ (kept customer)),
      c.self-2.invariant.1,
    )
