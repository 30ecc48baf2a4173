use Rattle.std.proofs.Common.{◌≡◌, ◌≤◌, Some, arith, length, refl, sym, subst}
use Rattle.hose_graph.specs.declared.command.Command.TheVariants.{Quote}
use Rattle.hose_law.specs.Quotes.{free_number}
use Rattle.hose_core.specs.steps.Holding.{IsMadeAt, State, quotes_in}
use Rattle.hose_core.specs.steps.Stepping.{HaveAnswered}
use Rattle.hose_core.proofs.Answering.{answered_same}
use Rattle.hose_core.proofs.Earlier.{made_now}
use Rattle.hose_core.proofs.HeldQuotes.{kept_now, kept_told}
use Rattle.hose_core.proofs.SteppedOn.{held_on, of_fields, told_done, told_names}
use Rattle.hose_core.proofs.stepping.Core.hold.Goals as goal

pub hold-requires-clause-free : goal.hold-requires-clause-free
hold-requires-clause-free g c = rw (← c.self.view_is) at c.requires.free

pub invariant_of-self : goal.invariant_of-self
invariant_of-self g c =
    let ledger = g.K.Books.ledger c.self.inside.books in
    let was = c.self.inside.quotes in
    let customer = c.args.customer.now in
    let made = subst (λ (s : State _). let l = g.K.Books.ledger s.books in IsMadeAt l.network l.book c.args.quote) (sym c.self.view_is) c.requires.made in
    let one = kept_told ledger (quotes_in was customer) c.hold.ensures.0 c.args.number c.args.quote c.hold.result c.requires.range.0 c.requires.range.1 (made_now ledger c.args.quote made) (c.self.invariant.0 customer) c.hold.ensures.1 in
    (kept_now ledger was c.hold.new.self customer c.hold.ensures.0 c.hold.ensures.2 one c.self.invariant.0, c.self.invariant.1)

pub returns-clause-step : goal.returns-clause-step
returns-clause-step g c = λ epoch history holdings.
    let books = g.K.Books in
    let fields : State _ = record { books = c.self.inside.books; quotes = c.self.inside.quotes } in
    let new : State _ = record { books = c.self.inside.books; quotes = c.hold.new.self } in
    let customer = c.args.customer.now in
    let number = c.args.number in
    let quote = c.args.quote in
    let free : free_number (quotes_in c.self.inside.quotes customer) ≡ Some number = rw (← c.self.view_is) at c.requires.free in
    let made = subst (λ (s : State _). let l = books.ledger s.books in IsMadeAt l.network l.book quote) (sym c.self.view_is) c.requires.made in
    let most : number ≤ length (quotes_in c.self.inside.quotes customer) = omega (arith, c.requires.range.1, (c.self.invariant.0 customer).numbers) in
    of_fields books fields c.args.self.now new epoch history holdings customer (Quote quote.hose) c.hold.result c.self.view_is
    (λ fits. held_on books fields epoch history holdings customer fits new number quote c.hold.ensures.0 c.hold.result c.requires.range.0 most free made refl c.hold.ensures.1 c.hold.ensures.2)

pub returns-clause-answered : goal.returns-clause-answered
returns-clause-answered g c =
    let books = g.K.Books in
    let was = c.self.inside.books in
    let reply = c.hold.result in
    subst (λ (s : State _). HaveAnswered books s.books was reply) c.self.view_is
    (answered_same books was reply (told_done c.args.number c.args.quote _ c.hold.ensures.0 reply c.hold.ensures.1) (told_names (books.ledger was).network c.args.number c.args.quote _ c.hold.ensures.0 reply c.hold.ensures.1))
