use Rattle.std.proofs.Common.{◌≤◌, ◌∙◌, None, ap, refl, subst, sym, arith}
use Rattle.hose_book.specs.Ledger.{Ledger}
use Rattle.hose_graph.specs.declared.command.Command.TheVariants.{Take}
use Rattle.hose_graph.specs.declared.command.Reply.TheVariants.{Memory, NoQuote}
use Rattle.hose_graph.specs.declared.limits.TheConstants.{MOST_QUOTES}
use Rattle.hose_law.specs.Quotes.{at_number, with_number}
use Rattle.hose_law.proofs.Numbers.{some_at}
use Rattle.hose_core.specs.steps.Holding.{State, quotes_in}
use Rattle.hose_core.specs.steps.Stepping.{HaveAnswered}
use Rattle.hose_core.proofs.Earlier.{grounds_since, kept_on, table_on}
use Rattle.hose_core.proofs.HeldQuotes.{kept_now, kept_with, some_alike}
use Rattle.hose_core.proofs.SteppedOn.{no_quote_on, of_fields, stays_answered, take_memory_on, taken_on}
use Rattle.hose_core.proofs.stepping.Core.take.Goals as goal

pub returns-in_default : goal.returns-in_default
returns-in_default g c =
    let customer = c.args.customer.now in
    let number = c.args.number in
    let at = c.epoch-at.ensures.value ∙ ap (λ (l : Ledger). l.book.epoch) (c.book.ensures ∙ ap (λ (s : State _). g.K.Books.ledger s.books) c.self.view_is) in
    let none = ap (λ (s : State _). at_number (quotes_in s.quotes customer) number) (sym c.self.view_is) ∙ c.in_default.ensures.none in
    stays_answered g.K.Books c.args.self.now customer (Take number) (NoQuote number c.epoch-at.result)
    (λ epoch history holdings fits. no_quote_on g.K.Books c.args.self.now epoch history holdings customer fits number c.epoch-at.result at none) refl tt

pub claim_take-requires : goal.claim_take-requires
claim_take-requires g c = ((c.self.invariant.0 c.args.customer.now).made c.args.number c.in-Some.quote.now c.in-Some.ensures.some).made.ranges

pub returns-in_default-claim_take : goal.returns-in_default-claim_take
returns-in_default-claim_take g c =
    let customer = c.args.customer.now in
    let number = c.args.number in
    let there = ap (λ (s : State _). at_number (quotes_in s.quotes customer) number) (sym c.self.view_is) ∙ c.in-Some.ensures.some in
    stays_answered g.K.Books c.args.self.now customer (Take number) Memory
    (λ epoch history holdings fits. take_memory_on g.K.Books c.args.self.now epoch history holdings customer fits number c.in-Some.quote.now there) refl tt

pub take_now-reply-requires-clause-made : goal.take_now-reply-requires-clause-made
take_now-reply-requires-clause-made g c =
    let before = (c.self.invariant.0 c.args.customer.now).made c.args.number c.in-Some.quote.now c.in-Some.ensures.some in
    (before.book, before.made)

pub take_now-reply-requires-clause-since : goal.take_now-reply-requires-clause-since
take_now-reply-requires-clause-since g c =
    let quote = c.in-Some.quote.now in
    grounds_since (g.K.Books.ledger c.self.inside.books) quote ((c.self.invariant.0 c.args.customer.now).made c.args.number quote c.in-Some.ensures.some)

pub clear-requires : goal.clear-requires
clear-requires g c =
    let quotes = quotes_in c.self.inside.quotes c.args.customer.now in
    let range = some_at quotes c.args.number c.in-Some.quote.now c.in-Some.ensures.some in
    let most : c.args.number ≤ MOST_QUOTES = omega (arith, range.1, (c.self.invariant.0 c.args.customer.now).numbers) in
    (range.0, most)

pub invariant_of-self : goal.invariant_of-self
invariant_of-self g c =
    let ledger = g.K.Books.ledger c.self.inside.books in
    let was = c.self.inside.quotes in
    let customer = c.args.customer.now in
    let quotes = quotes_in was customer in
    let range = some_at quotes c.args.number c.in-Some.quote.now c.in-Some.ensures.some in
    let most : c.args.number ≤ MOST_QUOTES = omega (arith, range.1, (c.self.invariant.0 customer).numbers) in
    let one = kept_with ledger quotes c.args.number None range.0 most tt (c.self.invariant.0 customer) in
    let kept = kept_now ledger was c.clear.new.self customer (with_number quotes c.args.number None) c.clear.ensures one c.self.invariant.0 in
    let goes = c.take_now-reply.ensures.answered.ledger in
    (λ name. kept_on ledger _ goes (quotes_in c.clear.new.self name) (kept name), table_on ledger _ goes c.self.inside.table c.self.invariant.1)

pub returns : goal.returns
returns g c =
    let books = g.K.Books in
    let fields : State _ = record { books = c.self.inside.books; quotes = c.self.inside.quotes } in
    let new : State _ = record { books = c.take_now-reply.new.books; quotes = c.clear.new.self } in
    let customer = c.args.customer.now in
    let number = c.args.number in
    let quote = c.in-Some.quote.now in
    let reply = c.take_now-reply.result in
    let called = c.take_now-reply.ensures in
    record {
      step = λ epoch history holdings.
          of_fields books fields c.args.self.now new epoch history holdings customer (Take number) reply c.self.view_is
          (λ fits.
          let one = some_alike (books.ledger fields.books).network epoch history (holdings customer) (quotes_in fields.quotes customer) (fits.held customer) number quote c.in-Some.ensures.some in
          taken_on books fields new epoch history holdings customer fits called.answered.network number quote reply c.in-Some.ensures.some called.memory
          (called.step customer epoch number history (holdings customer) one.0 c.in-Ok.ensures fits.book one.1 one.2) c.clear.ensures);
      answered = subst (λ (s : State _). HaveAnswered books s.books new.books reply) c.self.view_is called.answered;
    }
