use Rattle.std.proofs.Common.{◌∙◌, ℕ, List, ap, refl, subst, sym}
use Rattle.hose_book.specs.Ledger.{Ledger}
use Rattle.hose_graph.specs.declared.command.Command.TheVariants.{Quote as QuoteOf}
use Rattle.hose_graph.specs.declared.command.Reply.TheVariants.{TooMany}
use Rattle.hose_law.specs.Quotes.{free_number}
use Rattle.hose_core.specs.steps.Holding.{State, quotes_in}
use Rattle.hose_core.specs.steps.Planning.{IsNotPlanned, IsPlannedFor}
use Rattle.hose_core.specs.steps.Stepping.{Steps}
use Rattle.hose_core.proofs.Decided.{unplanned_done, unplanned_names}
use Rattle.hose_core.proofs.SteppedOn.{stays_answered, too_many_on, unplanned_on}
use Rattle.hose_core.proofs.stepping.Core.quote.Goals as goal

pub returns-in_default : goal.returns-in_default
returns-in_default g c =
    let customer = c.args.customer.now in
    let at = c.epoch-at.ensures.value ∙ ap (λ (l : Ledger). l.book.epoch) (c.book.ensures ∙ ap (λ (s : State _). g.K.Books.ledger s.books) c.self.view_is) in
    let none = ap (λ (s : State _). free_number (quotes_in s.quotes customer)) (sym c.self.view_is) ∙ sym c.free.ensures.lowest ∙ c.in_default.is in
    stays_answered g.K.Books c.args.self.now customer (QuoteOf c.args.hose) (TooMany c.epoch-at.result)
    (λ epoch history holdings fits. too_many_on g.K.Books c.args.self.now epoch history holdings customer fits c.args.hose c.epoch-at.result at none) refl tt

pub returns-in-Err : goal.returns-in-Err
returns-in-Err g c =
    let customer = c.args.customer.now in
    let hose = c.args.hose in
    let reply = c.in-Err.reply in
    let free = ap (λ (s : State _). free_number (quotes_in s.quotes customer)) (sym c.self.view_is) ∙ sym c.free.ensures.lowest ∙ c.in-Some.is in
    let here = g.K.Books.ledger c.self.inside.books in
    let now = g.K.Books.ledger c.args.self.now.books in
    let none : IsNotPlanned here.network here.book hose reply = rw c.in-Err.is at c.plan_now.ensures.planned in
    let there = subst (λ (s : State _). let l = g.K.Books.ledger s.books in IsNotPlanned l.network l.book hose reply) c.self.view_is none in
    stays_answered g.K.Books c.args.self.now customer (QuoteOf hose) reply
    (λ epoch history holdings fits. unplanned_on g.K.Books c.args.self.now epoch history holdings customer fits hose c.in-Some.number reply free there)
    (unplanned_done now.network now.book hose reply there) (unplanned_names now.network now.book hose reply there)

pub hold-requires-clause-made : goal.hold-requires-clause-made
hold-requires-clause-made g c =
    let here = g.K.Books.ledger c.self.inside.books in
    let planned : IsPlannedFor here.network here.book c.args.hose c.in-Ok.quote = rw c.in-Ok.is at c.plan_now.ensures.planned in
    (subst (λ (s : State _). let l = g.K.Books.ledger s.books in IsPlannedFor l.network l.book c.args.hose c.in-Ok.quote) c.self.view_is planned).made

pub returns-in-Ok : goal.returns-in-Ok
returns-in-Ok g c =
    let here = g.K.Books.ledger c.self.inside.books in
    let planned : IsPlannedFor here.network here.book c.args.hose c.in-Ok.quote = rw c.in-Ok.is at c.plan_now.ensures.planned in
    record {
      step = subst (λ (ends : List (ℕ × ℕ)). Steps g.K.Books c.args.self.now c.hold.new.self c.args.customer.now (QuoteOf ends) c.hold.result) planned.of c.hold.ensures.step;
      answered = c.hold.ensures.answered;
    }
