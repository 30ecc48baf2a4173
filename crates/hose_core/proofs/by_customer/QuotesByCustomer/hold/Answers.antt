use Rattle.std.proofs.Common.{rules, ◌≡◌, ◌∙◌, List, Option, ap, refl, subst, sym}
use Rattle.hose_law.specs.Quotes.{free_number, none_held}
use Rattle.hose_core.specs.steps.Holding.{AllQuotes, HoldsNow, quotes_in}
use Rattle.hose_core.specs.steps.Planning.{HasTold}
use Rattle.hose_core.specs.declared.quotes.Quote.{Quote}
use Rattle.hose_core.proofs.Customers.{held_in, holds_same}
use Rattle.hose_core.proofs.by_customer.QuotesByCustomer.hold.Goals as goal

pub hold-requires-clause-free : goal.hold-requires-clause-free
hold-requires-clause-free c =
    let old = c.self.inside.by_customer.entries in
    let customer = c.args.customer.now in
    let found = c.get_mut.ensures.value in
    let here : quotes_in old customer ≡ c.in-Some.quotes.now = search rules in
    ap (λ (q : List (Option Quote)). free_number q) (sym here) ∙ ap (λ (q : AllQuotes). free_number (quotes_in q customer)) c.self.view_is ∙ c.requires.free

pub returns-in-Some : goal.returns-in-Some
returns-in-Some c =
    let old = c.self.inside.by_customer.entries in
    let customer = c.args.customer.now in
    let found = c.get_mut.ensures.value in
    let here : quotes_in old customer ≡ c.in-Some.quotes.now = search rules in
    let updates = (c.get_mut.follows.holds c.hold.new.self).3 (search rules) in
    let told = subst (λ (q : List (Option Quote)). HasTold c.args.number c.args.quote q c.hold.new.self c.hold.result) (sym here ∙ ap (λ (q : AllQuotes). quotes_in q customer) c.self.view_is) c.hold.ensures in
    (c.hold.new.self, told, held_in old c.args.self.now (c.get_mut.follows.lender c.hold.new.self).entries customer c.hold.new.self c.self.view_is updates.0)

pub hold-reply-requires-clause-free : goal.hold-reply-requires-clause-free
hold-reply-requires-clause-free c =
    let old = c.self.inside.by_customer.entries in
    let customer = c.args.customer.now in
    let found = c.get_mut.ensures.value in
    let here : quotes_in old customer ≡ none_held = search rules in
    ap (λ (q : List (Option Quote)). free_number q) (c.new-quotes.ensures ∙ sym here) ∙ ap (λ (q : AllQuotes). free_number (quotes_in q customer)) c.self.view_is ∙ c.requires.free

pub returns-in_default-insert : goal.returns-in_default-insert
returns-in_default-insert c =
    let customer = c.args.customer.now in
    let unchanged : c.insert.new.self.entries ≡ c.args.self.now = search rules in
    (quotes_in c.args.self.now customer, refl, subst (HoldsNow c.args.self.now customer (quotes_in c.args.self.now customer)) (sym unchanged) (holds_same c.args.self.now customer (quotes_in c.args.self.now customer) refl))

pub returns : goal.returns
returns c =
    let old = c.self.inside.by_customer.entries in
    let customer = c.args.customer.now in
    let same : c.get_mut.follows.lender-at-none.entries ≡ old = search rules in
    let found = c.get_mut.ensures.value in
    let here : quotes_in old customer ≡ none_held = search rules in
    let told = subst (λ (q : List (Option Quote)). HasTold c.args.number c.args.quote q c.hold-reply.new.self c.hold-reply.result)
    (c.new-quotes.ensures ∙ sym here ∙ ap (λ (q : AllQuotes). quotes_in q customer) c.self.view_is) c.hold-reply.ensures in
    (c.hold-reply.new.self, told, held_in c.get_mut.follows.lender-at-none.entries c.args.self.now c.insert.new.self.entries customer c.hold-reply.new.self (same ∙ c.self.view_is) c.in-Ok.ensures.updates.0)
