use Rattle.std.proofs.Common.{rules, ◌≡◌, None}
use Rattle.hose_law.specs.Quotes.{none_held}
use Rattle.hose_core.specs.steps.Holding.{quotes_in}
use Rattle.hose_core.proofs.Customers.{changed_at, kept_at}
use Rattle.hose_core.proofs.by_customer.QuotesByCustomer.clear.Goals as goal

pub returns-in_default : goal.returns-in_default
returns-in_default c =
    let old = c.self.inside.by_customer.entries in
    let customer = c.args.customer.now in
    let found = c.get_mut.ensures.value in
    let same : c.get_mut.follows.lender-at-none.entries ≡ old = search rules in
    let none : quotes_in old customer ≡ none_held = search rules in
    kept_at old c.args.self.now _ customer c.args.number c.self.view_is same none

pub returns : goal.returns
returns c =
    let old = c.self.inside.by_customer.entries in
    let customer = c.args.customer.now in
    let found = c.get_mut.ensures.value in
    let here : quotes_in old customer ≡ c.in-Some.quotes.now = search rules in
    let updates = (c.get_mut.follows.holds c.clear.new.self).3 (search rules) in
    changed_at old c.args.self.now (c.get_mut.follows.lender c.clear.new.self).entries customer c.in-Some.quotes.now c.clear.new.self c.args.number None c.self.view_is here c.clear.ensures updates.0
