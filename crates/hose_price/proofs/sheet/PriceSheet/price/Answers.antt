-- The plan's cost between its bounds; or no plan, whatever the costs.
use Rattle.std.proofs.Common.{ℕ, subst}
use Rattle.hose_graph.specs.Network.{IsNetwork}
use Rattle.hose_law.specs.CanonicalPlan.{IsCanonicalPlan, IsRoot}
use Rattle.hose_tariff.specs.Fact.{IsPrice}
use Rattle.hose_price.specs.declared.priced.Price.{Price}
use Rattle.hose_price.specs.declared.sheet.Column.{Column}
use Rattle.hose_price.specs.Pricing.{IsPriceOf}
use Rattle.hose_price.specs.Sheet.{IsSheet, Sheet}
use Rattle.hose_price.proofs.Bounding.{is_price}
use Rattle.hose_price.proofs.Firsts.{first_plan, no_plan}
use Rattle.hose_price.proofs.sheet.PriceSheet.price.Goals as goal

pub returns-in_default : goal.returns-in_default
returns-in_default g c =
    let column = c.column-column.result.now in
    let none : (root weight : ℕ) → ¬ IsRoot column.top c.args.asked.now.links.now c.args.asked.now.hose.now root weight = rw c.in_default.is at (c.in_ok-amounts.ensures).no_root in
    no_plan (IsPrice column.base column.per) c.args.self.now.network column.top c.column-column.ensures.is_column.top c.args.asked.now.links.now c.requires.links c.args.asked.now.hose.now c.plan.ensures.network none

pub returns : goal.returns
returns g c =
    let sheet = c.args.self.now in
    let hose = c.args.asked.now.hose.now in
    let column = c.column-column.result.now in
    let priced = c.column-column.ensures.is_column.top in
    let over : IsCanonicalPlan column.top c.args.asked.now.links.now hose c.in-Some.amounts = rw c.in-Some.is at (c.in_ok-amounts.ensures).plan in
    let first = first_plan (IsPrice column.base column.per) sheet.network column.top priced c.args.asked.now.links.now c.requires.links hose c.in-Some.amounts over in
    let price : Price = record { cost = c.cost.result; low = c.low.result; high = c.high.result } in
    let is_sheet : IsSheet sheet = subst IsSheet c.self.view_is c.self.invariant in
    let hops : IsNetwork sheet.hops = subst (λ (s : Sheet). IsNetwork s.hops) c.self.view_is c.nodes-hops.ensures.network in
    let is = is_price sheet is_sheet hose c.in-Some.amounts column priced first c.args.bounds.now c.requires.bounds hops c.plan.ensures.network price
    c.cost.ensures c.low.ensures c.high.ensures in
    λ other. subst (λ (col : Column). IsPriceOf sheet hose col price) (c.column-column.ensures.of other) is
