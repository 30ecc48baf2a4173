-- What the bounds are made of; or no plan, whatever the costs.
use Rattle.std.proofs.Common.{◌≡◌, ℕ, sym, subst}
use Rattle.hose_law.specs.CanonicalPlan.{IsCanonicalPlan, IsRoot}
use Rattle.hose_law.specs.Walk.{all_links}
use Rattle.hose_price.specs.Pricing.{AreBounds, HasNoPricedPlan}
use Rattle.hose_price.specs.Sheet.{Sheet, costs_length, costs_one}
use Rattle.hose_price.proofs.Firsts.{first_plan, links_there, no_plan}
use Rattle.hose_price.proofs.sheet.PriceSheet.bounds.Goals as goal

pub returns-in_default : goal.returns-in_default
returns-in_default g c =
    let own = c.self.inside in
    let all : c.args.asked.now.links.now ≡ all_links own.top = rw (sym c.self.view_is) at c.requires.links in
    let none : (root weight : ℕ) → ¬ IsRoot own.hops c.args.asked.now.links.now c.args.asked.now.hose.now root weight = rw c.in_default.is at (c.in_ok-few.ensures).no_root in
    let has = no_plan costs_one own.top own.hops c.self.invariant.hops c.args.asked.now.links.now all c.args.asked.now.hose.now c.plan.ensures.network none in
    subst (λ (sheet : Sheet). HasNoPricedPlan sheet.network c.args.asked.now.hose.now) c.self.view_is has

pub plan-requires-2-clause-places : goal.plan-requires-2-clause-places
plan-requires-2-clause-places g c =
    let own = c.self.inside in
    let all : c.args.asked.now.links.now ≡ all_links own.top = rw (sym c.self.view_is) at c.requires.links in
    links_there costs_length own.top own.lengths c.self.invariant.lengths c.args.asked.now.links.now all

pub returns-in_default-2 : goal.returns-in_default-2
returns-in_default-2 g c =
    let own = c.self.inside in
    let all : c.args.asked.now.links.now ≡ all_links own.top = rw (sym c.self.view_is) at c.requires.links in
    let none : (root weight : ℕ) → ¬ IsRoot own.lengths c.args.asked.now.links.now c.args.asked.now.hose.now root weight = rw c.in_default-2.is at (c.in_ok-short.ensures).no_root in
    let has = no_plan costs_length own.top own.lengths c.self.invariant.lengths c.args.asked.now.links.now all c.args.asked.now.hose.now c.plan-2.ensures.network none in
    subst (λ (sheet : Sheet). HasNoPricedPlan sheet.network c.args.asked.now.hose.now) c.self.view_is has

pub returns : goal.returns
returns g c =
    let own = c.self.inside in
    let hose = c.args.asked.now.hose.now in
    let set = c.args.asked.now.links.now in
    let all : set ≡ all_links own.top = rw (sym c.self.view_is) at c.requires.links in
    let few : IsCanonicalPlan own.hops set hose c.in-Some.few = rw c.in-Some.is at (c.in_ok-few.ensures).plan in
    let short : IsCanonicalPlan own.lengths set hose c.in-Some-2.short = rw c.in-Some-2.is at (c.in_ok-short.ensures).plan in
    let sheet : Sheet = record { network = own.top; hops = own.hops; lengths = own.lengths; columns = own.columns.items } in
    let are : AreBounds sheet hose (record { hops = c.cost.result; amounts = c.total.result; lengths = c.cost-2.result }) = record {
      few = c.in-Some.few;
      is_few = first_plan costs_one own.top own.hops c.self.invariant.hops set all hose c.in-Some.few few;
      hops = c.cost.ensures;
      short = c.in-Some-2.short;
      is_short = first_plan costs_length own.top own.lengths c.self.invariant.lengths set all hose c.in-Some-2.short short;
      amounts = c.total.ensures;
      lengths = c.cost-2.ensures;
    } in
    subst (λ (s : Sheet). AreBounds s hose (record { hops = c.cost.result; amounts = c.total.result; lengths = c.cost-2.result })) c.self.view_is are
