-- The cost of a plan lies between its bounds, since each rule keeps its fact.
use Rattle.std.proofs.Common.{◌≡◌, ℕ, ◌+◌, ◌*◌, ◌≤◌, List, max, ap, arith, mul-le-mul, le_refl}
use Rattle.std.proofs.Math.Nat.{max-le}
use Rattle.hose_graph.specs.Network.{IsNetwork}
use Rattle.hose_law.specs.Plan.{plan_cost}
use Rattle.hose_law.specs.Walk.{all_links, cost_of}
use Rattle.hose_law.proofs.Cheapest.{canonical_cheapest}
use Rattle.hose_tariff.specs.Fact.{IsPrice, IsPricedBy}
use Rattle.hose_price.specs.declared.bounds.Bounds.{Bounds}
use Rattle.hose_price.specs.declared.sheet.Column.{Column}
use Rattle.hose_price.specs.declared.priced.Price.{Price}
use Rattle.hose_price.specs.Pricing.{AreBounds, IsFirstPlan, IsPriceOf}
use Rattle.hose_price.specs.Sheet.{IsSheet, Sheet, costs_length, costs_one}
use Rattle.hose_price.proofs.Alike.{alike, costs_both}
use Rattle.hose_price.proofs.Rivals.{least_of_all, most-le, multiple-le}

module _ (sheet : Sheet) (is : IsSheet sheet) (hose plan : List (ℕ × ℕ)) (column : Column) (priced : IsPricedBy (IsPrice column.base column.per) sheet.network column.top)
    (first : IsFirstPlan column.top hose plan) (bounds : Bounds) (are : AreBounds sheet hose bounds) where
  -- the bound from below
  pub low_bound : IsNetwork sheet.hops → bounds.hops * max 1 column.base ≤ plan_cost column.top plan
  low_bound hops =
      let rule = IsPrice column.base column.per in
      let least = least_of_all sheet.hops column.top hops (alike rule costs_one sheet.network column.top sheet.hops priced is.hops) hose are.few plan are.is_few first in
      let each = costs_both costs_one rule (λ c d. c * max 1 column.base ≤ d)
      (λ far c d one price. let most = max-le price.some price.least in let scaled = ap (λ (n : ℕ). n * max 1 column.base) one in omega (arith, most, scaled)) (omega arith)
      sheet.network sheet.hops column.top is.hops priced in
      let most = multiple-le (max 1 column.base) (cost_of sheet.hops) (cost_of column.top) each plan in
      let less = mul-le-mul least (le_refl (max 1 column.base)) in
      let given = ap (λ (n : ℕ). n * max 1 column.base) are.hops in
      omega (arith, less, given, most)

  -- and the one from above
  pub high_bound : IsNetwork column.top → plan_cost column.top plan ≤ column.base * bounds.amounts + column.per * bounds.lengths
  high_bound network =
      let rule = IsPrice column.base column.per in
      let least = least_of_all column.top sheet.lengths network (alike costs_length rule sheet.network sheet.lengths column.top is.lengths priced) hose plan are.short first are.is_short in
      let each = costs_both rule costs_length (λ c d. c ≤ column.base + column.per * d)
      (λ far c d price length. let scaled = ap (λ (n : ℕ). column.per * n) length in omega (arith, price.most, scaled)) (omega arith)
      sheet.network column.top sheet.lengths priced is.lengths in
      let most = most-le column.base column.per (cost_of column.top) (cost_of sheet.lengths) each are.short in
      let amounts = ap (λ (n : ℕ). column.base * n) are.amounts in
      let lengths = ap (λ (n : ℕ). column.per * n) are.lengths in
      omega (arith, least, most, amounts, lengths)

  -- so the numbers are the hose's price
  pub is_price : IsNetwork sheet.hops → IsNetwork column.top → (price : Price) → price.cost ≡ plan_cost column.top plan → price.low ≡ bounds.hops * max 1 column.base
      → price.high ≡ column.base * bounds.amounts + column.per * bounds.lengths → IsPriceOf sheet hose column price
  is_price hops network price cost low high = record {
    plan = plan;
    is_plan = first;
    cost = cost;
    cheapest = canonical_cheapest column.top network (all_links column.top) hose plan first;
    bounds = bounds;
    are_bounds = are;
    low = low;
    high = high;
    above = omega (arith, low, cost, low_bound hops);
    below = omega (arith, high, cost, high_bound network);
  }
