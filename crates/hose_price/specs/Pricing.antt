-- What a hose costs under each tariff, with the bounds of the cost.
use Rattle.std.specs.Prelude.{◌≡◌, ℕ, ◌+◌, ◌*◌, ◌<◌, ◌≤◌, max, List, length, slice_index_or, sum_by}
use Rattle.hose_graph.specs.Amounts.{ReservedLink, amount_of}
use Rattle.hose_graph.specs.Hose.{Endpoint}
use Rattle.hose_graph.specs.Network.{Network}
use Rattle.hose_law.specs.CanonicalPlan.{IsCanonicalPlan}
use Rattle.hose_law.specs.Cheapest.{IsCheapest}
use Rattle.hose_law.specs.Plan.{plan_cost}
use Rattle.hose_law.specs.Walk.{all_links}
use Rattle.hose_tariff.specs.Fact.{IsPricedBy}
use Rattle.hose_price.specs.declared.bounds.Bounds.{Bounds}
use Rattle.hose_price.specs.declared.priced.Price.{Price}
use Rattle.hose_price.specs.declared.sheet.Column.{Column}
use Rattle.hose_price.specs.Sheet.{Sheet, costs_something}

-- this is the plan of the hose over all links of a network
abbrev pub IsFirstPlan : Network → List Endpoint → List ReservedLink → Type 0
IsFirstPlan network hose plan = IsCanonicalPlan network (all_links network) hose plan

-- there is no plan of the hose, whatever the links cost
abbrev pub HasNoPricedPlan : Network → List Endpoint → Type 0
HasNoPricedPlan network hose =
    (other : Network) (plan : List ReservedLink) → IsPricedBy costs_something network other
    → ¬ IsFirstPlan other hose plan

-- what a plan reserves on all links together
abbrev pub plan_total : List ReservedLink → ℕ
plan_total plan = sum_by amount_of plan

-- What the bounds of each cost are made of: what the plan costs where each link costs 1; and of the
-- plan where each link costs its length, the sum of the amounts and its cost.
pub record AreBounds (sheet : Sheet) (hose : List Endpoint) (bounds : Bounds) : Type 0 where
  pub few : List ReservedLink
  pub is_few : IsFirstPlan sheet.hops hose few
  pub hops : bounds.hops ≡ plan_cost sheet.hops few
  pub short : List ReservedLink
  pub is_short : IsFirstPlan sheet.lengths hose short
  pub amounts : bounds.amounts ≡ plan_total short
  pub lengths : bounds.lengths ≡ plan_cost sheet.lengths short

-- The price of a hose by a column's costs: what its plan costs, which no amounts that carry the
-- hose on any tree undercut, between the bounds.
pub record IsPriceOf (sheet : Sheet) (hose : List Endpoint) (column : Column)
    (price : Price) : Type 0 where
  pub plan : List ReservedLink
  pub is_plan : IsFirstPlan column.top hose plan
  pub cost : price.cost ≡ plan_cost column.top plan
  pub cheapest : IsCheapest column.top (all_links column.top) hose plan
  pub bounds : Bounds
  pub are_bounds : AreBounds sheet hose bounds
  pub low : price.low ≡ bounds.hops * max 1 column.base
  pub high : price.high ≡ column.base * bounds.amounts + column.per * bounds.lengths
  pub above : price.low ≤ price.cost
  pub below : price.cost ≤ price.high

-- the cost that stands at a place
abbrev pub cost_at : List Price → ℕ → ℕ
cost_at prices place =
    (slice_index_or prices place (record { cost = 0; low = 0; high = 0 })).cost

-- the place is the first of those with the least cost
pub record IsFirstLeast (prices : List Price) (place : ℕ) : Type 0 where
  pub there : place < length prices
  pub least : (other : ℕ) → other < length prices → cost_at prices place ≤ cost_at prices other
  pub first : (other : ℕ) → other < place → cost_at prices place < cost_at prices other

-- a price for each tariff, and the place of the best one
pub record PriceLine : Type 0 where
  pub prices : List Price
  pub best : ℕ

-- there is the hose's price for each column
pub record ArePrices (sheet : Sheet) (hose : List Endpoint) (prices : List Price) : Type 0 where
  pub places : length prices ≡ length sheet.columns
  pub each : (k : ℕ) (column : Column) (price : Price) → k < length prices
      → IsPriceOf sheet hose (slice_index_or sheet.columns k column)
      (slice_index_or prices k price)

-- there is the hose's price for each column, and which is the best
pub record IsPriceLine (sheet : Sheet) (hose : List Endpoint) (line : PriceLine) : Type 0 where
  pub prices : ArePrices sheet hose line.prices
  pub best : IsFirstLeast line.prices line.best
