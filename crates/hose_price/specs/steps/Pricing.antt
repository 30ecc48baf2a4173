-- What a hose costs under each tariff, with the bounds of the cost: steps of proofs.
use Rattle.std.specs.Prelude.{List, Option, MatchOption}
use Rattle.hose_graph.specs.Hose.{Endpoint}
use Rattle.hose_price.specs.Sheet.{Sheet}
use Rattle.hose_price.specs.Pricing.{HasNoPricedPlan, IsPriceLine, PriceLine}

-- the hose has this line; or there is no plan of it
abbrev pub IsLineOf : Sheet → List Endpoint → Option PriceLine → Type 0
IsLineOf sheet hose found =
    MatchOption found (HasNoPricedPlan sheet.network hose) (IsPriceLine sheet hose)
