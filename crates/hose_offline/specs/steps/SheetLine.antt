-- A line of a sheet of hoses that are to be priced, and what is answered to it: steps of proofs.
use Rattle.std.specs.Prelude.{◌≡◌, ℕ, List, ⊤}
use Rattle.hose_graph.specs.Hose.{Endpoint}
use Rattle.hose_price.specs.Pricing.{HasNoPricedPlan, IsPriceLine}
use Rattle.hose_price.specs.Sheet.{Sheet}
use Rattle.hose_offline.specs.declared.sheet_answer.SheetAnswer.{SheetAnswer}
use Rattle.hose_offline.specs.declared.sheet_answer.SheetAnswer.TheVariants.{Priced, NoPlan, Bad, Long, Memory}

-- ---- what a line asks

module _ (sheet : Sheet) (customer : List ℕ) (hose : List Endpoint) where
  -- what is answered to a customer who asks for this hose
  abbrev pub PricesHose : SheetAnswer → Type 0
  PricesHose (Priced other line) = (other ≡ customer) × IsPriceLine sheet hose line
  PricesHose (NoPlan other) = (other ≡ customer) × HasNoPricedPlan sheet.network hose
  PricesHose (Bad word) = ⊥
  PricesHose Long = ⊥
  PricesHose Memory = ⊤
