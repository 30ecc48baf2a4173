-- What stands at nodes and on links while a hose's rates move down a tree.
use Rattle.std.specs.Prelude.{◌≡◌, ℕ, ◌<◌, List, length, slice_index}
use Rattle.hose_graph.specs.declared.topology.Step.{Step}
use Rattle.hose_graph.specs.Amounts.{ReservedLink}
use Rattle.hose_graph.specs.Hose.{Endpoint}
use Rattle.hose_law.specs.Book.{amount_on}
use Rattle.hose_law.specs.Tree.{Growth, smaller_side}

-- Rates have a place for each node, where the sum of the rates of the endpoints at that node
-- stands.
abbrev pub AreRatesOf : List Endpoint → List ℕ → Type 0
AreRatesOf ends rates = (v : ℕ) → v < length rates → slice_index rates v ≡ amount_on v ends

-- the link of a step, and what a hose reserves on it
abbrev pub reserved_by : Growth → List Endpoint → Step → ReservedLink
reserved_by tree hose step = (step.link, smaller_side tree hose step.link)
