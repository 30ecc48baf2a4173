-- Rows that workers make.
use Rattle.std.specs.Prelude.{ℕ, Bool, List, Option, IfSome}
use Rattle.hose_graph.specs.Network.{Network}
use Rattle.hose_graph.specs.Row.{Distances}
use Rattle.hose_paths.specs.steps.Rows.{IsRowOf}

-- where a row was made for a root, it is this
abbrev pub IsMadeRow : Network → List Bool → ℕ → Option Distances → Type 0
IsMadeRow network links root made = IfSome made (IsRowOf network links root)
