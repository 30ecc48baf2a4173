-- The nodes on a side, below a number.
use Rattle.std.specs.Prelude.{ℕ, ◌<◌, ◌↔◌, Bool, List, All, Contains}
use Rattle.std.specs.List.Sorted.{IsStrictlyIncreasing}
use Rattle.hose_law.specs.Walk.{IsIn}

-- the list has these nodes, ascending
pub record AreNodesBelow (side : List Bool) (n : ℕ) (nodes : List ℕ) : Type 0 where
  pub ascending : IsStrictlyIncreasing nodes
  pub below : All (λ v. v < n) nodes
  pub each : (v : ℕ) → v < n → Contains nodes v ↔ IsIn side v
