-- What contracts see of a row: steps of proofs.
use Rattle.std.specs.Prelude.{ℕ, ◌≤◌, Option, IfSome, All}
use Rattle.hose_graph.specs.steps.Limits.{most_distance}
use Rattle.hose_graph.specs.Row.{Distances}

-- a distance, if there is one, is at most the greatest
abbrev pub IsWithinReach : Option ℕ → Type 0
IsWithinReach distance = IfSome distance (λ d. d ≤ most_distance)

-- each distance of a row is at most the greatest
abbrev pub HasBoundedDistances : Distances → Type 0
HasBoundedDistances row = All IsWithinReach row.dist
