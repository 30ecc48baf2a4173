-- Lists in which numbers ascend, no number twice: `IsStrictlyIncreasing` for numbers, and this
-- for pairs.
use Rattle.std.specs.Prelude.{ℕ, List, map}
use Rattle.std.specs.List.Sorted.{IsStrictlyIncreasing}

-- the numbers that pairs begin with: nodes of endpoints, links of amounts
abbrev pub firsts : List (ℕ × ℕ) → List ℕ
firsts pairs = map (λ pair. pair.0) pairs

-- pairs ascend by the numbers that they begin with
abbrev pub IsAscending : List (ℕ × ℕ) → Type 0
IsAscending pairs = IsStrictlyIncreasing (firsts pairs)
