-- The matrix that puts the most on a link: the rates of the endpoints on its one side are paired
-- off, in order of endpoints, with those of the endpoints on its other.
use Rattle.std.specs.Prelude.{◌≡◌, ℕ, ◌+◌, ◌-◌, ◌<◌, min, max, nat_lt, Bool, List, length, if◌then◌else◌}
use Rattle.hose_graph.specs.Hose.{Endpoint}
use Rattle.hose_law.specs.Matrix.{sum_below, demand, node_at, rate_at}
use Rattle.hose_law.specs.Route.{one_alone}
use Rattle.hose_law.specs.Tree.{Growth, way_up, goes_along}

-- endpoint i lies on the side of a link that is away from the tree's start
abbrev pub lies_beyond : Growth → List Endpoint → ℕ → ℕ → Bool
lies_beyond tree hose l i = goes_along (way_up tree (node_at hose i)) l

module _ (rate : ℕ → ℕ) (side : ℕ → Bool) where
  -- the sum of the rates of those before i that are on its side
  abbrev pub rate_before : ℕ → ℕ
  rate_before i = sum_below i (λ k. if one_alone (side k) (side i) then 0 else rate k)

  -- What i and j have in common where the rates of each side are laid end to end, in order, and the
  -- sides beside each other; two on one side have nothing.
  abbrev pub common : ℕ → ℕ → ℕ
  common i j =
      if one_alone (side i) (side j) then
      min (rate_before i + rate i) (rate_before j + rate j) - max (rate_before i) (rate_before j)
      else 0

-- The matrix has what two endpoints have in common in the row of the lower-numbered one, and 0
-- everywhere else.
abbrev pub IsPairedOff : Growth → List Endpoint → ℕ → List (List ℕ) → Type 0
IsPairedOff tree hose l matrix =
    (i j : ℕ) → i < length hose → j < length hose
    → demand matrix i j
    ≡ (if nat_lt i j then common (rate_at hose) (lies_beyond tree hose l) i j else 0)
