-- What a customer's traffic may be: the hose model with one rate per endpoint, for both directions
-- together.
use Rattle.std.specs.Prelude.{◌≡◌, ℕ, zero, suc, ◌+◌, ◌<◌, ◌≤◌, List, [], map, length, All, slice_index, slice_index_or}
use Rattle.hose_graph.specs.Hose.{Endpoint, node_of, rate_of}

-- the sum of a function over all numbers below n
abbrev pub sum_below : ℕ → (ℕ → ℕ) → ℕ
sum_below zero f = 0
sum_below (suc n) f = sum_below n f + f n

-- the traffic from endpoint i to endpoint j
abbrev pub demand : List (List ℕ) → ℕ → ℕ → ℕ
demand matrix i j = slice_index (slice_index_or matrix i []) j

-- all that endpoint i of n sends
abbrev pub sent_by : ℕ → List (List ℕ) → ℕ → ℕ
sent_by n matrix i = sum_below n (λ j. demand matrix i j)

-- all that endpoint i of n is sent
abbrev pub sent_to : ℕ → List (List ℕ) → ℕ → ℕ
sent_to n matrix i = sum_below n (λ j. demand matrix j i)

-- the node of endpoint i
abbrev pub node_at : List Endpoint → ℕ → ℕ
node_at hose i = slice_index (map node_of hose) i

-- the rate of endpoint i
abbrev pub rate_at : List Endpoint → ℕ → ℕ
rate_at hose i = slice_index (map rate_of hose) i

-- A matrix of whole numbers, a row and a column for each endpoint, is within the rates of a hose.
pub record IsWithinRates (hose : List Endpoint) (matrix : List (List ℕ)) : Type 0 where
  pub rows : length matrix ≡ length hose
  pub columns : All (λ row. length row ≡ length hose) matrix
  pub diagonal : (i : ℕ) → i < length hose → demand matrix i i ≡ 0
  pub within : (i : ℕ) → i < length hose
      → sent_by (length hose) matrix i + sent_to (length hose) matrix i ≤ rate_at hose i
