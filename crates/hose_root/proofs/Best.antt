-- The best of the weights so far: the lowest place of the least, and what stands there.
use Rattle.std.proofs.Common.{◌≡◌, ◌∙◌, ℕ, ◌<◌, ◌≤◌, List, Option, None, Some, length, sym, inl, inr}
use Rattle.std.specs.Option.{MatchOption}
use Rattle.std.proofs.lemmas.Bool.{cases_lt}
use Rattle.std.proofs.lemmas.List.{get_or_past}
use Rattle.std.proofs.lemmas.Option.{none-some}
use Rattle.hose_root.specs.steps.Choice.{weight_at, IsLowestLeast}

-- a place below this has the weight, none of them has a lesser one, and no earlier one has the same
pub record IsBestBelow (weights : List (Option ℕ)) (n place weight : ℕ) : Type 0 where
  pub below : place < n
  pub there : weight_at weights place ≡ Some weight
  pub least : (k w : ℕ) → k < n → weight_at weights k ≡ Some w → weight ≤ w
  pub lowest : (k : ℕ) → k < n → weight_at weights k ≡ Some weight → place ≤ k

-- the best of the places below this, or none where none of them has a weight
abbrev pub BestBelow : List (Option ℕ) → ℕ → Option (ℕ × ℕ) → Type 0
BestBelow weights n best =
    MatchOption best ((k : ℕ) → k < n → weight_at weights k ≡ None) (λ (b : ℕ × ℕ). IsBestBelow weights n b.0 b.1)

-- a weight stands at one of the places
has_place : (weights : List (Option ℕ)) (k w : ℕ) → weight_at weights k ≡ Some w → k < length weights
has_place weights k w there = elim (cases_lt k (length weights)) [
  | inl below ↦ below
  | inr past ↦ absurd (none-some w (sym (get_or_past weights k None past) ∙ there))
]

-- the best of all places is the lowest of the least
pub best_of_all : (weights : List (Option ℕ)) (place weight : ℕ) → IsBestBelow weights (length weights) place weight → IsLowestLeast weights place
best_of_all weights place weight is = record {
  weight = weight;
  there = is.there;
  least = λ k w there. is.least k w (has_place weights k w there) there;
  lowest = λ k there. is.lowest k (has_place weights k weight there) there;
}
