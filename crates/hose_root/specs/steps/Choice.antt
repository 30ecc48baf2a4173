-- Which of some weights is the least, where a place may have none.
use Rattle.std.specs.Prelude.{◌≡◌, ℕ, ◌≤◌, List, Option, None, Some, slice_index_or}

-- what stands at a place: a weight, or none
abbrev pub weight_at : List (Option ℕ) → ℕ → Option ℕ
weight_at weights place = slice_index_or weights place None

-- The place has a weight, no place has a lesser one, and no earlier place has the same.
pub record IsLowestLeast (weights : List (Option ℕ)) (place : ℕ) : Type 0 where
  pub weight : ℕ
  pub there : weight_at weights place ≡ Some weight
  pub least : (other heavier : ℕ) → weight_at weights other ≡ Some heavier → weight ≤ heavier
  pub lowest : (other : ℕ) → weight_at weights other ≡ Some weight → place ≤ other
