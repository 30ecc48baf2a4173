-- Sums over the views, where a step changes one of them.
use Rattle.std.proofs.Common.{◌≡◌, ℕ, zero, suc, ◌+◌, ◌≤◌, List, [], ◌∷◌, set, sym, refl, ap, arith}
use Rattle.std.specs.List.{sum_by}
use Rattle.std.proofs.lemmas.List.Sums.{sum_by-cons}
use mathlib.Core.Option.{some, some-injective, some-ne-none}
use lib.ListN.{get_elem?}

module _ {A : Type 0} where
  -- what a sum becomes where one item changes
  pub sum_set : (f : A → ℕ) (items : List A) (at : ℕ) (old new : A) → get_elem? items at ≡ some old → sum_by f (set items at new) + f old ≡ sum_by f items + f new
  sum_set f [] at old new is = absurd (some-ne-none old (sym is))
  sum_set f (x ∷ xs) zero old new is = let same = ap f (some-injective x old is) in omega (arith, sum_by-cons f new xs, sum_by-cons f x xs, same)
  sum_set f (x ∷ xs) (suc at) old new is = omega (arith, sum_set f xs at old new is, sum_by-cons f x (set xs at new), sum_by-cons f x xs)

  pub sum_below : (f g : A → ℕ) (items : List A) → ((at : ℕ) (item : A) → get_elem? items at ≡ some item → f item ≤ g item) → sum_by f items ≤ sum_by g items
  sum_below f g [] below = omega arith
  sum_below f g (x ∷ xs) below = omega (arith, below 0 x refl, sum_below f g xs (λ at. below (suc at)), sum_by-cons f x xs, sum_by-cons g x xs)

  pub sum_none : (f : A → ℕ) (items : List A) → ((at : ℕ) (item : A) → get_elem? items at ≡ some item → f item ≡ 0) → sum_by f items ≡ 0
  sum_none f [] none_of = refl
  sum_none f (x ∷ xs) none_of = omega (arith, none_of 0 x refl, sum_none f xs (λ at. none_of (suc at)), sum_by-cons f x xs)

  pub sum_has : (f : A → ℕ) (items : List A) (at : ℕ) (item : A) → get_elem? items at ≡ some item → f item ≤ sum_by f items
  sum_has f [] at item is = absurd (some-ne-none item (sym is))
  sum_has f (x ∷ xs) zero item is = let same = ap f (some-injective x item is) in omega (arith, sum_by-cons f x xs, same)
  sum_has f (x ∷ xs) (suc at) item is = omega (arith, sum_by-cons f x xs, sum_has f xs at item is)
