-- Sums over all numbers below a bound.
use Rattle.std.proofs.Common.{◌≡◌, ℕ, zero, suc, ◌+◌, ◌<◌, ◌≤◌, Bool, true, false, List, [], ◌∷◌, length, get_or, cond, refl, sym, ap, inl, inr, arith}
use Rattle.std.specs.List.{sum_by}
use Rattle.std.proofs.lemmas.Bool.{cases_eq}
use Rattle.std.proofs.lemmas.List.Sums.{sum_by-cons}
use Rattle.hose_law.specs.Matrix.{sum_below}

-- terms that are no greater have no greater sum
pub sums-le : (n : ℕ) (f g : ℕ → ℕ) → ((i : ℕ) → i < n → f i ≤ g i) → sum_below n f ≤ sum_below n g
sums-le zero f g each = omega arith
sums-le (suc n) f g each =
    let here = each n (omega arith) in
    let before = sums-le n f g (λ i below. each i (omega (arith, below))) in
    omega (arith, here, before)

pub same_sums : (n : ℕ) (f g : ℕ → ℕ) → ((i : ℕ) → i < n → f i ≡ g i) → sum_below n f ≡ sum_below n g
same_sums zero f g each = refl
same_sums (suc n) f g each =
    let here = each n (omega arith) in
    let before = same_sums n f g (λ i below. each i (omega (arith, below))) in
    omega (arith, here, before)

pub sum_of_both : (n : ℕ) (f g : ℕ → ℕ) → sum_below n (λ i. f i + g i) ≡ sum_below n f + sum_below n g
sum_of_both zero f g = refl
sum_of_both (suc n) f g = let before = sum_of_both n f g in omega (arith, before)

pub sum_of_none : (n : ℕ) (f : ℕ → ℕ) → ((i : ℕ) → i < n → f i ≡ 0) → sum_below n f ≡ 0
sum_of_none zero f each = refl
sum_of_none (suc n) f each =
    let here = each n (omega arith) in
    let before = sum_of_none n f (λ i below. each i (omega (arith, below))) in
    omega (arith, here, before)

-- rows first or columns first
pub swapped_sums : (n m : ℕ) (f : ℕ → ℕ → ℕ) → sum_below n (λ i. sum_below m (λ j. f i j)) ≡ sum_below m (λ j. sum_below n (λ i. f i j))
swapped_sums zero m f = sym (sum_of_none m (λ j. 0) (λ j below. refl))
swapped_sums (suc n) m f =
    let before = swapped_sums n m f in
    let both = sum_of_both m (λ j. sum_below n (λ i. f i j)) (λ j. f n j) in
    omega (arith, before, both)

-- a test on which the terms do not depend comes before or after the sum
pub sum_where : (n : ℕ) (test : Bool) (f : ℕ → ℕ) → sum_below n (λ i. cond test (f i) 0) ≡ cond test (sum_below n f) 0
sum_where n true f = refl
sum_where n false f = sum_of_none n (λ i. 0) (λ i below. refl)

-- the first term, and those after it
shifted_sum : (n : ℕ) (f : ℕ → ℕ) → sum_below (suc n) f ≡ f 0 + sum_below n (λ i. f (suc i))
shifted_sum zero f = omega arith
shifted_sum (suc n) f = let before = shifted_sum n f in omega (arith, before)

-- the sum over the places of a list is the one over its elements
pub sum_over : {X : Type 0} → (f : X → ℕ) (xs : List X) (d : X) → sum_below (length xs) (λ i. f (get_or xs i d)) ≡ sum_by f xs
sum_over f [] d = refl
sum_over f (x ∷ xs) d =
    let first = shifted_sum (length xs) (λ i. f (get_or (x ∷ xs) i d)) in
    let rest = sum_over f xs d in
    omega (arith, first, rest, sum_by-cons f x xs)

-- a term is at most the sum
pub term-le : (n : ℕ) (f : ℕ → ℕ) (i : ℕ) → i < n → f i ≤ sum_below n f
term-le zero f i below = absurd (omega arith)
term-le (suc n) f i below = elim (cases_eq i n) [
  | inl same ↦ let here = ap f same in omega (arith, here)
  | inr differ ↦ let before = term-le n f i (omega (arith, differ)) in omega (arith, before)
]
