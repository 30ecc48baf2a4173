-- What a plan that fits reserves on a link is free there.
use Rattle.std.proofs.Common.{◌≡◌, inl, inr, ℕ, zero, suc, ◌+◌, ◌<◌, ◌≤◌, List, [], ◌∷◌, get_or, refl, sym, subst, arith, cond, eqb}
use Rattle.std.specs.List.Sorted.{IsStrictlyIncreasing}
use Rattle.std.proofs.lemmas.Bool.{cases_eq}
use Rattle.std.proofs.lemmas.Bool.Decides.{nat_tests}
use Rattle.std.proofs.lemmas.List.Elements.{All-head, All-tail}
use Rattle.std.proofs.lemmas.List.Sums.{sum_by-cons}
use Rattle.hose_graph.specs.Ascending.{firsts}
use Rattle.hose_law.specs.Book.{amount_on}
use Rattle.hose_law.specs.Decision.{Fits}

-- what rises goes on rising after its first number, and above it
rest_rises : (x : ℕ) (xs : List ℕ) → IsStrictlyIncreasing (x ∷ xs) → IsStrictlyIncreasing xs
rest_rises x xs rises k below =
    let next : suc k + 1 ≡ suc (k + 1) = omega arith in
    subst (λ (n : ℕ). get_or xs k 0 < get_or (x ∷ xs) n 0) next (rises (suc k) (omega arith))

first_rises : (x y : ℕ) (xs : List ℕ) → IsStrictlyIncreasing (x ∷ y ∷ xs) → x < y
first_rises x y xs rises = rises 0 (omega arith)

rises_above : (x y : ℕ) (xs : List ℕ) → x < y → IsStrictlyIncreasing (y ∷ xs) → IsStrictlyIncreasing (x ∷ xs)
rises_above x y [] less rises k below = absurd (omega arith)
rises_above x y (z ∷ xs) less rises zero below = let e : y < z = rises 0 (omega arith) in omega arith
rises_above x y (z ∷ xs) less rises (suc k) below =
    let next : suc k + 1 ≡ suc (k + 1) = omega arith in
    let later = subst (λ (n : ℕ). get_or (z ∷ xs) k 0 < get_or (y ∷ z ∷ xs) n 0) next (rises (suc k) below) in
    subst (λ (n : ℕ). get_or (z ∷ xs) k 0 < get_or (x ∷ z ∷ xs) n 0) (sym next) later

-- a plan has nothing on a link below all of its links
nothing_below : (l : ℕ) (plan : List (ℕ × ℕ)) → IsStrictlyIncreasing (l ∷ firsts plan) → amount_on l plan ≡ 0
nothing_below l [] rises = refl
nothing_below l (pair ∷ plan) rises =
    let above : l < pair.0 = first_rises l pair.0 (firsts plan) rises in
    let rest = nothing_below l plan (rises_above l pair.0 (firsts plan) above (rest_rises l (firsts (pair ∷ plan)) rises)) in
    let first = sum_by-cons (λ (p : ℕ × ℕ). cond (eqb p.0 l) p.1 0) pair plan in
    grind (arith, nat_tests)

-- what a plan that fits reserves on a link is at most what the link has free
pub reserved_fits : (free : List ℕ) (plan : List (ℕ × ℕ)) (l : ℕ) → IsStrictlyIncreasing (firsts plan) → Fits free plan → amount_on l plan ≤ get_or free l 0
reserved_fits free [] l rises fits = omega arith
reserved_fits free (pair ∷ plan) l rises fits =
    let fit : (ℕ × ℕ) → Type 0 = λ p. p.1 ≤ get_or free p.0 0 in
    let first = sum_by-cons (λ (p : ℕ × ℕ). cond (eqb p.0 l) p.1 0) pair plan in
    let here : pair.1 ≤ get_or free pair.0 0 = All-head fit pair plan fits in
    let rest = reserved_fits free plan l (rest_rises pair.0 (firsts plan) rises) (All-tail fit pair plan fits) in
    let none = nothing_below pair.0 plan rises in
    elim (cases_eq pair.0 l) [
      | inl same ↦ let there : amount_on l plan ≡ 0 = subst (λ (n : ℕ). amount_on n plan ≡ 0) same none in
          let fits_here : pair.1 ≤ get_or free l 0 = subst (λ (n : ℕ). pair.1 ≤ get_or free n 0) same here in
          grind (arith, nat_tests)
      | inr other ↦ grind (arith, nat_tests)
    ]
