-- Pairs that ascend within bounds, by recursion and as contracts see them.
use Rattle.std.proofs.Common.{◌≡◌, ℕ, zero, suc, ◌+◌, ◌<◌, ◌≤◌, ◌^◌, List, [], ◌∷◌, get_or, subst, arith}
use Rattle.std.specs.Prelude.{⊤}
use Rattle.std.specs.List.{All}
use Rattle.std.specs.List.Sorted.{IsStrictlyIncreasing}
use Rattle.std.proofs.lemmas.List.Elements.{All-nil, All-cons, All-head, All-tail}
use Rattle.hose_graph.specs.Ascending.{IsAscending, firsts}
use Rattle.hose_graph.specs.Limit.{IsUpTo}
use Rattle.hose_codec.specs.steps.Fields.{FitsPair}
use Rattle.hose_codec.specs.steps.Reading.{IsPairFrom, ArePairsFrom}

-- the bounds of a pair, from where it begins on
abbrev pub Bounds : ℕ → ℕ → ℕ × ℕ → Type 0
Bounds bound most pair = (pair.0 < bound) × IsUpTo most pair.1

increasing_tail : (x : ℕ) (xs : List ℕ) → IsStrictlyIncreasing (x ∷ xs) → IsStrictlyIncreasing xs
increasing_tail x xs rises k below =
    let next : suc k + 1 ≡ suc (k + 1) = omega arith in
    subst (λ (j : ℕ). get_or xs k 0 < get_or (x ∷ xs) j 0) next (rises (suc k) (omega arith))

increasing_more : (x y : ℕ) (xs : List ℕ) → x < y → IsStrictlyIncreasing (y ∷ xs) → IsStrictlyIncreasing (x ∷ y ∷ xs)
increasing_more x y xs less rises zero below = less
increasing_more x y xs less rises (suc k) below =
    let next : suc (k + 1) ≡ suc k + 1 = omega arith in
    subst (λ (j : ℕ). get_or (y ∷ xs) k 0 < get_or (x ∷ y ∷ xs) j 0) next (rises k (omega arith))

-- what holds of pairs that ascend within bounds
pub pairs_are : (P : ℕ × ℕ → Type 0) (bound most least : ℕ) (pairs : List (ℕ × ℕ)) →
    ((pair : ℕ × ℕ) → Bounds bound most pair → P pair) → ArePairsFrom bound most least pairs → All P pairs × IsAscending pairs
pairs_are P bound most least [] gives are = (All-nil P, λ k below. absurd (omega arith))
pairs_are P bound most least (p ∷ []) gives are =
    (All-cons P p [] (gives p (are.0.below, are.0.amount)) (All-nil P), λ k below. absurd (omega arith))
pairs_are P bound most least (p ∷ q ∷ pairs) gives are =
    let rest = pairs_are P bound most (p.0 + 1) (q ∷ pairs) gives are.1 in
    let less : p.0 < q.0 = omega (arith, are.1.0.later) in
    (All-cons P p (q ∷ pairs) (gives p (are.0.below, are.0.amount)) rest.0, increasing_more p.0 q.0 (firsts pairs) less rest.1)

-- the first of these pairs is from `least` on
abbrev BeginsFrom : ℕ → List (ℕ × ℕ) → Type 0
BeginsFrom least [] = ⊤
BeginsFrom least (p ∷ pairs) = least ≤ p.0

pairs_from : (P : ℕ × ℕ → Type 0) (bound most least : ℕ) (pairs : List (ℕ × ℕ)) →
    ((pair : ℕ × ℕ) → P pair → Bounds bound most pair) → BeginsFrom least pairs → All P pairs → IsAscending pairs → ArePairsFrom bound most least pairs
pairs_from P bound most least [] gives begins all ascends = tt
pairs_from P bound most least (p ∷ []) gives begins all ascends =
    let here = gives p (All-head P p [] all) in
    (record { later = begins; below = here.0; amount = here.1 }, tt)
pairs_from P bound most least (p ∷ q ∷ pairs) gives begins all ascends =
    let here = gives p (All-head P p (q ∷ pairs) all) in
    let less : p.0 < q.0 = ascends 0 (omega arith) in (
      record { later = begins; below = here.0; amount = here.1 },
      pairs_from P bound most (p.0 + 1) (q ∷ pairs) gives (omega (arith, less)) (All-tail P p (q ∷ pairs) all) (increasing_tail p.0 (firsts (q ∷ pairs)) ascends),
    )

-- pairs within bounds that ascend
pub are_pairs : (P : ℕ × ℕ → Type 0) (bound most : ℕ) (pairs : List (ℕ × ℕ)) →
    ((pair : ℕ × ℕ) → P pair → Bounds bound most pair) → All P pairs → IsAscending pairs → ArePairsFrom bound most 0 pairs
are_pairs P bound most [] gives all ascends = tt
are_pairs P bound most (p ∷ pairs) gives all ascends = pairs_from P bound most 0 (p ∷ pairs) gives (omega arith) all ascends

-- a pair within bounds fits its bytes
pub fits_pair : (bound most least : ℕ) (pair : ℕ × ℕ) → bound ≤ 2 ^ 16 → most < 2 ^ 32 → IsPairFrom bound most least pair → FitsPair pair
fits_pair bound most least pair small few is = record { first = omega (arith, is.below); second = omega (arith, is.amount.1) }
