-- What is in a list: the first, one of the rest, and what passes a filter.
use Rattle.std.proofs.Common.{◌≡◌, ◌⊎◌, ℕ, zero, suc, ◌<◌, Bool, true, List, [], ◌∷◌, length, get_or, filter, Contains, sym, ap, ◌∙◌, subst, inl, inr, arith}
use Rattle.std.proofs.lemmas.Bool.{cond-true, cond_both}
use Rattle.std.proofs.lemmas.List.Elements.{All-contains, All-contains_itself, All-filter, filter_passes}

pub contains_first : {X : Type 0} (x z : X) (xs : List X) → x ≡ z → Contains (x ∷ xs) z
contains_first x z xs same = (0, omega arith, same)

-- what is in a list is in it with one more before it
pub contains_rest : {X : Type 0} (x z : X) (xs : List X) → Contains xs z → Contains (x ∷ xs) z
contains_rest x z xs there = (suc there.0, omega (arith, there.1), there.2)

pub none_in_empty : {X : Type 0} (z : X) → Contains [] z → ⊥
none_in_empty z there = omega (arith, there.1)

-- an element is the first or one of the rest
pub first_or_rest : {X : Type 0} (x z : X) (xs : List X) → Contains (x ∷ xs) z → (x ≡ z) ⊎ Contains xs z
first_or_rest {X} x z xs there = at there.0 there.1 there.2
  where
    at : (k : ℕ) → k < length (x ∷ xs) → get_or (x ∷ xs) k z ≡ z → (x ≡ z) ⊎ Contains xs z
    at zero below same = inl same
    at (suc k) below same = inr (k, omega arith, same)

-- a filter keeps what passes it
pub contains_filter : {X : Type 0} (test : X → Bool) (xs : List X) (z : X) → Contains xs z → test z ≡ true → Contains (filter test xs) z
contains_filter test [] z there passes = absurd (none_in_empty z there)
contains_filter {X} test (x ∷ xs) z there passes =
    let rest : List X = filter test xs in
    elim (first_or_rest x z xs there) [
      | inl same ↦ let kept = cond-true (test x) (x ∷ rest) rest (ap test same ∙ passes) in
          subst (λ (ys : List X). Contains ys z) (sym kept) (0, omega arith, same)
      | inr later ↦ let kept : Contains rest z = contains_filter test xs z later passes in
          cond_both (test x) (x ∷ rest) rest (λ ys. Contains ys z) (λ _. contains_rest x z rest kept) (λ _. kept)
    ]

-- and nothing else
pub in_filter : {X : Type 0} (test : X → Bool) (xs : List X) (z : X) → Contains (filter test xs) z → Contains xs z × (test z ≡ true)
in_filter test xs z there = (
  All-contains (Contains xs) (filter test xs) z (All-filter test (Contains xs) xs (All-contains_itself xs)) there,
  All-contains (λ y. test y ≡ true) (filter test xs) z (filter_passes test xs) there,
)
