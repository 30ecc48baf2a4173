-- Lists in order: two that have the same elements are one list.
use Rattle.std.proofs.Common.{◌≡◌, ◌↔◌, ◌∙◌, ℕ, suc, ◌<◌, List, [], ◌∷◌, get_or, Contains, refl, sym, ap, subst, inl, inr, arith}
use Rattle.std.specs.List.{AllPairs}
use Rattle.std.proofs.lemmas.List.{get_or-map, length-map}
use Rattle.std.proofs.lemmas.List.Kept.{AllPairs-from_increasing}
use Rattle.hose_graph.specs.Ascending.{IsAscending, firsts}
use Rattle.hose_graph.proofs.Members.{contains_rest, first_or_rest}

module _ {X : Type 0} (key : X → ℕ) where
  -- each number by which the list is in order is below all later ones
  abbrev Rises : List X → Type 0
  Rises xs = AllPairs (λ x y. key x < key y) xs

  -- what rises goes on rising after its first
  rises_after : (x : X) (xs : List X) → Rises (x ∷ xs) → Rises xs
  rises_after x xs rises i j d less below = rises (suc i) (suc j) d (omega arith) (omega arith)

  -- what is after the first is above it
  above_first : (x z : X) (xs : List X) → Rises (x ∷ xs) → Contains xs z → key x < key z
  above_first x z xs rises there =
      subst (λ (y : X). key x < key y) there.2 (rises 0 (suc there.0) z (omega arith) (omega (arith, there.1)))

  -- each first is among the other list's elements, and no two elements are below one another
  same_first : (x y : X) (xs ys : List X) → Rises (x ∷ xs) → Rises (y ∷ ys) → Contains (y ∷ ys) x → Contains (x ∷ xs) y → x ≡ y
  same_first x y xs ys one other in_other in_one =
      elim (first_or_rest y x ys in_other) [
        | inl same ↦ sym same
        | inr after ↦ elim (first_or_rest x y xs in_one) [
          | inl same ↦ same
          | inr under ↦ absurd (omega (arith, above_first y x ys other after, above_first x y xs one under))
        ]
      ]

  -- what is after the first of one list is after the same first of the other
  after_too : (x y z : X) (xs ys : List X) → x ≡ y → Rises (x ∷ xs) → (Contains (x ∷ xs) z → Contains (y ∷ ys) z) → Contains xs z → Contains ys z
  after_too x y z xs ys firsts_same rises to there =
      elim (first_or_rest y z ys (to (contains_rest x z xs there))) [
        | inl same ↦ let keys : key x ≡ key z = ap key (firsts_same ∙ same) in absurd (omega (arith, keys, above_first x z xs rises there))
        | inr after ↦ after
      ]

  -- Two lists that rise and have the same elements are one list.
  pub same_by_elements : (xs ys : List X) → Rises xs → Rises ys → ((z : X) → Contains xs z ↔ Contains ys z) → xs ≡ ys
  same_by_elements [] [] one other same = refl
  same_by_elements [] (y ∷ ys) one other same = let none = (same y).1 (0, omega arith, refl) in absurd (omega (arith, none.1))
  same_by_elements (x ∷ xs) [] one other same = let none = (same x).0 (0, omega arith, refl) in absurd (omega (arith, none.1))
  same_by_elements (x ∷ xs) (y ∷ ys) one other same =
      let head : x ≡ y = same_first x y xs ys one other ((same x).0 (0, omega arith, refl)) ((same y).1 (0, omega arith, refl)) in
      let after : (z : X) → Contains xs z ↔ Contains ys z = λ z. (
        after_too x y z xs ys head one (same z).0,
        after_too y x z ys xs (sym head) other (same z).1,
      ) in
      let tail : xs ≡ ys = same_by_elements xs ys (rises_after x xs one) (rises_after y ys other) after in
      ap (λ (w : X). w ∷ xs) head ∙ ap (λ (ws : List X). y ∷ ws) tail

-- pairs that ascend rise by their firsts
ascending_rises : (pairs : List (ℕ × ℕ)) → IsAscending pairs → AllPairs (λ (p q : ℕ × ℕ). p.0 < q.0) pairs
ascending_rises pairs ascends i j d less below =
    let long = length-map pairs (λ (p : ℕ × ℕ). p.0) in
    let rises : get_or (firsts pairs) i d.0 < get_or (firsts pairs) j d.0 = AllPairs-from_increasing (firsts pairs) ascends i j d.0 less (omega arith) in
    let here : get_or (firsts pairs) i d.0 ≡ (get_or pairs i d).0 = get_or-map (λ (p : ℕ × ℕ). p.0) pairs i d d.0 (omega (arith, less, below)) in
    let there : get_or (firsts pairs) j d.0 ≡ (get_or pairs j d).0 = get_or-map (λ (p : ℕ × ℕ). p.0) pairs j d d.0 below in
    omega (arith, rises, here, there)

-- Two lists of pairs that ascend and contain the same pairs are one list.
pub pairs_unique : (one other : List (ℕ × ℕ)) → IsAscending one → IsAscending other → ((l amount : ℕ) → Contains one (l, amount) ↔ Contains other (l, amount)) → one ≡ other
pairs_unique one other ascends rises same =
    same_by_elements (λ (p : ℕ × ℕ). p.0) one other (ascending_rises one ascends) (ascending_rises other rises) (λ p. same p.0 p.1)
