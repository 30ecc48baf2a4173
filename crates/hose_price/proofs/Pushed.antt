-- What holds of each place of two lists, and of one element more of the second.
use Rattle.std.proofs.Common.{◌≡◌, ◌∙◌, ℕ, ◌<◌, List, [], ◌∷◌, ◌++◌, length, get_or, sym, ap, subst, inl, inr, arith}
use Rattle.std.proofs.lemmas.Bool.{cases_lt}
use Rattle.std.proofs.lemmas.List.{get_or_append_left, get_or_default, get_or_push, length_push}

module _ {T X : Type 0} (R : T → X → Type 0) (ts : List T) (xs : List X) where
  pub pushed_beside : (x : X) (i : ℕ) (item : T) → length xs ≡ i → i < length ts → item ≡ get_or ts i item → R item x
      → ((k : ℕ) (y : X) (t : T) → k < length xs → R (get_or ts k t) (get_or xs k y))
      → (k : ℕ) (y : X) (t : T) → k < length (xs ++ x ∷ []) → R (get_or ts k t) (get_or (xs ++ x ∷ []) k y)
  pushed_beside x i item places inside is last each k y t below = elim (cases_lt k (length xs)) [
    | inl before ↦ subst (R (get_or ts k t)) (sym (get_or_append_left xs (x ∷ []) y k before)) (each k y t before)
    | inr past ↦
        let here : length xs ≡ k = omega (arith, past, below, length_push xs x) in
        let at : i ≡ k = sym places ∙ here in
        let read : item ≡ get_or ts k t = is ∙ get_or_default ts i item t inside ∙ ap (λ (n : ℕ). get_or ts n t) at in
        subst (R (get_or ts k t)) (sym (get_or_push xs x y k here)) (subst (λ one. R one x) read last)
  ]
