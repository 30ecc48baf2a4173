-- Items of which no two have one key.
use Rattle.std.proofs.Common.{◌≡◌, ◌≢◌, ◌∙◌, List, [], ◌∷◌, ◌++◌, length, get_or, sym, ap, subst, arith, length-append}
use Rattle.std.specs.List.{All, AllPairs, Any}
use Rattle.std.proofs.Math.ListN.{get_or-append}
use Rattle.std.proofs.Math.Seq.{get_or-append_seam}
use Rattle.std.proofs.lemmas.List.{get_or_default}
use Rattle.std.proofs.lemmas.List.Quantifiers.{all_pairs_push}

module _ {A K : Type 0} (key : A → K) where
  -- one item more, with a key that none has
  pub own_key_more : (items : List A) (item : A) → AllPairs (λ one other. key one ≢ key other) items → ¬ Any (λ earlier. key earlier ≡ key item) items → AllPairs (λ one other. key one ≢ key other) (items ++ item ∷ [])
  own_key_more items item own new =
      all_pairs_push (λ one other. key one ≢ key other) items item own
      (λ k d below same. new (k, get_or items k d, below, get_or_default items k (get_or items k d) d below, same))

  -- none before the last item has its key
  pub own_key_new : (items : List A) (item : A) → AllPairs (λ one other. key one ≢ key other) (items ++ item ∷ []) → ¬ Any (λ earlier. key earlier ≡ key item) items
  own_key_new items item own (k, x, below, at, same) =
      let here : get_or (items ++ item ∷ []) k x ≡ x = get_or-append items (item ∷ []) x k below ∙ at in
      let there : get_or (items ++ item ∷ []) (length items) x ≡ item = get_or-append_seam items item [] x in
      own k (length items) x below (omega (arith, length-append items (item ∷ []))) (ap key here ∙ same ∙ sym (ap key there))

  pub own_key_front : (xs ys : List A) → AllPairs (λ one other. key one ≢ key other) (xs ++ ys) → AllPairs (λ one other. key one ≢ key other) xs
  own_key_front xs ys own i j d order below same =
      own i j d order (omega (arith, below, length-append xs ys)) (ap key (get_or-append xs ys d i (omega arith)) ∙ same ∙ sym (ap key (get_or-append xs ys d j below)))

-- what holds of all holds of the last
pub All-last : {X : Type 0} (P : X → Type 0) (xs : List X) (x : X) → All P (xs ++ x ∷ []) → P x
All-last P xs x all = subst P (get_or-append_seam xs x [] x) (all (length xs) x (omega (arith, length-append xs (x ∷ []))))
