-- Where the first item of a name stands.
use Rattle.std.proofs.Common.{◌≡◌, ℕ, zero, suc, ◌<◌, List, [], ◌∷◌, length, None, true, false, get_or, refl, ap, subst, arith}
use Rattle.std.specs.Str.{bytes_eq}
use Rattle.hose_disk.specs.steps.CabinetState.{NamedItem, IsPlaceOf, item_of, without}

module _ {A : Type 0} (name : List ℕ) where
  -- none of the first so many items has the name
  abbrev pub NoneBefore : List (NamedItem A) → ℕ → Type 0
  NoneBefore items end = (k : ℕ) → k < end → (other : NamedItem A) → bytes_eq (get_or items k other).name name ≡ false

  later : (first : NamedItem A) (others : List (NamedItem A)) (end : ℕ) → NoneBefore (first ∷ others) (suc end) → NoneBefore others end
  later first others end before k below other = before (suc k) (omega (arith, below)) other

  pub place_is : (items : List (NamedItem A)) (place : ℕ) (found : NamedItem A) → place < length items
      → found ≡ get_or items place found → bytes_eq found.name name ≡ true → NoneBefore items place → IsPlaceOf name items place
  place_is [] place found within there named before = absurd (omega (arith, within))
  place_is (first ∷ others) zero found within there named before =
      let is : bytes_eq first.name name ≡ true = subst (λ (item : NamedItem A). bytes_eq item.name name ≡ true) there named in
      record { found = λ other. rw is refl; left = rw is refl }
  place_is (first ∷ others) (suc place) found within there named before =
      let differs = before zero (omega arith) first in
      let rest = place_is others place found (omega (arith, within)) there named (later first others place before) in
      record { found = λ other. rw differs (rest.found other); left = rw differs (ap (λ (left : List (NamedItem A)). first ∷ left) rest.left) }

  pub none_is : (items : List (NamedItem A)) → NoneBefore items (length items) → item_of name items ≡ None
  none_is [] before = refl
  none_is (first ∷ others) before = rw (before zero (omega arith) first) (none_is others (later first others (length others) before))

  pub none_left : (items : List (NamedItem A)) → NoneBefore items (length items) → without name items ≡ items
  none_left [] before = refl
  none_left (first ∷ others) before =
      rw (before zero (omega arith) first) (ap (λ (left : List (NamedItem A)). first ∷ left) (none_left others (later first others (length others) before)))
