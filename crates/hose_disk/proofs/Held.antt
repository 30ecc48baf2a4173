-- What is held of the other names while a disk is out.
use Rattle.std.proofs.Common.{◌≡◌, ◌≢◌, ℕ, List, [], ◌∷◌, Option, None, Some, Bool, true, false, if◌then◌else◌, refl, sym, ◌∙◌, ap, subst}
use Rattle.std.proofs.lemmas.Slice.Eq.{bytes_eq-Decides}
use Rattle.std.specs.Str.{bytes_eq}
use Rattle.hose_disk.specs.steps.CabinetState.{NamedItem, ShelfState, item_of, without, held_where, shelf_after_taking}

not_true : (b : Bool) → (b ≡ true → ⊥) → b ≡ false
not_true true never = absurd (never refl)
not_true false never = refl

differ : (a b : List ℕ) → a ≢ b → bytes_eq a b ≡ false
differ a b unlike = not_true (bytes_eq a b) (λ same. unlike ((bytes_eq-Decides a b).0 same))

module _ {A : Type 0} (name other : List ℕ) (unlike : other ≢ name) where
  one_item_more : (first : NamedItem A) (others : List (NamedItem A)) → item_of other (without name others) ≡ item_of other others
      → (b : Bool) → bytes_eq first.name name ≡ b → item_of other (without name (first ∷ others)) ≡ item_of other (first ∷ others)
  one_item_more first others same true is =
      let named : first.name ≡ name = (bytes_eq-Decides first.name name).0 is in
      rw is (rw (differ first.name other (λ equal. unlike (sym equal ∙ named))) refl)
  one_item_more first others same false is =
      rw is (ap (λ (found : Option A). if bytes_eq first.name other then Some first.item else found) same)

  -- the item of another name stays
  pub item_stays : (items : List (NamedItem A)) → item_of other (without name items) ≡ item_of other items
  item_stays [] = refl
  item_stays (first ∷ others) = one_item_more first others (item_stays others) (bytes_eq first.name name) refl

-- what is held of another name stays where a disk is taken out
pub held_stays : (name other : List ℕ) (old new : ShelfState) → other ≢ name → old.out ≡ None → new ≡ shelf_after_taking name old
    → held_where new.out other (item_of other new.disks) ≡ held_where old.out other (item_of other old.disks)
held_stays name other old new unlike none is =
    subst (λ (shelf : ShelfState). held_where shelf.out other (item_of other shelf.disks) ≡ held_where old.out other (item_of other old.disks)) (sym is)
    (rw (none, differ name other (λ same. unlike (sym same)), item_stays name other unlike old.disks) refl)
