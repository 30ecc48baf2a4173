-- Doors by their places, and how they are opened.
use Rattle.std.proofs.Common.{◌≡◌, ◌≢◌, ◌∙◌, ℕ, zero, suc, ◌-◌, ◌<◌, List, [], ◌∷◌, ◌++◌, Option, None, Some, length, get_or, map, refl, sym, ap, subst, arith}
use Rattle.std.specs.Prelude.{slice_index_or}
use Rattle.std.specs.Borrow.{Bor}
use Rattle.std.proofs.lemmas.List.{length-map}
use Rattle.hose_doors.specs.Doors.{IsSocketPath}
use Rattle.hose_doors.specs.declared.door.HostDoor.TheVariants as door
use Rattle.hose_graph.specs.Limits.{operator}
use Rattle.hose_graph.specs.Name.{IsName}
use Rattle.hose_net.specs.declared.doors.Address.{Address}
use Rattle.hose_net.specs.declared.doors.Address.TheVariants as address
use Rattle.hose_clerk.specs.declared.doors.DoorRule.{DoorRule}
use Rattle.hose_clerk.specs.declared.doors.DoorRule.TheVariants as rule
use Rattle.hosed_host.specs.HostDoors.{OpensAt, operator_words}

-- a door that is not the operator's, where the operator has one
later : (path : List ℕ) (doors : List (List ℕ)) (place : ℕ) → place ≢ 0 → get_or (path ∷ doors) place [] ≡ get_or doors (place - 1) []
later path doors zero some = absurd (some refl)
later path doors (suc place) some =
    let next : place ≡ suc place - 1 = omega arith in
    ap (λ (n : ℕ). get_or doors n []) next

module _ (operators : Option (List ℕ × ℕ)) (doors : List (List ℕ)) (place : ℕ) (at : Address) (who : DoorRule) where
  abbrev Opens : Type 0
  Opens = OpensAt operators (get_or (operator_words operators ++ doors) place []) at who

  -- the operator's
  pub opens_first : (path : Bor (List ℕ)) (number : ℕ) → operators ≡ Some (path.now, number) → place ≡ 0 → IsSocketPath path.now → IsName operator → at ≡ address.Path path → who ≡ rule.Only operator → Opens
  opens_first path number is first socket named same_at same_who =
      subst (λ (n : ℕ). OpensAt operators (get_or (operator_words operators ++ doors) n []) at who) (sym first)
      (subst (λ (words : List (List ℕ)). OpensAt operators (get_or (words ++ doors) 0 []) at who) (sym (ap operator_words is))
      (subst (λ (there : Address). OpensAt operators (path.now ++ 61 ∷ operator) there who) (sym same_at)
      (record { bound = Some operator; opens = (door.Bound path operator, refl, (socket, named), refl, refl); guards = same_who })))

  pub opens_later : (path : List ℕ × ℕ) (word : List ℕ) → operators ≡ Some path → place ≢ 0 → word ≡ get_or doors (place - 1) [] → OpensAt operators word at who → Opens
  opens_later path word is some same opens =
      subst (λ (words : List (List ℕ)). OpensAt operators (get_or (words ++ doors) place []) at who) (sym (ap operator_words is))
      (subst (λ (one : List ℕ). OpensAt operators one at who) (same ∙ sym (later _ doors place some)) opens)

  pub opens_alone : (word : List ℕ) → operators ≡ None → word ≡ get_or doors place [] → OpensAt operators word at who → Opens
  opens_alone word is same opens =
      subst (λ (words : List (List ℕ)). OpensAt operators (get_or (words ++ doors) place []) at who) (sym (ap operator_words is))
      (subst (λ (one : List ℕ). OpensAt operators one at who) same opens)

-- the first so many doors are opened so
abbrev pub OpensFront : Option (List ℕ × ℕ) → List (List ℕ) → ℕ → List Address → List DoorRule → Type 0
OpensFront operators words count addresses rules = (place : ℕ) → place < count → OpensAt operators (get_or words place []) (slice_index_or addresses place (address.Port 0)) (slice_index_or rules place rule.Any)

-- a place among all doors is one among the words
pub below_later : {A : Type 0} (view : A → List ℕ) (words : List A) (place : ℕ) (operators : Option (List ℕ × ℕ)) (path : List ℕ × ℕ) → operators ≡ Some path → place ≢ 0 → place < length (operator_words operators ++ map view words) → place - 1 < length words
below_later view words place operators path is some below =
    let here : place < length (operator_words (Some path) ++ map view words) = subst (λ (o : Option (List ℕ × ℕ)). place < length (operator_words o ++ map view words)) is below in
    at place some here
  where
    at : (n : ℕ) → n ≢ 0 → n < suc (length (map view words)) → n - 1 < length words
    at zero some below = absurd (some refl)
    at (suc n) some below = omega (arith, below, length-map words view)

pub below_alone : {A : Type 0} (view : A → List ℕ) (words : List A) (place : ℕ) (operators : Option (List ℕ × ℕ)) → operators ≡ None → place < length (operator_words operators ++ map view words) → place < length words
below_alone view words place operators is below =
    let here : place < length (map view words) = subst (λ (o : Option (List ℕ × ℕ)). place < length (operator_words o ++ map view words)) is below in
    omega (arith, here, length-map words view)

-- as many are seen as there are
pub below_seen : {A : Type 0} (view : A → List ℕ) (words : List A) (place : ℕ) → place < length words → place < length (map view words)
below_seen view words place below = omega (arith, below, length-map words view)
