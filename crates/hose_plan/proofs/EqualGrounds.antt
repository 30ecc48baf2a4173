-- Grounds that hold at another room: there the hose has the same plan.
use Rattle.std.proofs.Common.{◌≡◌, ◌∙◌, ℕ, ◌<◌, Bool, true, false, List, Option, None, Some, length, refl, sym, ap, subst, inl, inr, arith}
use Rattle.std.specs.List.{All, Contains}
use mathlib.Core.Bool.{beq}
use Rattle.std.specs.Option.{IfSome}
use Rattle.std.specs.Prelude.{◌↔◌, ◌&&◌, IsSomeAnd, IsTrue, nat_le, slice_index, slice_index_or}
use Rattle.std.proofs.lemmas.Bool.{cases_lt, false≢true}
use Rattle.std.proofs.lemmas.List.{get_or_past, length-replicate}
use Rattle.std.proofs.lemmas.List.Elements.{All-contains, All-contains_itself, All-weaker}
use Rattle.std.proofs.lemmas.List.FromFn.{fill_by_all, get_or-map-range_with_len, length-map-range_with_len}
use Rattle.hose_graph.specs.Network.{Network, IsNetwork}
use Rattle.hose_law.specs.Book.{Book}
use Rattle.hose_law.specs.CanonicalPlan.{IsCanonicalPlan}
use Rattle.hose_law.specs.Decision.{AreGrounds, Fits, HasFirstFit, HaveEqualGrounds}
use Rattle.hose_law.specs.Room.{Room, first_links, free_rates, half_rate, room_of, safe_links}
use Rattle.hose_law.specs.Tree.{links_of}
use Rattle.hose_law.specs.Walk.{IsIn}
use Rattle.hose_law.proofs.CanonicalPlans.{canonical_unique}
use Rattle.hose_tree.specs.steps.Amounts.{AreOnLinks}
use Rattle.hose_plan.specs.declared.decision.Grounds.{Grounds}
use Rattle.hose_plan.specs.steps.Planning.{TellsBooks, TellsRooms, AreGroundsOf, AreMade, HoldBySafe, IsSafeStill, room_beside}
use Rattle.hose_plan.specs.steps.Rooting.{IsPlanOver}
use Rattle.hose_plan.proofs.Deciding.{none_fits}

-- ---- what grounds speak of

-- a link of a set has a place in it
in_below : (set : List Bool) (l : ℕ) → IsIn set l → l < length set
in_below set l is = elim (cases_lt l (length set)) [
  | inl below ↦ below
  | inr past ↦ absurd (false≢true (sym (get_or_past set l false (omega (arith, past))) ∙ is))
]

-- a plan reserves on links of its set
plan_below : (network : Network) (set : List Bool) (hose plan : List (ℕ × ℕ)) → IsCanonicalPlan network set hose plan → All (λ (pair : ℕ × ℕ). pair.0 < length set) plan
plan_below network set hose plan is =
    All-weaker (Contains plan) (λ (pair : ℕ × ℕ). pair.0 < length set)
    (λ pair there. in_below set pair.0 (All-contains (IsIn set) (links_of is.tree) pair.0 is.is_canonical.over ((is.reserves.each pair.0 pair.1).0 there).0)) plan (All-contains_itself plan)

first_below : (network : Network) (set : List Bool) (hose : List (ℕ × ℕ)) (first : Option (List (ℕ × ℕ))) → IsPlanOver network set hose first
    → IfSome first (All (λ (pair : ℕ × ℕ). pair.0 < length set))
first_below network set hose None none = tt
first_below network set hose (Some plan) is = plan_below network set hose plan is

pub first_on_links : (network : Network) (grounds : Grounds) → AreMade network grounds → IfSome grounds.first (AreOnLinks network)
first_on_links network grounds (hose, room, places, are) =
    subst (λ (n : ℕ). IfSome grounds.first (All (λ (pair : ℕ × ℕ). pair.0 < n))) places (first_below network room.links hose grounds.first are.first)

-- the links in service of grounds are those over which the first plan is made
pub service_is : (network : Network) (room : Room) (hose : List (ℕ × ℕ)) (service : List Bool) (fits : Bool) (safe : List Bool) → AreGrounds network room hose service fits safe
    → service ≡ room.links
service_is network room hose service true safe are = are.0
service_is network room hose service false safe are = are.0

pub places_of : (network : Network) (room : Room) (hose : List (ℕ × ℕ)) → length room.links ≡ length network.links → (service : List Bool) (fits : Bool) (safe : List Bool)
    → AreGrounds network room hose service fits safe → length safe ≡ length network.links
places_of network room hose places service true safe are = ap length are.2 ∙ length-replicate (length network.links) false
places_of network room hose places service false safe are = ap length are.2 ∙ length-map-range_with_len _ 0 (length room.links) ∙ places

pub safe_places : (network : Network) (grounds : Grounds) → AreMade network grounds → length grounds.safe ≡ length network.links
safe_places network grounds (hose, room, places, are) = places_of network room hose places grounds.service grounds.first_fits grounds.safe are.rests_on

pub service_places : (network : Network) (grounds : Grounds) → AreMade network grounds → length grounds.service ≡ length network.links
service_places network grounds (hose, room, places, are) =
    ap length (service_is network room hose grounds.service grounds.first_fits grounds.safe are.rests_on) ∙ places

-- ---- grounds at another room

-- a first plan that is known fits just where one does
first_fit : (network : Network) → IsNetwork network → (room : Room) (hose : List (ℕ × ℕ)) (first : Option (List (ℕ × ℕ))) → IsPlanOver network room.links hose first
    → IsSomeAnd first (Fits room.free) ↔ HasFirstFit network room hose
first_fit network is room hose None none = (λ no. absurd no, λ has. none_fits network room hose none has)
first_fit network is room hose (Some plan) is_plan = (
  λ fits. (plan, record { is_plan = is_plan; fits = fits }),
  λ has. subst (Fits room.free) (canonical_unique network is room.links hose has.0 plan has.1.is_plan is_plan) has.1.fits,
)

-- ---- the safe links at another room

module _ (network : Network) (service : List Bool) (loads : List ℕ) (hose : List (ℕ × ℕ)) (long : length service ≡ length network.links) where
  abbrev free : List ℕ
  free = free_rates network loads

  abbrev is_safe : ℕ → Bool
  is_safe l = slice_index_or service l false && nat_le (half_rate hose) (slice_index free l)

  -- a set that has each link just where it is in service and half of the rates is free there is that of the safe links
  pub safe_from : (half : ℕ) (safe : List Bool) → half ≡ half_rate hose → length safe ≡ length network.links
      → ((l : ℕ) → l < length network.links → IsSafeStill network service loads half safe l) → safe ≡ safe_links (room_beside network service loads) hose
  safe_from half safe halves places each =
      fill_by_all is_safe safe (length service) false (places ∙ sym long)
      (λ l below.
      each l (omega (arith, below, long)) ∙ ap (λ (n : ℕ). slice_index_or service l false && nat_le n (slice_index free l)) halves)

  -- and that set has each link so
  pub safe_at : (half : ℕ) (safe : List Bool) → half ≡ half_rate hose → safe ≡ safe_links (room_beside network service loads) hose
      → (l : ℕ) → l < length network.links → IsSafeStill network service loads half safe l
  safe_at half safe halves same l inside =
      ap (λ (set : List Bool). slice_index_or set l false) same
      ∙ get_or-map-range_with_len is_safe 0 (length service) l l false (omega (arith, inside, long)) (omega arith)
      ∙ ap (λ (n : ℕ). slice_index_or service l false && nat_le n (slice_index free l)) (sym halves)

-- ---- grounds beside loads

module _ (network : Network) (is : IsNetwork network) (service : List Bool) (loads : List ℕ) (earlier : Room) (hose : List (ℕ × ℕ)) (grounds : Grounds)
    (same_service : grounds.service ≡ service) (are : AreGroundsOf network earlier hose grounds) where
  abbrev here : Room
  here = room_beside network service loads

  over : earlier.links ≡ service
  over = sym (service_is network earlier hose grounds.service grounds.first_fits grounds.safe are.rests_on) ∙ same_service

  -- the first plan is the same, as it is made over the same links
  first_here : IsPlanOver network here.links hose grounds.first
  first_here = subst (λ (set : List Bool). IsPlanOver network set hose grounds.first) over are.first

  fit_here : IsSomeAnd grounds.first (Fits here.free) ↔ HasFirstFit network here hose
  fit_here = first_fit network is here hose grounds.first first_here

  abbrev Rest : Bool → Type 0
  Rest fits = AreGrounds network here hose grounds.service fits grounds.safe

  rests : (fits : Bool) → fits ≡ grounds.first_fits → Rest fits → AreGroundsOf network here hose grounds
  rests fits same on = record { first = first_here; half = are.half; rests_on = subst Rest same on }

  rested : (fits : Bool) → fits ≡ grounds.first_fits → AreGroundsOf network here hose grounds → Rest fits
  rested fits same still = subst Rest (sym same) still.rests_on

  -- The grounds hold just where the first plan fits as before and, where it does not fit, the safe links are the same.
  pub hold_by_safe : (fits : Bool) → IsTrue fits ↔ IsSomeAnd grounds.first (Fits here.free)
      → HoldBySafe network here hose grounds (beq fits grounds.first_fits) ↔ AreGroundsOf network here hose grounds
  hold_by_safe fits tells = at fits grounds.first_fits refl tells are.rests_on
    where
      at : (fits wanted : Bool) → wanted ≡ grounds.first_fits → IsTrue fits ↔ IsSomeAnd grounds.first (Fits here.free) → AreGrounds network earlier hose grounds.service wanted grounds.safe
          → (IsTrue (beq fits wanted) × (wanted ≡ false → grounds.safe ≡ safe_links here hose)) ↔ AreGroundsOf network here hose grounds
      at true true same tells on = (λ hold. rests true same (same_service, fit_here.0 (tells.0 refl), on.2), λ still. (refl, λ no. absurd (false≢true (sym no))))
      at false false same tells on = (
        λ hold. rests false same (same_service, λ has. false≢true (tells.1 (fit_here.1 has)), hold.1 refl),
        λ still. (refl, λ _. (rested false same still).2),
      )
      at true false same tells on = (λ hold. absurd (false≢true hold.0), λ still. absurd ((rested false same still).1 (fit_here.0 (tells.0 refl))))
      at false true same tells on = (λ hold. absurd (false≢true hold.0), λ still. absurd (false≢true (tells.1 (fit_here.1 (rested true same still).1))))

-- ---- grounds at two books

-- the grounds of a hose at a room are equal in any telling
grounds_unique : (network : Network) (room : Room) (hose : List (ℕ × ℕ)) (service served : List Bool) (fits other : Bool) (safe more : List Bool) → AreGrounds network room hose service fits safe
    → AreGrounds network room hose served other more → (service ≡ served) × (fits ≡ other) × (safe ≡ more)
grounds_unique network room hose service served true true safe more one two = (one.0 ∙ sym two.0, refl, one.2 ∙ sym two.2)
grounds_unique network room hose service served false false safe more one two = (one.0 ∙ sym two.0, refl, one.2 ∙ sym two.2)
grounds_unique network room hose service served true false safe more one two = absurd (two.1 one.1)
grounds_unique network room hose service served false true safe more one two = absurd (one.1 two.1)

-- grounds of a hose at a book are its grounds at another just where the two books give it equal ones
pub equal_grounds : (network : Network) (earlier now : Book) (hose : List (ℕ × ℕ)) (grounds : Grounds) → AreGroundsOf network (room_of network earlier) hose grounds
    → AreGroundsOf network (room_of network now) hose grounds ↔ HaveEqualGrounds network earlier now hose
equal_grounds network earlier now hose grounds are = (
  λ still. record { service = grounds.service; fits = grounds.first_fits; safe = grounds.safe; here = are.rests_on; there = still.rests_on },
  λ equal.
      let one = room_of network earlier in
      let two = room_of network now in
      let same = grounds_unique network one hose equal.service grounds.service equal.fits grounds.first_fits equal.safe grounds.safe equal.here are.rests_on in
      let links : one.links ≡ two.links = sym (service_is network one hose equal.service equal.fits equal.safe equal.here) ∙ service_is network two hose equal.service equal.fits equal.safe equal.there in
      let served = subst (λ (set : List Bool). AreGrounds network two hose set equal.fits equal.safe) same.0 equal.there in
      let fits = subst (λ (b : Bool). AreGrounds network two hose grounds.service b equal.safe) same.1 served in
      record {
        first = subst (λ (set : List Bool). IsPlanOver network set hose grounds.first) links are.first;
        half = are.half;
        rests_on = subst (AreGrounds network two hose grounds.service grounds.first_fits) same.2 fits;
      },
)

-- what tells of each room whether the grounds hold tells it of each book
pub hold_at_books : (network : Network) (service : List Bool) (loads : List ℕ) (grounds : Grounds) (holds : Bool)
    → TellsRooms network service loads grounds holds → TellsBooks network service loads grounds holds
hold_at_books network service loads grounds holds rooms hose earlier now served same are =
    let tells = rooms hose (room_of network earlier) are in
    let equal = equal_grounds network earlier now hose grounds are in
    let Here : Room → Type 0 = λ room. AreGroundsOf network room hose grounds in
    let room : room_beside network service loads ≡ room_of network now =
    ap (λ (set : List Bool). room_beside network set loads) served ∙ ap (room_beside network (first_links network now)) same in (
      λ yes. equal.0 (subst Here room (tells.0 yes)),
      λ both. tells.1 (subst Here (sym room) (equal.1 both)),
    )
