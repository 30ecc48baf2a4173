-- What canonical plans are good for: there is one alone, it reserves what the hose needs, and over the safe links it fits.
use Rattle.std.proofs.Common.{◌≡◌, ◌∙◌, ℕ, ◌-◌, ◌≤◌, Bool, true, false, List, cond, min, refl, sym, ap, subst, inl, inr, arith}
use Rattle.std.specs.List.{Contains}
use Rattle.std.specs.Prelude.{slice_index}
use Rattle.std.proofs.lemmas.List.Elements.{All-contains, All-contains_itself, All-weaker}
use Rattle.hose_graph.specs.Hose.{IsHose, total_rate}
use Rattle.hose_graph.specs.Network.{Network, IsNetwork}
use Rattle.hose_law.specs.Book.{Book}
use Rattle.hose_law.specs.CanonicalPlan.{IsWeight, IsRoot, IsCanonicalTree, IsCanonicalPlan}
use Rattle.hose_law.specs.Decision.{Fits, CanBeReserved, IsAllowed, IsPlanned, IsPlannedOver, IsRefused, AreGrounds, lowest_end, IsReachedList, HaveEqualGrounds}
use Rattle.hose_law.specs.steps.Decision.{HaveEqualDecisions}
use Rattle.hose_law.specs.Room.{Room, room_of, safe_links}
use Rattle.hose_law.specs.Tree.{Growth, IsReservation, IsTreeReservation, links_of, way_up, goes_along, rate_beyond, smaller_side}
use Rattle.hose_law.specs.Walk.{IsIn}
use Rattle.hose_law.proofs.Apart.{alike_sums}
use Rattle.hose_law.proofs.CanonicalTrees.{end_way, half_at_most, some_beyond}
use Rattle.hose_graph.proofs.Ordered.{pairs_unique}
use Rattle.hose_law.proofs.Reservations.{smaller_is}
use Rattle.hose_law.proofs.Rooms.{safe_link}
use Rattle.hose_law.proofs.TightWays.{tight_way_unique}
use Rattle.hose_law.proofs.Trees.{rate_beyond-le}

-- a hose has one root over a set of links
root_unique : (network : Network) (set : List Bool) (hose : List (ℕ × ℕ)) (root other weight heavier : ℕ) → IsRoot network set hose root weight → IsRoot network set hose other heavier
    → root ≡ other
root_unique network set hose root other weight heavier one two =
    let weights : weight ≡ heavier = omega (arith, one.least other heavier two.is_node two.is_weight, two.least root weight one.is_node one.is_weight) in
    let there = one.lowest other two.is_node (subst (IsWeight network set other hose) (sym weights) two.is_weight) in
    let back = two.lowest root one.is_node (subst (IsWeight network set root hose) weights one.is_weight) in
    omega (arith, there, back)

module _ (network : Network) (is : IsNetwork network) (set : List Bool) (hose : List (ℕ × ℕ)) (root : ℕ) (tree other : Growth)
    (one : IsCanonicalTree network set hose root tree) (two : IsCanonicalTree network set hose root other) where
  -- two trees of one root have the same ways up, so the same rates beyond a link
  same_beyond : (l : ℕ) → rate_beyond tree hose l ≡ rate_beyond other hose l
  same_beyond l =
      alike_sums (λ (end : ℕ × ℕ). cond (goes_along (way_up tree end.0) l) end.1 0) (λ (end : ℕ × ℕ). cond (goes_along (way_up other end.0) l) end.1 0) hose
      (λ end there.
      let ways : way_up tree end.0 ≡ way_up other end.0 =
      tight_way_unique network is set root end.0 (way_up tree end.0) (way_up other end.0) (end_way network is set hose root tree one end there) (end_way network is set hose root other two end there) in
      ap (λ (way : List ℕ). cond (goes_along way l) end.1 0) ways)

  -- and the same pairs reserved
  same_reserved : (pairs others : List (ℕ × ℕ)) → IsReservation tree hose pairs → IsReservation other hose others → (l amount : ℕ) → Contains pairs (l, amount) → Contains others (l, amount)
  same_reserved pairs others mine theirs l amount there =
      let reserved = (mine.each l amount).0 there in
      let sides : smaller_side tree hose l ≡ smaller_side other hose l = ap (λ (beyond : ℕ). min beyond (total_rate hose - beyond)) (same_beyond l) in
      (theirs.each l amount).1 ((two.union l).1 ((one.union l).0 reserved.0), reserved.1 ∙ sides)

-- A hose has one canonical plan over a set of links.
pub canonical_unique : (network : Network) → IsNetwork network → (set : List Bool) (hose one other : List (ℕ × ℕ)) → IsCanonicalPlan network set hose one → IsCanonicalPlan network set hose other
    → one ≡ other
canonical_unique network is set hose one other is_one is_other =
    let roots = root_unique network set hose is_one.root is_other.root is_one.weight is_other.weight is_one.is_root is_other.is_root in
    let here : IsCanonicalTree network set hose is_one.root is_other.tree =
    subst (λ (root : ℕ). IsCanonicalTree network set hose root is_other.tree) (sym roots) is_other.is_canonical in
    pairs_unique one other is_one.reserves.ascending is_other.reserves.ascending
    (λ l amount. (
      same_reserved network is set hose is_one.root is_one.tree is_other.tree is_one.is_canonical here one other is_one.reserves is_other.reserves l amount,
      same_reserved network is set hose is_one.root is_other.tree is_one.tree here is_one.is_canonical other one is_other.reserves is_one.reserves l amount,
    ))

-- each link of a canonical plan needs a part of the rates
canonical_some : (network : Network) → IsNetwork network → (set : List Bool) (hose plan : List (ℕ × ℕ)) → IsHose hose → IsCanonicalPlan network set hose plan
    → (pair : ℕ × ℕ) → Contains plan pair → 1 ≤ pair.1
canonical_some network is set hose plan is_hose canonical pair there =
    let tree = canonical.tree in
    let reserved = (canonical.reserves.each pair.0 pair.1).0 there in
    let half = half_at_most network is set hose canonical.root tree canonical.is_canonical canonical.weight canonical.is_root pair.0 reserved.0 in
    let some = some_beyond network is set hose canonical.root tree canonical.is_canonical is_hose pair.0 reserved.0 in
    omega (arith, reserved.1, smaller_is tree hose pair.0 half, some)

-- A canonical plan is what the hose reserves on its tree.
pub plan_reserves : (network : Network) → IsNetwork network → (set : List Bool) (hose plan : List (ℕ × ℕ)) → IsHose hose → IsCanonicalPlan network set hose plan
    → IsTreeReservation network set hose plan
plan_reserves network is set hose plan is_hose canonical = record {
  tree = canonical.tree;
  is_tree = canonical.is_canonical.is_tree;
  over = canonical.is_canonical.over;
  joins = canonical.is_canonical.joins;
  reserves = canonical.reserves;
  some =
      All-weaker (Contains plan) (λ (pair : ℕ × ℕ). 1 ≤ pair.1) (canonical_some network is set hose plan is_hose canonical) plan (All-contains_itself plan);
}

-- a tree over a set is one over each set that has its links
over_more : (network : Network) (set more : List Bool) (hose plan : List (ℕ × ℕ)) → ((l : ℕ) → IsIn set l → IsIn more l) → IsTreeReservation network set hose plan
    → IsTreeReservation network more hose plan
over_more network set more hose plan within reserved = record {
  tree = reserved.tree;
  is_tree = reserved.is_tree;
  over = All-weaker (IsIn set) (IsIn more) within (links_of reserved.tree) reserved.over;
  joins = reserved.joins;
  reserves = reserved.reserves;
  some = reserved.some;
}

module _ (network : Network) (is : IsNetwork network) (room : Room) (hose : List (ℕ × ℕ)) where
  -- The plan over the safe links fits: no amount is above half of the rates.
  pub safe_plan_fits : (plan : List (ℕ × ℕ)) → IsCanonicalPlan network (safe_links room hose) hose plan → Fits room.free plan
  safe_plan_fits plan canonical =
      All-weaker (Contains plan) (λ (pair : ℕ × ℕ). pair.1 ≤ slice_index room.free pair.0) fits plan (All-contains_itself plan)
    where
      fits : (pair : ℕ × ℕ) → Contains plan pair → pair.1 ≤ slice_index room.free pair.0
      fits pair there =
          let tree = canonical.tree in
          let reserved = (canonical.reserves.each pair.0 pair.1).0 there in
          let safe = All-contains (IsIn (safe_links room hose)) (links_of tree) pair.0 canonical.is_canonical.over reserved.0 in
          omega (arith, reserved.1, rate_beyond-le tree hose pair.0, (safe_link room hose pair.0 safe).1)

  -- What a hose is planned with over the set that is allowed can be reserved.
  pub planned_sound : (set : List Bool) (plan : List (ℕ × ℕ)) → IsHose hose → IsPlannedOver network room hose set plan → CanBeReserved network room hose plan
  planned_sound set plan is_hose planned = elim planned.allowed [
    | inl first ↦
        let over_first : IsCanonicalPlan network room.links hose plan = subst (λ (s : List Bool). IsCanonicalPlan network s hose plan) first.1 planned.is_plan in
        let same : first.0.0 ≡ plan = canonical_unique network is room.links hose first.0.0 plan first.0.1.is_plan over_first in
        record {
          on_tree = plan_reserves network is room.links hose plan is_hose over_first;
          fits = subst (Fits room.free) same first.0.1.fits;
        }
    | inr second ↦
        let over_safe : IsCanonicalPlan network (safe_links room hose) hose plan = subst (λ (s : List Bool). IsCanonicalPlan network s hose plan) second.1 planned.is_plan in
        record {
          on_tree =
              over_more network (safe_links room hose) room.links hose plan (λ l safe. (safe_link room hose l safe).0)
              (plan_reserves network is (safe_links room hose) hose plan is_hose over_safe);
          fits = safe_plan_fits plan over_safe;
        }
  ]

  -- One set is allowed.
  pub allowed_unique : (one other : List Bool) → IsAllowed network room hose one → IsAllowed network room hose other → one ≡ other
  allowed_unique one other (inl first) (inl again) = first.1 ∙ sym again.1
  allowed_unique one other (inl first) (inr safe) = absurd (safe.0 first.0)
  allowed_unique one other (inr safe) (inl first) = absurd (safe.0 first.0)
  allowed_unique one other (inr safe) (inr again) = safe.1 ∙ sym again.1

  -- A hose is planned in one way.
  pub planned_unique : (one other : List (ℕ × ℕ)) → IsPlanned network room hose one → IsPlanned network room hose other → one ≡ other
  planned_unique one other (set, mine) (more, theirs) =
      let over : IsCanonicalPlan network set hose other =
      subst (λ (s : List Bool). IsCanonicalPlan network s hose other) (allowed_unique more set theirs.allowed mine.allowed) theirs.is_plan in
      canonical_unique network is set hose one other mine.is_plan over

module _ (network : Network) (room other : Room) (hose : List (ℕ × ℕ)) (service : List Bool) (fits : Bool) (safe : List Bool) where
  -- Equal grounds allow the same set.
  same_allowed : AreGrounds network room hose service fits safe → AreGrounds network other hose service fits safe → (set : List Bool)
      → IsAllowed network room hose set → IsAllowed network other hose set
  same_allowed here there set allowed = at fits here there allowed
    where
      at : (fits : Bool) → AreGrounds network room hose service fits safe → AreGrounds network other hose service fits safe → IsAllowed network room hose set → IsAllowed network other hose set
      at true here there (inl first) = inl (there.1, first.1 ∙ sym here.0 ∙ there.0)
      at true here there (inr second) = absurd (second.0 here.1)
      at false here there (inl first) = absurd (here.1 first.0)
      at false here there (inr second) = inr (there.1, second.1 ∙ sym here.2 ∙ there.2)

  -- So they give equal plans.
  pub same_planned : AreGrounds network room hose service fits safe → AreGrounds network other hose service fits safe → (set : List Bool) (plan : List (ℕ × ℕ))
      → IsPlannedOver network room hose set plan → IsPlannedOver network other hose set plan
  same_planned here there set plan planned = record { allowed = same_allowed here there set planned.allowed; is_plan = planned.is_plan }

-- Equal grounds give equal refusals.
pub same_refused : (network : Network) (room other : Room) (hose : List (ℕ × ℕ)) (service : List Bool) (fits : Bool) (safe : List Bool)
    → AreGrounds network room hose service fits safe → AreGrounds network other hose service fits safe → (side : List ℕ) → IsRefused network room hose side → IsRefused network other hose side
same_refused network room other hose service true safe here there side refused =
    absurd (refused.no_plan here.1.0 (room.links, record { allowed = inl (here.1, refl); is_plan = here.1.1.is_plan }))
same_refused network room other hose service false safe here there side refused = record {
  no_plan = λ plan planned. refused.no_plan plan (planned.0, same_planned network other room hose service false safe there here planned.0 plan planned.1);
  is_side = subst (λ (set : List Bool). IsReachedList network set (lowest_end hose) side) (sym here.2 ∙ there.2) refused.is_side;
}

-- Equal grounds at two books give equal decisions, since the first plan is made over the same links.
pub same_decisions : (network : Network) (book other : Book) (hose : List (ℕ × ℕ)) → HaveEqualGrounds network book other hose → HaveEqualDecisions network book other hose
same_decisions network book other hose grounds =
    let one = room_of network book in
    let two = room_of network other in
    record {
      plans = λ set plan. (
        same_planned network one two hose grounds.service grounds.fits grounds.safe grounds.here grounds.there set plan,
        same_planned network two one hose grounds.service grounds.fits grounds.safe grounds.there grounds.here set plan,
      );
      refusals = λ side. (
        same_refused network one two hose grounds.service grounds.fits grounds.safe grounds.here grounds.there side,
        same_refused network two one hose grounds.service grounds.fits grounds.safe grounds.there grounds.here side,
      );
    }
