-- The decision beside loads.
use Rattle.std.proofs.Common.{◌≡◌, ◌∙◌, ℕ, ◌≤◌, Bool, true, false, List, [], ◌∷◌, All, Option, None, Some, get_or, length, replicate, refl, sym, subst, inl, inr}
use Rattle.std.specs.Prelude.{◌↔◌, IsSomeAnd, IsTrue, if◌then◌else◌}
use Rattle.std.proofs.lemmas.Bool.{false≢true}
use Rattle.hose_graph.specs.Hose.{IsHose}
use Rattle.hose_graph.specs.Network.{Network, IsNetwork}
use Rattle.hose_graph.specs.declared.limits.TheConstants.{MOST_AMOUNT, MOST_TREE_LINKS}
use Rattle.hose_law.specs.CanonicalPlan.{IsCanonicalPlan, IsRoot}
use Rattle.hose_law.specs.Cheapest.{IsCheapest}
use Rattle.hose_law.specs.Decision.{AreGrounds, Fits, HasFirstFit, IsAllowed, IsPlannedOver, IsRefused, IsReachedList, lowest_end}
use Rattle.hose_law.specs.Plan.{plan_cost}
use Rattle.hose_law.specs.Room.{Room, safe_links}
use Rattle.hose_law.proofs.Bounds.{reserved_few, reserved_links, reserved_most}
use Rattle.hose_law.proofs.CanonicalPlans.{canonical_unique, plan_reserves}
use Rattle.hose_law.proofs.Cheapest.{canonical_cheapest}
use Rattle.hose_law.proofs.PlanWeight.{plan_weight}
use Rattle.hose_plan.specs.declared.decision.Grounds.{Grounds}
use Rattle.hose_plan.specs.steps.Planning.{AreGroundsOf, allowed_links}
use Rattle.hose_plan.specs.steps.Rooting.{IsPlanOver}
use Rattle.hose_tree.specs.steps.Amounts.{AreOnLinks}

-- the lowest endpoint is the first
pub lowest_is_first : (hose : List (ℕ × ℕ)) → (get_or hose 0 (0, 0)).0 ≡ lowest_end hose
lowest_is_first [] = refl
lowest_is_first (end ∷ ends) = refl

module _ (network : Network) (room : Room) (hose : List (ℕ × ℕ)) where
  -- where there is no first plan, none fits
  pub none_fits : ((plan : List (ℕ × ℕ)) → ¬ IsCanonicalPlan network room.links hose plan) → ¬ HasFirstFit network room hose
  none_fits none has = none has.0 has.1.is_plan

  -- where the first plan does not fit, none does, as there is no other
  pub other_fits : IsNetwork network → (plan : List (ℕ × ℕ)) → IsCanonicalPlan network room.links hose plan → (¬ Fits room.free plan) → ¬ HasFirstFit network room hose
  other_fits is plan is_plan no_fit has =
      no_fit (subst (Fits room.free) (canonical_unique network is room.links hose has.0 plan has.1.is_plan is_plan) has.1.fits)

  -- where the first plan does not fit and there is none over the safe links, the hose is refused
  pub refused : (side : List ℕ) → (¬ HasFirstFit network room hose) → ((plan : List (ℕ × ℕ)) → ¬ IsCanonicalPlan network (safe_links room hose) hose plan)
      → IsReachedList network (safe_links room hose) (lowest_end hose) side → IsRefused network room hose side
  refused side no_fit none is_side = record {
    no_plan = λ plan planned. elim planned.1.allowed [
      | inl first ↦ no_fit first.0
      | inr second ↦ none plan (subst (λ set. IsCanonicalPlan network set hose plan) second.1 planned.1.is_plan)
    ];
    is_side = is_side;
  }

-- a plan is on links of the network, few of them, and none of its amounts is above the most
pub reserved_within : (network : Network) → IsNetwork network → (set : List Bool) (hose plan : List (ℕ × ℕ)) → IsHose hose → IsCanonicalPlan network set hose plan
    → AreOnLinks network plan × (length plan ≤ MOST_TREE_LINKS) × All (λ (pair : ℕ × ℕ). pair.1 ≤ MOST_AMOUNT) plan
reserved_within network is set hose plan is_hose is_plan =
    let reserved = plan_reserves network is set hose plan is_hose is_plan in
    (reserved_links network is set hose plan reserved, reserved_few network is set hose plan reserved, reserved_most network is set hose plan is_hose reserved)

-- ---- by the grounds

-- the grounds tell whether there is a first plan that fits
pub rests_on : (network : Network) (room : Room) (hose : List (ℕ × ℕ)) (first : Option (List (ℕ × ℕ))) (fits : Bool) (safe : List Bool) → IsNetwork network → IsPlanOver network room.links hose first
    → (IsTrue fits ↔ IsSomeAnd first (Fits room.free)) → (fits ≡ true → safe ≡ replicate (length network.links) false) → (fits ≡ false → safe ≡ safe_links room hose)
    → AreGrounds network room hose room.links fits safe
rests_on network room hose None true safe is none tells whole some = absurd (tells.0 refl)
rests_on network room hose (Some plan) true safe is is_plan tells whole some = (refl, (plan, record { is_plan = is_plan; fits = tells.0 refl }), whole refl)
rests_on network room hose None false safe is none tells whole some = (refl, none_fits network room hose none, some refl)
rests_on network room hose (Some plan) false safe is is_plan tells whole some =
    (refl, other_fits network room hose is plan is_plan (λ fits. false≢true (tells.1 fits)), some refl)

module _ (network : Network) (room : Room) (hose : List (ℕ × ℕ)) (grounds : Grounds) (are : AreGroundsOf network room hose grounds) where
  -- the links over which the grounds allow a plan are those that are allowed
  allowed : IsAllowed network room hose (allowed_links room grounds)
  allowed = at grounds.first_fits are.rests_on
    where
      at : (fits : Bool) → AreGrounds network room hose grounds.service fits grounds.safe → IsAllowed network room hose (if fits then room.links else grounds.safe)
      at true rests = inl (rests.1, refl)
      at false rests = inr (rests.1, rests.2)

  -- a plan over them is what is decided
  pub planned : (plan : List (ℕ × ℕ)) → IsCanonicalPlan network (allowed_links room grounds) hose plan → IsPlannedOver network room hose (allowed_links room grounds) plan
  planned plan is = record { allowed = allowed; is_plan = is }

  -- where there is none, no first plan fits, and none is over the safe links
  pub none_allowed : ((plan : List (ℕ × ℕ)) → ¬ IsCanonicalPlan network (allowed_links room grounds) hose plan)
      → (¬ HasFirstFit network room hose) × ((plan : List (ℕ × ℕ)) → ¬ IsCanonicalPlan network (safe_links room hose) hose plan) × (grounds.safe ≡ safe_links room hose)
  none_allowed none = at grounds.first_fits are.rests_on none
    where
      at : (fits : Bool) → AreGrounds network room hose grounds.service fits grounds.safe → ((plan : List (ℕ × ℕ)) → ¬ IsCanonicalPlan network (if fits then room.links else grounds.safe) hose plan)
          → (¬ HasFirstFit network room hose) × ((plan : List (ℕ × ℕ)) → ¬ IsCanonicalPlan network (safe_links room hose) hose plan) × (grounds.safe ≡ safe_links room hose)
      at true rests none = absurd (none rests.1.0 rests.1.1.is_plan)
      at false rests none = (rests.1, subst (λ (set : List Bool). (plan : List (ℕ × ℕ)) → ¬ IsCanonicalPlan network set hose plan) rests.2 none, rests.2)

  -- the first plan, where it fits, and the one over the safe links, where it does not, are over the links that are allowed
  pub first_allowed : (found : Option (List (ℕ × ℕ))) → grounds.first_fits ≡ true → grounds.first ≡ found → IsPlanOver network (allowed_links room grounds) hose found
  first_allowed found fits same =
      subst (λ (b : Bool). IsPlanOver network (if b then room.links else grounds.safe) hose found) (sym fits) (subst (IsPlanOver network room.links hose) same are.first)

-- What is planned over a set is a cheapest way to carry the hose over it, and costs what the root weighs.
pub planned_cheapest : (network : Network) → IsNetwork network → (room : Room) (hose : List (ℕ × ℕ)) (set : List Bool) (plan : List (ℕ × ℕ)) (cost : ℕ)
    → IsPlannedOver network room hose set plan → cost ≡ plan_cost network plan → IsCheapest network set hose plan × ((root : ℕ) × IsRoot network set hose root cost)
planned_cheapest network is room hose set plan cost planned costs =
    let weighed = plan_weight network is set hose plan planned.is_plan in
    (canonical_cheapest network is set hose plan planned.is_plan, (weighed.0, subst (IsRoot network set hose weighed.0) (sym (costs ∙ weighed.3)) weighed.2))
