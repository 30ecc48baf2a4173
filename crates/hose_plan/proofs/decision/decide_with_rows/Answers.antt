-- The plan over the links that the grounds allow, or a refusal.
use Rattle.std.proofs.Common.{◌≡◌, ◌∙◌, ℕ, Bool, List, get_or, ap, subst}
use Rattle.hose_law.specs.CanonicalPlan.{IsCanonicalPlan}
use Rattle.hose_law.specs.Decision.{IsReachedList, lowest_end}
use Rattle.hose_law.proofs.CanonicalPlans.{planned_sound}
use Rattle.hose_plan.specs.steps.Planning.{allowed_links, room_beside}
use Rattle.hose_plan.proofs.Deciding.{lowest_is_first, none_allowed, planned, planned_cheapest, refused, reserved_within}
use Rattle.hose_plan.proofs.EqualGrounds.{places_of}
use Rattle.hose_plan.proofs.decision.decide_with_rows.Goals as goal

pub allowed_plan-requires-clause-places : goal.allowed_plan-requires-clause-places
allowed_plan-requires-clause-places g c =
    let network = c.args.top.now in
    let grounds = c.in_ok-grounds.grounds in
    places_of network (room_beside network c.args.service.now c.args.loads.now) c.args.hose.now c.requires.service grounds.service grounds.first_fits grounds.safe c.in_ok-grounds.ensures.rests_on

pub reached-requires-clause-places : goal.reached-requires-clause-places
reached-requires-clause-places g c =
    let network = c.args.top.now in
    let grounds = c.in_ok-grounds.grounds in
    places_of network (room_beside network c.args.service.now c.args.loads.now) c.args.hose.now c.requires.service grounds.service grounds.first_fits grounds.safe c.in_ok-grounds.ensures.rests_on

pub cost-requires-clause-links : goal.cost-requires-clause-links
cost-requires-clause-links g c =
    let room = room_beside c.args.top.now c.args.service.now c.args.loads.now in
    (reserved_within c.args.top.now c.first_plan.ensures.network _ c.args.hose.now c.in-Some.amounts c.first_plan.ensures.hose (rw c.in-Some.is at (c.in_ok-amounts.ensures room c.in_ok-grounds.ensures))).0

pub cost-requires-clause-few : goal.cost-requires-clause-few
cost-requires-clause-few g c =
    let room = room_beside c.args.top.now c.args.service.now c.args.loads.now in
    (reserved_within c.args.top.now c.first_plan.ensures.network _ c.args.hose.now c.in-Some.amounts c.first_plan.ensures.hose (rw c.in-Some.is at (c.in_ok-amounts.ensures room c.in_ok-grounds.ensures))).1

pub cost-requires-clause-amounts : goal.cost-requires-clause-amounts
cost-requires-clause-amounts g c =
    let room = room_beside c.args.top.now c.args.service.now c.args.loads.now in
    (reserved_within c.args.top.now c.first_plan.ensures.network _ c.args.hose.now c.in-Some.amounts c.first_plan.ensures.hose (rw c.in-Some.is at (c.in_ok-amounts.ensures room c.in_ok-grounds.ensures))).2

pub returns-in_default-clause-decision : goal.returns-in_default-clause-decision
returns-in_default-clause-decision g c =
    let network = c.args.top.now in
    let room = room_beside network c.args.service.now c.args.loads.now in
    let hose = c.args.hose.now in
    let grounds = c.in_ok-grounds.grounds in
    let none : (plan : List (ℕ × ℕ)) → ¬ IsCanonicalPlan network (allowed_links room grounds) hose plan = rw c.in_default.is at (c.in_ok-amounts.ensures room c.in_ok-grounds.ensures) in
    let are = none_allowed network room hose grounds c.in_ok-grounds.ensures none in
    let from : (get_or c.ends.result.now 0 (0, 0)).0 ≡ lowest_end hose =
    ap (λ (ends : List (ℕ × ℕ)). (get_or ends 0 (0, 0)).0) c.ends.ensures.value ∙ lowest_is_first hose in
    refused network room hose c.in_ok-side.side are.0 are.1
    (subst (λ (set : List Bool). IsReachedList network set (lowest_end hose) c.in_ok-side.side) are.2
    (subst (λ (v : ℕ). IsReachedList network grounds.safe v c.in_ok-side.side) from c.in_ok-side.ensures.list))

pub returns-clause-decision : goal.returns-clause-decision
returns-clause-decision g c =
    let network = c.args.top.now in
    let room = room_beside network c.args.service.now c.args.loads.now in
    let hose = c.args.hose.now in
    let grounds = c.in_ok-grounds.grounds in
    let over : IsCanonicalPlan network (allowed_links room grounds) hose c.in-Some.amounts = rw c.in-Some.is at (c.in_ok-amounts.ensures room c.in_ok-grounds.ensures) in
    (planned network room hose grounds c.in_ok-grounds.ensures c.in-Some.amounts over, c.cost.ensures, c.in_ok-grounds.ensures)

pub returns-clause-sound : goal.returns-clause-sound
returns-clause-sound g c =
    let network = c.args.top.now in
    let room = room_beside network c.args.service.now c.args.loads.now in
    planned_sound network c.first_plan.ensures.network room c.args.hose.now (allowed_links room c.in_ok-grounds.grounds) c.in-Some.amounts c.first_plan.ensures.hose (returns-clause-decision g c).0

pub returns-clause-cheapest : goal.returns-clause-cheapest
returns-clause-cheapest g c =
    let network = c.args.top.now in
    let room = room_beside network c.args.service.now c.args.loads.now in
    let is = returns-clause-decision g c in
    planned_cheapest network c.first_plan.ensures.network room c.args.hose.now (allowed_links room c.in_ok-grounds.grounds) c.in-Some.amounts c.cost.result is.0 is.1
