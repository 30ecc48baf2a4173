-- Trees of which each link lies on a tight way to the start: a step's link is the tight one of its new node, and ways up cost the distance.
use Rattle.std.proofs.Common.{◌≡◌, ℕ, ◌+◌, Bool, true, false, List, [], ◌∷◌, cond, eqb, refl, sym, subst, inl, inr, arith}
use Rattle.std.specs.Bool.{⊤}
use Rattle.std.specs.List.{Contains}
use Rattle.std.proofs.lemmas.Bool.{eqb-true, eqb-false}
use Rattle.hose_graph.specs.Network.{Network, IsNetwork}
use Rattle.hose_graph.specs.declared.topology.Step.{Step}
use Rattle.hose_law.specs.CanonicalPlan.{IsTightWay}
use Rattle.hose_law.specs.Row.{IsTight, IsTightLink}
use Rattle.hose_law.specs.Tree.{IsOn, Grow, links_up, step_links, new_nodes}
use Rattle.hose_law.specs.Walk.{cost_of, walk_cost, IsDistance}
use Rattle.hose_law.proofs.Walks.{joins_turned}
use Rattle.hose_law.proofs.Distances.{distance_itself, distance_unique}
use Rattle.hose_law.proofs.Rows.{tight_not_root}
use Rattle.hose_law.proofs.TightWays.{tight_link_unique, other_unique}
use Rattle.hose_law.proofs.Trees.{on_before, joins_only, link_is_new}
use Rattle.hose_graph.proofs.Members.{contains_first, contains_rest, first_or_rest, none_in_empty}

module _ (network : Network) (is : IsNetwork network) (set : List Bool) (root : ℕ) where
  -- a link is the tight one of some node
  abbrev pub IsTightSomewhere : ℕ → Type 0
  IsTightSomewhere l = (v : ℕ) × IsTightLink network set root v l

  -- as are the links of a tight way
  pub on_tight_way : (v : ℕ) (way : List ℕ) → IsTightWay network set root v way → (l : ℕ) → Contains way l → IsTightSomewhere l
  on_tight_way v [] is_way l there = absurd (none_in_empty l there)
  on_tight_way v (m ∷ way) is_way l there = elim (first_or_rest m l way there) [
    | inl same ↦ (v, subst (IsTightLink network set root v) same is_way.0)
    | inr behind ↦ on_tight_way is_way.1.0 way is_way.1.2 l behind
  ]

  -- each step's link is the tight one of its new node
  abbrev pub AreTightSteps : List Step → Type 0
  AreTightSteps [] = ⊤
  AreTightSteps (step ∷ earlier) = IsTightLink network set root step.new step.link × AreTightSteps earlier

  tight_of : (steps : List Step) → AreTightSteps steps → (v : ℕ) → Contains (new_nodes steps) v
      → (l : ℕ) × Contains (step_links steps) l × IsTightLink network set root v l
  tight_of [] tight v there = absurd (none_in_empty v there)
  tight_of (step ∷ earlier) tight v there = elim (first_or_rest step.new v (new_nodes earlier) there) [
    | inl same ↦ (
      step.link,
      contains_first step.link step.link (step_links earlier) refl,
      subst (λ (n : ℕ). IsTightLink network set root n step.link) same tight.0,
    )
    | inr behind ↦
        let found = tight_of earlier tight.1 v behind in
        (found.0, contains_rest step.link found.0 (step_links earlier) found.1, found.2)
  ]

  -- A link that is the tight one of its step's old node would be an earlier step's too.
  pub steps_tight : (steps : List Step) → Grow network root steps → ((l : ℕ) → Contains (step_links steps) l → IsTightSomewhere l) → AreTightSteps steps
  steps_tight [] grows all = tt
  steps_tight (step ∷ earlier) grows all =
      let rest = steps_tight earlier grows.0 (λ l there. all l (contains_rest step.link l (step_links earlier) there)) in
      let some = all step.link (contains_first step.link step.link (step_links earlier) refl) in
      (last rest some.0 some.1, rest)
    where
      not_old : AreTightSteps earlier → IsTightLink network set root step.old step.link → IsOn root earlier step.old → ⊥
      not_old rest tight (inl same) = tight_not_root network is set root step.old step.link tight.tight same
      not_old rest tight (inr led) =
          let found = tight_of earlier rest step.old led in
          let links = tight_link_unique network set root step.old found.0 step.link found.2 tight in
          link_is_new network root step earlier grows (subst (Contains (step_links earlier)) links found.1)

      last : AreTightSteps earlier → (v : ℕ) → IsTightLink network set root v step.link → IsTightLink network set root step.new step.link
      last rest v tight =
          elim (joins_only network step.link step.old step.new v tight.tight.other grows.3 tight.tight.joins) [
            | inl old ↦ absurd (not_old rest (subst (λ (n : ℕ). IsTightLink network set root n step.link) old.0 tight) grows.1)
            | inr new ↦ subst (λ (n : ℕ). IsTightLink network set root n step.link) new.0 tight
          ]

  -- one step more, where the ways up of the nodes before it cost their distances
  one_step_more : (step : Step) (earlier : List Step) → Grow network root (step ∷ earlier) → IsTightLink network set root step.new step.link
      → ((u : ℕ) → IsOn root earlier u → IsDistance network set root u (walk_cost network (links_up earlier u)))
      → (v : ℕ) → IsOn root (step ∷ earlier) v → (leads : Bool) → eqb v step.new ≡ leads
      → IsDistance network set root v (walk_cost network (cond leads (step.link ∷ links_up earlier step.old) (links_up earlier v)))
  one_step_more step earlier grows tight before v on true same =
      let one : IsTight network set root step.new step.link = tight.tight in
      let from_old = before step.old grows.1 in
      let cost = walk_cost network (links_up earlier step.old) in
      let other_is : one.other ≡ step.old =
      other_unique network is step.link step.new one.other step.old one.joins (joins_turned network step.link step.old step.new grows.3) in
      let costs : one.nearer ≡ cost =
      distance_unique network set root step.old one.nearer cost (subst (λ (n : ℕ). IsDistance network set root n one.nearer) other_is one.other_distance) from_old in
      let far : one.nearer + cost_of network step.link ≡ cost_of network step.link + cost = omega (arith, costs) in
      subst (λ (n : ℕ). IsDistance network set root n (cost_of network step.link + cost)) (sym (eqb-true v step.new same))
      (subst (IsDistance network set root step.new) far one.distance)
  one_step_more step earlier grows tight before v on false other =
      elim (on_before root step earlier v on) [
        | inl same ↦ absurd (eqb-false v step.new other same)
        | inr was ↦ before v was
      ]

  -- the way up of a node costs its distance from the root
  pub ways_are_distances : (steps : List Step) → Grow network root steps → AreTightSteps steps → (v : ℕ) → IsOn root steps v
      → IsDistance network set root v (walk_cost network (links_up steps v))
  ways_are_distances [] grows tight v (inl same) = subst (λ (n : ℕ). IsDistance network set root n 0) (sym same) (distance_itself network set root)
  ways_are_distances [] grows tight v (inr led) = absurd (none_in_empty v led)
  ways_are_distances (step ∷ earlier) grows tight v on =
      one_step_more step earlier grows tight.0 (λ u here. ways_are_distances earlier grows.0 tight.1 u here) v on (eqb v step.new) refl

  -- one step more, where the ways up of the nodes before it are their tight ways
  tight_way_more : (step : Step) (earlier : List Step) → Grow network root (step ∷ earlier) → IsTightLink network set root step.new step.link
      → ((u : ℕ) → IsOn root earlier u → IsTightWay network set root u (links_up earlier u))
      → (v : ℕ) → IsOn root (step ∷ earlier) v → (leads : Bool) → eqb v step.new ≡ leads
      → IsTightWay network set root v (cond leads (step.link ∷ links_up earlier step.old) (links_up earlier v))
  tight_way_more step earlier grows tight before v on true same =
      subst (λ (n : ℕ). IsTightWay network set root n (step.link ∷ links_up earlier step.old)) (sym (eqb-true v step.new same))
      (tight, (step.old, joins_turned network step.link step.old step.new grows.3, before step.old grows.1))
  tight_way_more step earlier grows tight before v on false other =
      elim (on_before root step earlier v on) [
        | inl same ↦ absurd (eqb-false v step.new other same)
        | inr was ↦ before v was
      ]

  -- the way up of a node is its tight way
  pub tight_way_up : (steps : List Step) → Grow network root steps → AreTightSteps steps → (v : ℕ) → IsOn root steps v
      → IsTightWay network set root v (links_up steps v)
  tight_way_up [] grows tight v (inl same) = same
  tight_way_up [] grows tight v (inr led) = absurd (none_in_empty v led)
  tight_way_up (step ∷ earlier) grows tight v on =
      tight_way_more step earlier grows tight.0 (λ u here. tight_way_up earlier grows.0 tight.1 u here) v on (eqb v step.new) refl
