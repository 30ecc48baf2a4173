-- Canonical trees: their ways up are the tight ways, and the rates beyond each link are some of the hose's.
use Rattle.std.proofs.Common.{◌≡◌, ◌∙◌, ℕ, ◌*◌, ◌≤◌, Bool, true, List, [], ◌∷◌, get_or, cond, reverse, refl, ap, subst, inl, inr, arith}
use Rattle.std.specs.List.{Contains}
use Rattle.std.proofs.lemmas.Bool.{cases_eq, eq-eqb, ne_eqb}
use Rattle.std.proofs.lemmas.List.Elements.{All-contains}
use Rattle.std.proofs.lemmas.List.Sums.{get_or-le-sum_by}
use Rattle.hose_graph.specs.Hose.{IsEnd, IsHose, total_rate}
use Rattle.hose_graph.specs.Network.{Network, IsNetwork}
use Rattle.hose_graph.specs.declared.topology.Step.{Step}
use Rattle.hose_law.specs.CanonicalPlan.{IsTightWay, IsRoot, IsCanonicalTree}
use Rattle.hose_law.specs.Tree.{Growth, Grow, IsOn, links_of, way_up, goes_along, rate_beyond, step_links}
use Rattle.hose_law.specs.Walk.{IsIn, IsDistance}
use Rattle.hose_law.proofs.Counting.{way_cost}
use Rattle.hose_law.proofs.Halves.{AllIn, half_beyond}
use Rattle.hose_law.proofs.TightTrees.{IsTightSomewhere, AreTightSteps, on_tight_way, steps_tight, tight_way_up, ways_are_distances}
use Rattle.hose_law.proofs.TightWays.{in_reverse, from_reverse, tight_way_unique}
use Rattle.hose_law.proofs.Trees.{on_reverse}
use Rattle.hose_graph.proofs.Members.{first_or_rest, none_in_empty}

-- a way goes along each link that is in it
along_each : (way : List ℕ) (l : ℕ) → Contains way l → goes_along way l ≡ true
along_each [] l there = absurd (none_in_empty l there)
along_each (m ∷ way) l there = elim (cases_eq m l) [
  | inl same ↦ rw (eq-eqb m l same) refl
  | inr differ ↦ elim (first_or_rest m l way there) [
    | inl same ↦ absurd (differ same)
    | inr behind ↦ rw (ne_eqb m l differ) (along_each way l behind)
  ]
]

module _ (network : Network) (is : IsNetwork network) (set : List Bool) (hose : List (ℕ × ℕ)) (root : ℕ) (tree : Growth)
    (canonical : IsCanonicalTree network set hose root tree) where
  pub grows : Grow network root (reverse tree.steps)
  grows = subst (λ (start : ℕ). Grow network start (reverse tree.steps)) canonical.starts canonical.is_tree

  -- the tree's links are those of its steps, the last one first
  pub in_tree : (l : ℕ) → Contains (step_links (reverse tree.steps)) l → Contains (links_of tree) l
  in_tree l there = from_reverse (λ (step : Step). step.link) tree.steps l there

  pub in_steps : (l : ℕ) → Contains (links_of tree) l → Contains (step_links (reverse tree.steps)) l
  in_steps l there = in_reverse (λ (step : Step). step.link) tree.steps l there

  all_in : AllIn network set (reverse tree.steps)
  all_in l there = All-contains (IsIn set) (links_of tree) l canonical.over (in_tree l there)

  on_steps : (end : ℕ × ℕ) → Contains hose end → IsOn root (reverse tree.steps) end.0
  on_steps end there =
      subst (λ (start : ℕ). IsOn start (reverse tree.steps) end.0) canonical.starts
      (on_reverse tree.start tree.steps end.0 (All-contains (λ (e : ℕ × ℕ). IsOn tree.start tree.steps e.0) hose end canonical.joins there))

  tight_link : (l : ℕ) → Contains (step_links (reverse tree.steps)) l → IsTightSomewhere network is set root l
  tight_link l there =
      let on = (canonical.union l).0 (in_tree l there) in
      on_tight_way network is set root on.end.0 on.way on.is_way l on.on_way

  are_tight : AreTightSteps network is set root (reverse tree.steps)
  are_tight = steps_tight network is set root (reverse tree.steps) grows tight_link

  ways : (v : ℕ) → IsOn root (reverse tree.steps) v → IsDistance network set root v (way_cost network (reverse tree.steps) v)
  ways v on = ways_are_distances network is set root (reverse tree.steps) grows are_tight v on

  -- the way up of an endpoint costs its distance, and is its tight way
  pub end_distance : (end : ℕ × ℕ) → Contains hose end → IsDistance network set root end.0 (way_cost network (reverse tree.steps) end.0)
  end_distance end there = ways end.0 (on_steps end there)

  pub end_way : (end : ℕ × ℕ) → Contains hose end → IsTightWay network set root end.0 (way_up tree end.0)
  end_way end there = tight_way_up network is set root (reverse tree.steps) grows are_tight end.0 (on_steps end there)

  -- half of the rates at most lie beyond a link of the tree of a best root
  pub half_at_most : (weight : ℕ) → IsRoot network set hose root weight → (l : ℕ) → Contains (links_of tree) l → 2 * rate_beyond tree hose l ≤ total_rate hose
  half_at_most weight is_root l there =
      half_beyond network is set root (reverse tree.steps) grows all_in l (in_steps l there) ways hose on_steps weight is_root

  -- some rate lies beyond each link, which is on the way of an endpoint
  pub some_beyond : IsHose hose → (l : ℕ) → Contains (links_of tree) l → 1 ≤ rate_beyond tree hose l
  some_beyond is_hose l there =
      let on = (canonical.union l).0 there in
      let end = on.end in
      let way : on.way ≡ way_up tree end.0 = tight_way_unique network is set root end.0 on.way (way_up tree end.0) on.is_way (end_way end on.is_end) in
      let along : goes_along (way_up tree end.0) l ≡ true = along_each (way_up tree end.0) l (subst (λ (w : List ℕ). Contains w l) way on.on_way) in
      let beyond : ℕ × ℕ → ℕ = λ (e : ℕ × ℕ). cond (goes_along (way_up tree e.0) l) e.1 0 in
      let part = get_or-le-sum_by beyond hose on.is_end.0 end on.is_end.1 in
      let here : beyond (get_or hose on.is_end.0 end) ≡ end.1 = ap beyond on.is_end.2 ∙ ap (λ (test : Bool). cond test end.1 0) along in
      let rate = (All-contains IsEnd hose end is_hose.within on.is_end).rate in
      omega (arith, part, here, rate.0)
