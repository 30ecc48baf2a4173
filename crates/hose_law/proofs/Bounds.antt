-- How much a reservation on a tree can be: its links are the network's and fewer than the nodes, each amount is at most half of the greatest total, and so its
-- cost is bounded.
use Rattle.std.proofs.Common.{◌≡◌, ℕ, ◌<◌, ◌≤◌, Bool, List, [], ◌∷◌, length, reverse, refl, sym, subst, inl, inr, arith}
use Rattle.std.specs.List.{All, Contains, sum_by}
use Rattle.std.proofs.lemmas.Bool.{eqb-true}
use Rattle.std.proofs.lemmas.List.{length-map}
use Rattle.std.proofs.lemmas.List.Elements.{All-contains, All-contains_itself, All-weaker}
use Rattle.std.proofs.lemmas.List.Sums.{sum_by-cons, sum_by-le}
use Rattle.std.proofs.lemmas.Map.Steps.{length-le_from_distinct_below}
use Rattle.std.proofs.lemmas.Map.Views.{Contains-from_any}
use Rattle.std.proofs.lemmas.Option.{slice_get_within}
use Rattle.hose_graph.specs.Ascending.{firsts}
use Rattle.hose_graph.specs.Hose.{IsEnd, IsHose}
use Rattle.hose_graph.specs.Network.{Network, IsNetwork}
use Rattle.hose_graph.specs.Ranges.{AreInRanges, IsAmount}
use Rattle.hose_graph.specs.declared.limits.TheConstants.{MOST_AMOUNT, MOST_RATE, MOST_TREE_LINKS}
use Rattle.hose_graph.specs.declared.topology.Step.{Step}
use Rattle.hose_law.specs.steps.Plan.{AreNodes}
use Rattle.hose_law.specs.Tree.{Grow, IsOn, IsReservation, IsTreeReservation, links_of, step_links, new_nodes}
use Rattle.hose_law.specs.steps.Tree.{growth}
use Rattle.hose_law.specs.Walk.{Joins}
use Rattle.hose_law.proofs.Apart.{apart_links, apart_rising, same_sums}
use Rattle.hose_law.proofs.Joined.{joined}
use Rattle.hose_law.proofs.Reservations.{reserved_in_tree, tree_in_reserved}
use Rattle.hose_law.proofs.TightWays.{in_reverse, from_reverse}
use Rattle.hose_law.proofs.Trees.{distinct_behind, new_nodes_differ, on_is_node, on_reverse, start_is_not_new, rate_beyond-le}
use Rattle.hose_graph.proofs.Members.{contains_first, first_or_rest, none_in_empty}

-- the link of a step joins two nodes
step_joins : (network : Network) (start : ℕ) (steps : List Step) → Grow network start steps → (l : ℕ) → Contains (step_links steps) l → (u : ℕ) × (v : ℕ) × Joins network l u v
step_joins network start [] grows l there = absurd (none_in_empty l there)
step_joins network start (step ∷ earlier) grows l there = elim (first_or_rest step.link l (step_links earlier) there) [
  | inl same ↦ (step.old, step.new, subst (λ (n : ℕ). Joins network n step.old step.new) same grows.3)
  | inr behind ↦ step_joins network start earlier grows.0 l behind
]

-- a tree has fewer links than the network has nodes
few_steps : (network : Network) → IsNetwork network → (start : ℕ) (steps : List Step) → Grow network start steps → length steps < length network.nodes
few_steps network is start steps grows =
    let nodes : List ℕ = start ∷ new_nodes steps in
    let below : (v : ℕ) → Contains nodes v → v < length network.nodes =
    λ v there. on_is_node network is start steps v grows (elim (first_or_rest start v (new_nodes steps) there) [ inl same ↦ inl (sym same) | inr led ↦ inr led ]) in
    let few = length-le_from_distinct_below nodes (length network.nodes)
    (distinct_behind start (new_nodes steps) (start_is_not_new network start steps grows) (new_nodes_differ network start steps grows))
    (λ v any. below v (Contains-from_any eqb-true v nodes any)) in
    omega (arith, few, length-map steps (λ (step : Step). step.new))

-- a sum of ones is the length
ones : (xs : List ℕ) → sum_by (λ x. 1) xs ≡ length xs
ones [] = refl
ones (x ∷ xs) = omega (arith, sum_by-cons (λ y. 1) x xs, ones xs)

-- nothing but the start is on a tree without a step
on_start : (start v : ℕ) → IsOn start [] v → v ≡ start
on_start start v (inl same) = same
on_start start v (inr led) = absurd (none_in_empty v led)

-- a hose does not have all its endpoints at one node
two_nodes : (start : ℕ) (hose : List (ℕ × ℕ)) → IsHose hose → All (λ (end : ℕ × ℕ). IsOn start [] end.0) hose → ⊥
two_nodes start [] is on = omega (arith, is.counted.enough)
two_nodes start (one ∷ []) is on = omega (arith, is.counted.enough)
two_nodes start (one ∷ (other ∷ hose)) is on =
    let rises : one.0 < other.0 = is.ascending 0 (omega arith) in
    omega (arith, rises, on_start start one.0 (on 0 one (omega arith)), on_start start other.0 (on 1 one (omega arith)))

-- so a tree that joins a hose has a link, on which it reserves
some_reserved : (start : ℕ) (steps : List Step) (hose pairs : List (ℕ × ℕ)) → IsHose hose → All (λ (end : ℕ × ℕ). IsOn start steps end.0) hose → IsReservation (growth start steps) hose pairs → 1 ≤ length pairs
some_reserved start steps hose (pair ∷ pairs) is joins reserves = omega arith
some_reserved start [] hose [] is joins reserves = absurd (two_nodes start hose is joins)
some_reserved start (step ∷ steps) hose [] is joins reserves =
    absurd (none_in_empty step.link (tree_in_reserved (growth start (step ∷ steps)) hose [] reserves step.link (contains_first step.link step.link (step_links steps) refl)))

module _ (network : Network) (is : IsNetwork network) (set : List Bool) (hose pairs : List (ℕ × ℕ)) where
  -- a reserved link joins two nodes
  reserved_joins : IsTreeReservation network set hose pairs → (pair : ℕ × ℕ) → Contains pairs pair → (u : ℕ) × (v : ℕ) × Joins network pair.0 u v
  reserved_joins reservation pair there =
      let tree = reservation.tree in
      let in_tree : Contains (links_of tree) pair.0 = ((reservation.reserves.each pair.0 pair.1).0 there).0 in
      step_joins network tree.start (reverse tree.steps) reservation.is_tree pair.0 (in_reverse (λ (step : Step). step.link) tree.steps pair.0 in_tree)

  -- Each reserved link is one of the network's.
  pub reserved_links : IsTreeReservation network set hose pairs → All (λ (pair : ℕ × ℕ). pair.0 < length network.links) pairs
  reserved_links reservation = All-weaker (Contains pairs) (λ (pair : ℕ × ℕ). pair.0 < length network.links) within pairs (All-contains_itself pairs)
    where
      within : (pair : ℕ × ℕ) → Contains pairs pair → pair.0 < length network.links
      within pair there =
          let joins = reserved_joins reservation pair there in
          let by = joined network is pair.0 joins.0 joins.1 joins.2 in
          slice_get_within network.links pair.0 by.link by.there

  -- Each endpoint is one of its nodes.
  pub reserved_nodes : IsTreeReservation network set hose pairs → AreNodes network hose
  reserved_nodes reservation =
      let tree = reservation.tree in
      All-weaker (λ (end : ℕ × ℕ). IsOn tree.start tree.steps end.0) (λ (end : ℕ × ℕ). end.0 < length network.nodes)
      (λ end on. on_is_node network is tree.start (reverse tree.steps) end.0 reservation.is_tree (on_reverse tree.start tree.steps end.0 on)) hose reservation.joins

  -- Fewer links are reserved than a network can have nodes.
  pub reserved_few : IsTreeReservation network set hose pairs → length pairs ≤ MOST_TREE_LINKS
  reserved_few reservation =
      let tree = reservation.tree in
      let steps : List Step = reverse tree.steps in
      let reserves = reservation.reserves in
      let link : Step → ℕ = λ step. step.link in
      let same = same_sums (λ l. 1) (firsts pairs) (step_links steps) (apart_rising (firsts pairs) reserves.ascending) (apart_links network tree.start steps reservation.is_tree)
      (λ l there. in_reverse link tree.steps l (reserved_in_tree tree hose pairs reserves l there))
      (λ l there. tree_in_reserved tree hose pairs reserves l (from_reverse link tree.steps l there)) in
      let few = few_steps network is tree.start steps reservation.is_tree in
      omega (arith, same, ones (firsts pairs), ones (step_links steps), length-map pairs (λ (pair : ℕ × ℕ). pair.0), length-map steps link, few, is.few_nodes)

  -- No amount is above half of what the rates of the greatest hose add up to.
  pub reserved_most : IsHose hose → IsTreeReservation network set hose pairs → All (λ (pair : ℕ × ℕ). pair.1 ≤ MOST_AMOUNT) pairs
  reserved_most is_hose reservation = All-weaker (Contains pairs) (λ (pair : ℕ × ℕ). pair.1 ≤ MOST_AMOUNT) most pairs (All-contains_itself pairs)
    where
      most : (pair : ℕ × ℕ) → Contains pairs pair → pair.1 ≤ MOST_AMOUNT
      most pair there =
          let tree = reservation.tree in
          let reserved = (reservation.reserves.each pair.0 pair.1).0 there in
          let total = sum_by-le (λ (end : ℕ × ℕ). end.1) MOST_RATE hose (All-weaker IsEnd (λ (end : ℕ × ℕ). end.1 ≤ MOST_RATE) (λ end within. within.rate.1) hose is_hose.within) in
          omega (arith, reserved.1, rate_beyond-le tree hose pair.0, total, is_hose.counted.few)

  -- What is reserved is in the ranges of an entry's numbers.
  pub reserved_ranges : IsHose hose → IsTreeReservation network set hose pairs → AreInRanges pairs
  reserved_ranges is_hose reservation = record {
    some = some_reserved reservation.tree.start reservation.tree.steps hose pairs is_hose reservation.joins reservation.reserves;
    few = reserved_few reservation;
    within = All-weaker (Contains pairs) IsAmount within pairs (All-contains_itself pairs);
  }
    where
      within : (pair : ℕ × ℕ) → Contains pairs pair → IsAmount pair
      within pair there =
          let link = All-contains (λ (p : ℕ × ℕ). p.0 < length network.links) pairs pair (reserved_links reservation) there in
          let least = All-contains (λ (p : ℕ × ℕ). 1 ≤ p.1) pairs pair reservation.some there in
          let most = All-contains (λ (p : ℕ × ℕ). p.1 ≤ MOST_AMOUNT) pairs pair (reserved_most is_hose reservation) there in
          record { link = omega (arith, link, is.few_links); amount = (least, most) }
