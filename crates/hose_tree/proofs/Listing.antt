-- The nodes on a side as a list.
use Rattle.std.proofs.Common.{◌↔◌, ℕ, ◌+◌, ◌<◌, Bool, List, [], ◌∷◌, ◌++◌, length, get_or, All, Contains, sym, subst, inl, inr, arith}
use Rattle.std.specs.List.Sorted.{IsStrictlyIncreasing}
use Rattle.std.proofs.lemmas.Bool.{cases_eq, cases_lt}
use Rattle.std.proofs.lemmas.List.{length_push, get_or_append_left, get_or_push}
use Rattle.std.proofs.lemmas.List.Elements.{Contains-push, Contains-append_left, Contains-push_cases, All-push}
use Rattle.hose_graph.specs.Network.{Network, IsNetwork}
use Rattle.hose_law.specs.Walk.{IsIn, IsWalk, Reaches}
use Rattle.hose_law.specs.steps.Plan.{IsReachedSet}
use Rattle.hose_law.specs.Decision.{IsReachedList}
use Rattle.hose_law.proofs.Joined.{joins_nodes}
use Rattle.hose_tree.specs.steps.Nodes.{AreNodesBelow}

-- numbers that rise go on rising by one that is above all of them
rises_push : (xs : List ℕ) (y : ℕ) → IsStrictlyIncreasing xs → All (λ x. x < y) xs → IsStrictlyIncreasing (xs ++ y ∷ [])
rises_push xs y rises below k inside =
    let long = length_push xs y in
    elim (cases_lt (k + 1) (length xs)) [
      | inl within ↦
          let here = get_or_append_left xs (y ∷ []) 0 k (omega arith) in
          let next = get_or_append_left xs (y ∷ []) 0 (k + 1) within in
          let less : get_or xs k 0 < get_or xs (k + 1) 0 = rises k within in
          omega (arith, here, next, less)
      | inr past ↦
          let here = get_or_append_left xs (y ∷ []) 0 k (omega arith) in
          let last = get_or_push xs y 0 (k + 1) (omega arith) in
          let less : get_or xs k 0 < y = below k 0 (omega arith) in
          omega (arith, here, last, less)
    ]

later : (n : ℕ) (nodes : List ℕ) → All (λ v. v < n) nodes → All (λ v. v < n + 1) nodes
later n nodes all k d inside = let less : get_or nodes k d < n = all k d inside in omega arith

not_there : (n : ℕ) (nodes : List ℕ) → All (λ v. v < n) nodes → Contains nodes n → ⊥
not_there n nodes all there = let less : get_or nodes there.0 n < n = all there.0 n there.1 in omega (arith, there.2)

module _ (side : List Bool) (n : ℕ) (nodes : List ℕ) (so_far : AreNodesBelow side n nodes) where
  -- the next node is on the side
  pub node_more : IsIn side n → AreNodesBelow side (n + 1) (nodes ++ n ∷ [])
  node_more on = record {
    ascending = rises_push nodes n so_far.ascending so_far.below;
    below = All-push (λ v. v < n + 1) nodes n (later n nodes so_far.below) (omega arith);
    each = each;
  }
    where
      each : (v : ℕ) → v < n + 1 → Contains (nodes ++ n ∷ []) v ↔ IsIn side v
      each v less = elim (cases_eq v n) [
        | inl same ↦ (λ held. subst (IsIn side) (sym same) on, λ there. subst (Contains (nodes ++ n ∷ [])) (sym same) (Contains-push nodes n))
        | inr apart ↦
            let before : v < n = omega arith in (
              λ held. elim (Contains-push_cases nodes n v held) [ inl kept ↦ (so_far.each v before).0 kept | inr last ↦ absurd (apart (sym last)) ],
              λ there. Contains-append_left nodes (n ∷ []) v ((so_far.each v before).1 there),
            )
      ]

  -- it isn't
  pub no_node_more : (IsIn side n → ⊥) → AreNodesBelow side (n + 1) nodes
  no_node_more off = record { ascending = so_far.ascending; below = later n nodes so_far.below; each = each }
    where
      each : (v : ℕ) → v < n + 1 → Contains nodes v ↔ IsIn side v
      each v less = elim (cases_eq v n) [
        | inl same ↦ (λ held. absurd (not_there n nodes so_far.below (subst (Contains nodes) same held)), λ there. absurd (off (subst (IsIn side) same there)))
        | inr apart ↦ so_far.each v (omega arith)
      ]

-- what a node reaches is a node
pub reached_below : (network : Network) (set : List Bool) (u v : ℕ) → IsNetwork network → u < length network.nodes → Reaches network set u v → v < length network.nodes
reached_below network set u v is_network inside reach = along u reach.0 inside reach.1
  where
    along : (u : ℕ) (walk : List ℕ) → u < length network.nodes → IsWalk network set u v walk → v < length network.nodes
    along u [] inside same = subst (λ n. n < length network.nodes) same inside
    along u (l ∷ walk) inside step = along step.0 walk (joins_nodes network is_network l u step.0 step.2).1 step.3

-- the list of a side is the list of what is reached
pub reached_list : (network : Network) (set : List Bool) (from : ℕ) (side : List Bool) (nodes : List ℕ) → IsNetwork network → from < length network.nodes
    → IsReachedSet network set from side → AreNodesBelow side (length side) nodes → IsReachedList network set from nodes
reached_list network set from side nodes is_network inside is_side are = record {
  ascending = are.ascending;
  reached = λ v. (
    λ held.
        let less : v < length side = let at : get_or nodes held.0 v < length side = are.below held.0 v held.1 in omega (arith, held.2) in
        (is_side.reached v (omega (arith, less, is_side.places))).0 ((are.each v less).0 held),
    λ reach.
        let node = reached_below network set from v is_network inside reach in
        (are.each v (omega (arith, node, is_side.places))).1 ((is_side.reached v node).1 reach),
  );
}
