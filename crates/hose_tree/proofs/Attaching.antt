-- How a node is attached: it is on the tree, or it is the root, or a step leads to it from the other node of its tight link.
use Rattle.std.proofs.Common.{◌≡◌, ◌⊎◌, ◌∙◌, ℕ, ◌+◌, ◌<◌, Bool, true, false, List, [], ◌∷◌, ◌++◌, Option, None, Some, length, set, reverse, Contains, IsSome, refl, sym, ap, subst, inl, inr, arith, get_or-set_other, get_or-set_same}
use Rattle.std.proofs.lemmas.Bool.{cases_eq, cases_lt, false≢true}
use Rattle.std.proofs.lemmas.List.{get_or_past, reverse-append}
use Rattle.std.proofs.lemmas.List.Elements.{All-cons}
use Rattle.std.proofs.lemmas.Option.{slice_get_within}
use Rattle.hose_graph.specs.declared.topology.Step.{Step}
use Rattle.hose_graph.specs.Network.{Network, IsNetwork}
use Rattle.hose_graph.specs.Row.{Distances, distance_of, tight_link_of}
use Rattle.hose_law.specs.Walk.{cost_of, Joins, IsIn, IsDistance}
use Rattle.hose_law.specs.Row.{IsTightLink, IsRow}
use Rattle.hose_law.specs.Tree.{IsOn, step_links, new_nodes}
use Rattle.hose_law.proofs.Walks.{joins_turned}
use Rattle.hose_law.proofs.Joined.{joined}
use Rattle.hose_law.proofs.Distances.{distance_unique}
use Rattle.hose_law.proofs.Rows.{tight_nearer, tight_not_root, row_leads_nearer, row_tight_link}
use Rattle.hose_law.proofs.TightWays.{other_unique, other_nearer, tight_way, on_after}
use Rattle.hose_tree.specs.steps.Attached.{IsTightTree, IsAttached, IsNoFarther, IsOnTightWay}
use Rattle.hose_graph.proofs.Members.{contains_first, contains_rest, first_or_rest}

-- a node that has a distance is a place of the row
pub reached_place : (row : Distances) (v : ℕ) → IsSome (distance_of row v) → v < length row.dist
reached_place row v some = elim (cases_lt v (length row.dist)) [
  | inl below ↦ below
  | inr past ↦ absurd (false≢true (subst IsSome (get_or_past row.dist v None past) some))
]

-- the distance of a node that has one
pub its_distance : (row : Distances) (v : ℕ) → IsSome (distance_of row v) → (d : ℕ) × (distance_of row v ≡ Some d)
its_distance row v some = at (distance_of row v) refl some
  where
    at : (found : Option ℕ) → distance_of row v ≡ found → IsSome found → (d : ℕ) × (distance_of row v ≡ Some d)
    at None there some = absurd (false≢true some)
    at (Some d) there some = (d, there)

-- one more step at the end is the first of them the other way round
pub reverse_push : (steps : List Step) (step : Step) → reverse (steps ++ step ∷ []) ≡ step ∷ reverse steps
reverse_push steps step = reverse-append steps (step ∷ [])

module _ (network : Network) (is : IsNetwork network) (set_of : List Bool) (root : ℕ) (row : Distances) (is_row : IsRow network set_of root row) where
  pub is_node : (v : ℕ) → IsSome (distance_of row v) → v < length network.nodes
  is_node v some = omega (arith, reached_place row v some, is_row.dist_places)

  -- a node with a distance has one
  some_there : (v d : ℕ) → distance_of row v ≡ Some d → IsSome (distance_of row v)
  some_there v d there = subst IsSome (sym there) refl

  -- the tight link of a node is a link of the network
  pub tight_is_link : (v l : ℕ) → IsSome (distance_of row v) → tight_link_of row v ≡ Some l → l < length network.links
  tight_is_link v l some there =
      let leads = row_leads_nearer network is set_of root row is_row v l (is_node v some) there in
      slice_get_within network.links l _ (joined network is l v leads.other leads.joins).there

  pub tight_joins : (v l : ℕ) → IsSome (distance_of row v) → tight_link_of row v ≡ Some l → (other : ℕ) × Joins network l v other
  tight_joins v l some there =
      let leads = row_leads_nearer network is set_of root row is_row v l (is_node v some) there in
      (leads.other, leads.joins)

  -- the other node of a tight link has a distance, which is less
  pub falls : (v l other : ℕ) → IsSome (distance_of row v) → tight_link_of row v ≡ Some l → Joins network l v other
      → (near far : ℕ) × (distance_of row other ≡ Some near) × (distance_of row v ≡ Some far) × (near < far)
  falls v l other some there joins =
      let leads = row_leads_nearer network is set_of root row is_row v l (is_node v some) there in
      let same : leads.other ≡ other = other_unique network is l v leads.other other leads.joins joins in (
        leads.nearer,
        leads.nearer + cost_of network l,
        ap (distance_of row) (sym same) ∙ leads.there,
        leads.here,
        omega (arith, leads.costs),
      )

  -- a step attaches a node from the other node of its tight link
  module _ (v l other : ℕ) (some : IsSome (distance_of row v)) (there : tight_link_of row v ≡ Some l) (joins : Joins network l v other) (old mid : List Step) (before on : List Bool) (was : IsTightTree network set_of root old before) (off : ¬ IsIn before v) (below : v < length on) (by : IsAttached network set_of root other old mid on) where
    abbrev step : Step
    step = record { link = l; old = other; new = v }

    link_is : IsTightLink network set_of root v l
    link_is = row_tight_link network is set_of root row is_row v l (is_node v some) there

    near : IsDistance network set_of root other link_is.tight.nearer
    near = other_nearer network is set_of root v l other link_is.tight joins

    not_yet : ¬ IsOn root mid v
    not_yet (inl same) = tight_not_root network is set_of root v l link_is.tight same
    not_yet (inr new) = elim (by.nodes v new) [
      | inl earlier ↦ off ((was.marks v).1 earlier)
      | inr no_farther ↦ absurd (omega (
        arith,
        no_farther (link_is.tight.nearer + cost_of network l) link_is.tight.nearer link_is.tight.distance near,
        tight_nearer network is set_of root v l link_is.tight,
      ))
    ]

    tree : IsTightTree network set_of root (step ∷ mid) (set on v true)
    tree =
        record {
          grows = (by.is_tree.grows, by.here, not_yet, joins_turned network l v other joins);
          tight = All-cons (λ (s : Step). IsTightLink network set_of root s.new s.link) step mid link_is by.is_tree.tight;
          marks = λ u. elim (cases_eq u v) [
            | inl same ↦ (
              λ in_on. contains_first v u (new_nodes mid) (sym same),
              λ new. subst (IsIn (set on v true)) (sym same) (get_or-set_same on v true false below),
            )
            | inr differ ↦ (
              λ in_on. contains_rest v u (new_nodes mid) ((by.is_tree.marks u).0 (sym (get_or-set_other on v u true false differ) ∙ in_on)),
              λ new. elim (first_or_rest v u (new_nodes mid) new) [
                | inl same ↦ absurd (differ (sym same))
                | inr behind ↦ get_or-set_other on v u true false differ ∙ (by.is_tree.marks u).1 behind
              ],
            )
          ];
        }

    nodes : (u : ℕ) → Contains (new_nodes (step ∷ mid)) u → Contains (new_nodes old) u ⊎ IsNoFarther network set_of root u v
    nodes u new = elim (first_or_rest v u (new_nodes mid) new) [
      | inl same ↦ inr (λ d far is_d is_far. omega (
        arith,
        distance_unique network set_of root v d far (subst (λ (n : ℕ). IsDistance network set_of root n d) (sym same) is_d) is_far,
      ))
      | inr behind ↦ elim (by.nodes u behind) [
        | inl earlier ↦ inl earlier
        | inr no_farther ↦ inr (λ d far is_d is_far. omega (
          arith,
          no_farther d link_is.tight.nearer is_d near,
          distance_unique network set_of root v far (link_is.tight.nearer + cost_of network l) is_far link_is.tight.distance,
        ))
      ]
    ]

    links : (m : ℕ) → Contains (step_links (step ∷ mid)) m → Contains (step_links old) m ⊎ IsOnTightWay network set_of root v m
    links m in_tree = elim (first_or_rest l m (step_links mid) in_tree) [
      | inl same ↦
          let fall = falls v l other some there joins in
          let rest = tight_way network is set_of root row is_row other fall.0 (is_node other (some_there other fall.0 fall.2)) fall.2 in
          inr (l ∷ rest.way, (link_is, (other, joins, rest.is_way)), contains_first l m rest.way same)
      | inr behind ↦ elim (by.links m behind) [
        | inl earlier ↦ inl earlier
        | inr on_way ↦ inr (l ∷ on_way.0, (link_is, (other, joins, on_way.1)), contains_rest l m on_way.0 on_way.2)
      ]
    ]

    pub attached_by_step : IsAttached network set_of root v old (step ∷ mid) (set on v true)
    attached_by_step =
        record {
          is_tree = tree;
          here = inr (contains_first v v (new_nodes mid) refl);
          keeps = λ u earlier. on_after network is set_of root step mid u (by.keeps u earlier);
          nodes = nodes;
          keeps_links = λ m earlier. contains_rest l m (step_links mid) (by.keeps_links m earlier);
          links = links;
        }
