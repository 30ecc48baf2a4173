-- What follows from what a row is: distances within the bound, and tight links that lead nearer to the root.
use Rattle.std.proofs.Common.{◌≡◌, ◌≢◌, ◌⊎◌, ◌∙◌, ℕ, ◌+◌, ◌<◌, ◌≤◌, Bool, List, Option, None, Some, length, refl, sym, ap, subst, inl, inr, arith}
use Rattle.std.specs.Option.{IsSomeAnd}
use Rattle.std.proofs.lemmas.Bool.{cases_eq}
use Rattle.std.proofs.lemmas.Option.{MatchOption-at_some, MatchOption-at_none, none-some}
use Rattle.hose_graph.specs.Network.{Network, IsNetwork}
use Rattle.hose_graph.specs.Row.{Distances, distance_of, tight_link_of}
use Rattle.hose_graph.specs.declared.limits.TheConstants.{MOST_DISTANCE}
use Rattle.hose_law.specs.Walk.{cost_of, Joins, IsIn, IsWalk, walk_cost, IsDistance, Reaches}
use Rattle.hose_law.specs.Row.{IsTight, IsTightLink, IsRow}
use Rattle.hose_law.proofs.Walks.{joins_turned}
use Rattle.hose_law.proofs.Joined.{joins_nodes, joins_costs}
use Rattle.hose_law.proofs.Distances.{link_costs, costs_both, distance_from, distance_itself, distance_least, distance_unique, from_walk, last_link}
use Rattle.hose_law.proofs.ShortWalks.{distance_bound}

-- a node that is reached and is not the root has a link that is tight for it: the last one of a shortest walk
pub tight_exists : (network : Network) (set : List Bool) (root v distance : ℕ) → IsDistance network set root v distance → root ≢ v
    → (l : ℕ) × IsTight network set root v l
tight_exists network set root v distance is differ =
    let last = last_link network set root v is.walk is.walks differ in
    let way_least : (other : List ℕ) → IsWalk network set root last.before other → last.way ≤ walk_cost network other =
    λ other along.
    let whole = costs_both network set root last.before v (walk_cost network other) (cost_of network last.link)
    (from_walk network set root last.before other along)
    (link_costs network set last.link last.before v last.in_set last.joins) in
    omega (arith, distance_least network set root v distance _ is whole, last.costs, is.costs) in (
      last.link,
      record {
        in_set = last.in_set;
        other = last.before;
        joins = joins_turned network last.link last.before v last.joins;
        nearer = last.way;
        other_distance = distance_from network set root last.before last.way last.goes way_least;
        distance = subst (IsDistance network set root v) (sym (last.costs ∙ is.costs)) is;
      },
    )

-- a tight link leads strictly nearer to the root
pub tight_nearer : (network : Network) → IsNetwork network → (set : List Bool) (root v l : ℕ) → (tight : IsTight network set root v l)
    → tight.nearer < tight.nearer + cost_of network l
tight_nearer network is set root v l tight = omega (arith, (joins_costs network is l v tight.other tight.joins).0)

-- no link is tight for the root
pub tight_not_root : (network : Network) → IsNetwork network → (set : List Bool) (root v l : ℕ) → IsTight network set root v l
    → v ≢ root
tight_not_root network is set root v l tight same =
    let zero_there = distance_unique network set root v (tight.nearer + cost_of network l) 0 tight.distance
    (subst (λ (n : ℕ). IsDistance network set root n 0) (sym same) (distance_itself network set root)) in
    omega (arith, tight_nearer network is set root v l tight, zero_there)

-- What a row says of a tight link: it leads to a node that is nearer by what it costs.
pub record LeadsNearer (network : Network) (set : List Bool) (row : Distances) (v l : ℕ) : Type 0 where
  pub in_set : IsIn set l
  pub other : ℕ
  pub is_node : other < length network.nodes
  pub joins : Joins network l v other
  pub costs : 1 ≤ cost_of network l
  pub nearer : ℕ
  pub there : distance_of row other ≡ Some nearer
  pub here : distance_of row v ≡ Some (nearer + cost_of network l)

module _ (network : Network) (is : IsNetwork network) (set : List Bool) (root : ℕ) (row : Distances) (is_row : IsRow network set root row) where
  pub row_distance : (v d : ℕ) → v < length network.nodes → distance_of row v ≡ Some d → IsDistance network set root v d
  row_distance v d node there = MatchOption-at_some _ (IsDistance network set root v) d there (is_row.distances v node)

  pub row_unreached : (v : ℕ) → v < length network.nodes → distance_of row v ≡ None → ¬ Reaches network set root v
  row_unreached v node there = MatchOption-at_none (¬ Reaches network set root v) _ there (is_row.distances v node)

  -- what is reached has its distance in the row
  pub row_has_distance : (v d : ℕ) → v < length network.nodes → IsDistance network set root v d → distance_of row v ≡ Some d
  row_has_distance v d node is_distance = at (distance_of row v) refl
    where
      at : (found : Option ℕ) → distance_of row v ≡ found → found ≡ Some d
      at None there = absurd (row_unreached v node there (is_distance.walk, is_distance.walks))
      at (Some e) there = ap Some (distance_unique network set root v e d (row_distance v e node there) is_distance)

  -- no distance in a row is above what the longest walk can cost that repeats no node
  pub row_bound : (v d : ℕ) → v < length network.nodes → distance_of row v ≡ Some d → d ≤ MOST_DISTANCE
  row_bound v d node there = distance_bound network is set root v d (row_distance v d node there)

  -- whether a node is reached, the row tells
  pub row_reached : (v : ℕ) → v < length network.nodes
      → (((d : ℕ) × (distance_of row v ≡ Some d) × IsDistance network set root v d) ⊎ ((distance_of row v ≡ None) × (¬ Reaches network set root v)))
  row_reached v node = at (distance_of row v) refl
    where
      at : (found : Option ℕ) → distance_of row v ≡ found
          → (((d : ℕ) × (distance_of row v ≡ Some d) × IsDistance network set root v d) ⊎ ((distance_of row v ≡ None) × (¬ Reaches network set root v)))
      at None there = inr (there, row_unreached v node there)
      at (Some d) there = inl (d, there, row_distance v d node there)

  -- a tight link in the row is the tight link
  pub row_tight_link : (v l : ℕ) → v < length network.nodes → tight_link_of row v ≡ Some l → IsTightLink network set root v l
  row_tight_link v l node there = elim (cases_eq v root) [
    | inl same ↦ absurd (none-some l (sym is_row.root_has_none ∙ ap (tight_link_of row) (sym same) ∙ there))
    | inr differ ↦ elim (row_reached v node) [
      | inl reached ↦
          let found = is_row.tight_links v node differ (reached.2.walk, reached.2.walks) in
          let P : Option ℕ → Type 0 = λ o. IsSomeAnd o (IsTightLink network set root v) in
          subst P there found
      | inr unreached ↦ absurd (none-some l (sym (is_row.unreached_have_none v node unreached.1) ∙ there))
    ]
  ]

  -- the tight link of a node leads to a node that the row has nearer
  pub row_leads_nearer : (v l : ℕ) → v < length network.nodes → tight_link_of row v ≡ Some l → LeadsNearer network set row v l
  row_leads_nearer v l node there =
      let tight = (row_tight_link v l node there).tight in
      let other_node = (joins_nodes network is l v tight.other tight.joins).1 in
      record {
        in_set = tight.in_set;
        other = tight.other;
        is_node = other_node;
        joins = tight.joins;
        costs = (joins_costs network is l v tight.other tight.joins).0;
        nearer = tight.nearer;
        there = row_has_distance tight.other tight.nearer other_node tight.other_distance;
        here = row_has_distance v (tight.nearer + cost_of network l) node tight.distance;
      }

  -- a node that the row reaches and that is not the root has a tight link in it
  pub row_has_tight_link : (v d : ℕ) → v < length network.nodes → v ≢ root → distance_of row v ≡ Some d
      → (l : ℕ) × (tight_link_of row v ≡ Some l)
  row_has_tight_link v d node differ there = at (tight_link_of row v) refl
    where
      reach : Reaches network set root v
      reach = ((row_distance v d node there).walk, (row_distance v d node there).walks)

      at : (found : Option ℕ) → tight_link_of row v ≡ found → (l : ℕ) × (tight_link_of row v ≡ Some l)
      at None none =
          let P : Option ℕ → Type 0 = λ o. IsSomeAnd o (IsTightLink network set root v) in
          absurd (subst P none (is_row.tight_links v node differ reach))
      at (Some l) some = (l, some)
