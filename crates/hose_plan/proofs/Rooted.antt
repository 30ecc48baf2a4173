-- The lowest node of least weight is the root.
use Rattle.std.proofs.Common.{◌≡◌, ◌∙◌, ℕ, zero, suc, ◌<◌, Bool, List, [], ◌∷◌, ◌++◌, Option, None, Some, All, length, get_or, refl, sym, ap, subst, inl, inr, arith}
use Rattle.std.specs.Option.{IfSome, IsNone, IsSome, MatchOption}
use Rattle.std.proofs.lemmas.Bool.{cases_lt}
use Rattle.std.proofs.lemmas.List.{get_or_past}
use Rattle.std.proofs.lemmas.List.Elements.{All-push}
use Rattle.std.proofs.lemmas.Option.{MatchOption-at_none, none-some}
use Rattle.hose_graph.specs.Network.{Network, IsNetwork}
use Rattle.hose_graph.specs.Row.{Distances, distance_of}
use Rattle.hose_graph.specs.steps.Row.{HasBoundedDistances}
use Rattle.hose_law.specs.CanonicalPlan.{IsRoot, IsWeight}
use Rattle.hose_law.specs.steps.Plan.{AreNodes}
use Rattle.hose_law.specs.Row.{IsRow}
use Rattle.hose_law.specs.Walk.{IsDistance, Reaches}
use Rattle.hose_law.proofs.Rows.{row_has_distance}
use Rattle.hose_law.proofs.Walks.{reaches_back, reaches_on}
use Rattle.hose_paths.specs.steps.Rows.{HasDistances}
use Rattle.hose_root.specs.steps.Choice.{weight_at, IsLowestLeast}
use Rattle.hose_root.specs.steps.Weight.{LeavesOut}
use Rattle.hose_law.proofs.Weights.{weight_unique}
use Rattle.hose_plan.specs.steps.Rooting.{AreDistancesOver, AreWeights, IsBestRoot}

module _ (network : Network) (set : List Bool) (hose : List (ℕ × ℕ)) (weights : List (Option ℕ)) (are : AreWeights network set hose weights) where
  -- a node that has a weight has it at its place
  weight_there : (v weight : ℕ) → v < length network.nodes → IsWeight network set v hose weight → weight_at weights v ≡ Some weight
  weight_there v weight node is = at (weight_at weights v) refl (are.each v node)
    where
      at : (found : Option ℕ) → weight_at weights v ≡ found → MatchOption found ((w : ℕ) → ¬ IsWeight network set v hose w) (IsWeight network set v hose)
          → weight_at weights v ≡ Some weight
      at None there none = absurd (none weight is)
      at (Some w) there has = there ∙ ap Some (weight_unique network set v hose w weight has is)

  -- and what stands at a place is a node's weight
  node_there : (v weight : ℕ) → weight_at weights v ≡ Some weight → v < length network.nodes
  node_there v weight there = elim (cases_lt v (length network.nodes)) [
    | inl node ↦ node
    | inr past ↦ absurd (none-some weight (sym (get_or_past weights v None (omega (arith, past, are.places))) ∙ there))
  ]

  is_weight_there : (v weight : ℕ) → weight_at weights v ≡ Some weight → IsWeight network set v hose weight
  is_weight_there v weight there = rw there at (are.each v (node_there v weight there))

  least_is_root : (root : ℕ) → IsLowestLeast weights root → (weight : ℕ) × IsRoot network set hose root weight
  least_is_root root is = (
    is.weight,
    record {
      is_node = node_there root is.weight is.there;
      is_weight = is_weight_there root is.weight is.there;
      least = λ other heavier node weighs. is.least other heavier (weight_there other heavier node weighs);
      lowest = λ other node weighs. is.lowest other (weight_there other is.weight node weighs);
    },
  )

  none_is_root : All (λ (weight : Option ℕ). weight ≡ None) weights → (root weight : ℕ) → IsRoot network set hose root weight → ⊥
  none_is_root none root weight is =
      none-some weight (sym (none root None (omega (arith, is.is_node, are.places))) ∙ weight_there root weight is.is_node is.is_weight)

  -- what the choice among the weights tells of the root
  pub best_is_root : (found : Option ℕ) → (IsNone found → All (λ (weight : Option ℕ). weight ≡ None) weights) → IfSome found (IsLowestLeast weights)
      → IsBestRoot network set hose found
  best_is_root None none least = none_is_root (none refl)
  best_is_root (Some root) none least = least_is_root root least

-- the root reaches each endpoint
weighed : (network : Network) (set : List Bool) (root : ℕ) (hose : List (ℕ × ℕ)) (weight : ℕ) → IsWeight network set root hose weight
    → (k : ℕ) (end : ℕ × ℕ) → k < length hose → (distance : ℕ) × IsDistance network set root (get_or hose k end).0 distance
weighed network set root [] weight is k end below = absurd (omega (arith, below))
weighed network set root (first ∷ hose) weight is zero end below = (is.0, is.2)
weighed network set root (first ∷ hose) weight is (suc k) end below = weighed network set root hose is.1 is.3 k end (omega (arith, below))

-- where the row of an endpoint leaves out another one, no node reaches both
no_root_at : (network : Network) (set : List Bool) (hose : List (ℕ × ℕ)) → AreNodes network hose → (i : ℕ) → i < length hose
    → (row : Distances) → HasDistances network set (get_or hose i (0, 0)).0 row → LeavesOut row hose → IsBestRoot network set hose None
no_root_at network set hose nodes i inside row is_row out root weight is =
    let end : ℕ = (get_or hose i (0, 0)).0 in
    let other : ℕ = (get_or hose out.0 out.1).0 in
    let near = weighed network set root hose weight is.is_weight i (0, 0) inside in
    let far = weighed network set root hose weight is.is_weight out.0 out.1 out.2 in
    let reach = reaches_on network set end root other (reaches_back network set root end (near.1.walk, near.1.walks)) (far.1.walk, far.1.walks) in
    MatchOption-at_none (¬ Reaches network set end other) (IsDistance network set end other) (ap (λ (e : ℕ × ℕ). distance_of row e.0) out.3 ∙ out.4)
    (is_row.distances other (nodes out.0 out.1 out.2)) reach

pub no_root_apart : (network : Network) (set : List Bool) (hose ends : List (ℕ × ℕ)) → ends ≡ hose → AreNodes network hose → (i : ℕ) → i < length ends
    → (row : Distances) → HasDistances network set (get_or ends i (0, 0)).0 row → LeavesOut row ends → IsBestRoot network set hose None
no_root_apart network set hose ends same nodes i inside row is_row out =
    no_root_at network set hose nodes i (omega (arith, inside, ap length same)) row
    (subst (λ (es : List (ℕ × ℕ)). HasDistances network set (get_or es i (0, 0)).0 row) same is_row) (subst (LeavesOut row) same out)

-- the root's row has a distance for each
pub row_has_ends : (network : Network) → IsNetwork network → (set : List Bool) (hose : List (ℕ × ℕ)) (root weight : ℕ) (row : Distances)
    → AreNodes network hose → IsWeight network set root hose weight → IsRow network set root row → All (λ (end : ℕ × ℕ). IsSome (distance_of row end.0)) hose
row_has_ends network is set hose root weight row nodes weighs is_row k end below =
    let far = weighed network set root hose weight weighs k end below in
    rw (row_has_distance network is set root row is_row (get_or hose k end).0 far.0 (nodes k end below) far.1) refl

-- a row has the distances
pub row_has : (network : Network) (set : List Bool) (root : ℕ) (row : Distances) → IsRow network set root row → HasBoundedDistances row
    → HasDistances network set root row
row_has network set root row is bounded = record { rooted = is.rooted; dist_places = is.dist_places; distances = is.distances; bounded = bounded }

-- rows over a set, and one more
pub rows_pushed : (network : Network) (set : List Bool) (rows more : List Distances) (root : ℕ) (row : Distances) → more ≡ rows ++ row ∷ [] → HasDistances network set root row
    → AreDistancesOver network set rows → AreDistancesOver network set more
rows_pushed network set rows more root row is is_row are =
    rw is (
    All-push (λ (r : Distances). HasDistances network set r.root r) rows row are (subst (λ (n : ℕ). HasDistances network set n row) (sym is_row.rooted) is_row)
    )

-- one of them that begins at a root is the row of that root
pub row_found : (network : Network) (set : List Bool) (rows : List Distances) → AreDistancesOver network set rows → (place : ℕ) (row : Distances) → place < length rows
    → row ≡ get_or rows place row → (root : ℕ) → row.root ≡ root → HasDistances network set root row
row_found network set rows are place row below there root same =
    subst (λ (n : ℕ). HasDistances network set n row) same (subst (λ (r : Distances). HasDistances network set r.root r) (sym there) (are place row below))
