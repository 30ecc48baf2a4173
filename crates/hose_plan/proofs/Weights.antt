-- Weights of all nodes, while endpoint after endpoint is added.
use Rattle.std.proofs.Common.{◌≡◌, ◌∙◌, ℕ, ◌+◌, ◌*◌, ◌<◌, ◌≤◌, Bool, List, [], ◌∷◌, ◌++◌, Option, None, Some, length, get_or, take, refl, sym, ap, subst, arith}
use Rattle.std.specs.Option.{IfSome, MatchOption}
use Rattle.std.proofs.lemmas.List.{get_or_default, take_all, take_more}
use Rattle.std.proofs.lemmas.Nat.{mul-le}
use Rattle.hose_graph.specs.Network.{Network}
use Rattle.hose_graph.specs.declared.limits.TheConstants.{MOST_DISTANCE, MOST_RATE}
use Rattle.hose_graph.specs.Row.{Distances, distance_of}
use Rattle.hose_graph.specs.steps.Row.{HasBoundedDistances, IsWithinReach}
use Rattle.hose_law.specs.CanonicalPlan.{IsWeight}
use Rattle.hose_law.specs.Walk.{IsDistance, Reaches}
use Rattle.hose_law.proofs.Distances.{distance_back}
use Rattle.hose_law.proofs.Walks.{reaches_back}
use Rattle.hose_paths.specs.steps.Rows.{HasDistances}
use Rattle.hose_root.specs.steps.Choice.{weight_at}
use Rattle.hose_plan.specs.steps.Rooting.{AreWeights, AreLight, heavier, most_share}

module _ (network : Network) (set : List Bool) where
  -- an endpoint more, after the others, weighs its rate times its distance
  weight_push : (v : ℕ) (ends : List (ℕ × ℕ)) (end : ℕ × ℕ) (weight distance : ℕ) → IsWeight network set v ends weight → IsDistance network set v end.0 distance
      → IsWeight network set v (ends ++ end ∷ []) (weight + end.1 * distance)
  weight_push v [] end weight distance is far = (distance, 0, far, refl, omega (arith, is))
  weight_push v (first ∷ ends) end weight distance is far =
      (is.0, is.1 + end.1 * distance, is.2, weight_push v ends end is.1 distance is.3 far, omega (arith, is.4))

  -- what weighs some endpoints and one more reaches that one, and weighs the others
  record HasBefore (v : ℕ) (ends : List (ℕ × ℕ)) (end : ℕ × ℕ) : Type 0 where
    weight : ℕ
    is_weight : IsWeight network set v ends weight
    reaches : Reaches network set v end.0

  weight_before : (v : ℕ) (ends : List (ℕ × ℕ)) (end : ℕ × ℕ) (weight : ℕ) → IsWeight network set v (ends ++ end ∷ []) weight → HasBefore v ends end
  weight_before v [] end weight is = record { weight = 0; is_weight = refl; reaches = (is.2.walk, is.2.walks) }
  weight_before v (first ∷ ends) end weight is =
      let rest = weight_before v ends end is.1 is.3 in
      record {
        weight = first.1 * is.0 + rest.weight;
        is_weight = (is.0, rest.weight, is.2, rest.is_weight, refl);
        reaches = rest.reaches;
      }

  -- what a node with such a weight and at such a distance of one more endpoint weighs
  abbrev Weighs : ℕ → List (ℕ × ℕ) → Option ℕ → Type 0
  Weighs v ends found = MatchOption found ((weight : ℕ) → IsWeight network set v ends weight → ⊥) (IsWeight network set v ends)

  weighs_more : (v : ℕ) (ends : List (ℕ × ℕ)) (end : ℕ × ℕ) (weight distance : Option ℕ) → Weighs v ends weight
      → MatchOption distance (¬ Reaches network set end.0 v) (IsDistance network set end.0 v)
      → Weighs v (ends ++ end ∷ []) (heavier weight end.1 distance)
  weighs_more v ends end None distance is far =
      λ weight more. let before = weight_before v ends end weight more in is before.weight before.is_weight
  weighs_more v ends end (Some weight) None is far =
      λ heavy more. far (reaches_back network set v end.0 (weight_before v ends end heavy more).reaches)
  weighs_more v ends end (Some weight) (Some distance) is far =
      weight_push v ends end weight distance is (distance_back network set end.0 v distance far)

  -- the row of one more endpoint gives the weights with it
  pub weights_more : (hose : List (ℕ × ℕ)) (i : ℕ) → i < length hose → (row : Distances) → HasDistances network set (get_or hose i (0, 0)).0 row
      → (before after : List (Option ℕ)) → AreWeights network set (take i hose) before → length after ≡ length before
      → ((v : ℕ) → v < length before → weight_at after v ≡ heavier (weight_at before v) (get_or hose i (0, 0)).1 (distance_of row v))
      → AreWeights network set (take (i + 1) hose) after
  weights_more hose i inside row is_row before after are long each = record {
    places = long ∙ are.places;
    each = λ v node.
        let end = get_or hose i (0, 0) in
        let here = each v (omega (arith, node, are.places)) in
        let more = weighs_more v (take i hose) end (weight_at before v) (distance_of row v) (are.each v node) (is_row.distances v node) in
        rw (take_more hose i (0, 0) inside, here) more;
  }

-- the weights of the endpoints before a place
pub record AreSoFar (network : Network) (set : List Bool) (hose : List (ℕ × ℕ)) (i : ℕ) (weights : List (Option ℕ)) : Type 0 where
  pub are : AreWeights network set (take i hose) weights
  pub light : AreLight i weights

-- Adding the row of an endpoint to the weights of those before it, where all endpoints lie in a list that equals the hose's.
module _ (network : Network) (set : List Bool) (hose ends : List (ℕ × ℕ)) (same : ends ≡ hose) where
  pub weights_pushed : (i : ℕ) → i < length ends → (row : Distances) → HasDistances network set (get_or ends i (0, 0)).0 row
      → (before given after : List (Option ℕ)) → given ≡ before → length after ≡ length given
      → ((v : ℕ) → v < length given → weight_at after v ≡ heavier (weight_at given v) (get_or ends i (0, 0)).1 (distance_of row v))
      → AreWeights network set (take i hose) before → AreWeights network set (take (i + 1) hose) after
  weights_pushed i inside row is_row before given after was long each are =
      let end : get_or ends i (0, 0) ≡ get_or hose i (0, 0) = ap (λ (es : List (ℕ × ℕ)). get_or es i (0, 0)) same in
      weights_more network set hose i (omega (arith, inside, ap length same)) row (subst (λ (e : ℕ × ℕ). HasDistances network set e.0 row) end is_row)
      before after are (long ∙ ap length was)
      (λ v below.
      each v (omega (arith, below, ap length was))
      ∙ ap (λ (ws : List (Option ℕ)). heavier (weight_at ws v) (get_or ends i (0, 0)).1 (distance_of row v)) was
      ∙ ap (λ (e : ℕ × ℕ). heavier (weight_at before v) e.1 (distance_of row v)) end)

  -- so the weights of the endpoints so far become those with one more, and in the end those of all
  pub more_so_far : (i : ℕ) → i < length ends → (row : Distances) → HasDistances network set (get_or ends i (0, 0)).0 row
      → (before given after : List (Option ℕ)) → given ≡ before → length after ≡ length given
      → ((v : ℕ) → v < length given → weight_at after v ≡ heavier (weight_at given v) (get_or ends i (0, 0)).1 (distance_of row v))
      → (AreLight i given → AreLight (i + 1) after)
      → AreSoFar network set hose i before → AreSoFar network set hose (i + 1) after
  more_so_far i inside row is_row before given after was long each light so_far = record {
    are = weights_pushed i inside row is_row before given after was long each so_far.are;
    light = light (subst (AreLight i) (sym was) so_far.light);
  }

  pub all_so_far : (i : ℕ) → length ends ≤ i → (weights : List (Option ℕ)) → AreSoFar network set hose i weights → AreWeights network set hose weights
  all_so_far i past weights so_far =
      let whole : take i hose ≡ hose = take_all i hose (omega (arith, past, ap length same)) in
      subst (λ (es : List (ℕ × ℕ)). AreWeights network set es weights) whole so_far.are

-- a weight that is small, and one more endpoint's share
light_at : (ends rate : ℕ) → rate ≤ MOST_RATE → (weight distance : Option ℕ) → IfSome weight (λ w. w ≤ ends * most_share) → IsWithinReach distance
    → IfSome (heavier weight rate distance) (λ w. w ≤ (ends + 1) * most_share)
light_at ends rate few None distance small near = tt
light_at ends rate few (Some weight) None small near = tt
light_at ends rate few (Some weight) (Some distance) small near = omega (arith, small, mul-le rate distance MOST_RATE MOST_DISTANCE few near)

pub light_more : (ends rate : ℕ) → rate ≤ MOST_RATE → (row : Distances) → HasBoundedDistances row → (before after : List (Option ℕ)) → length row.dist ≡ length before → length after ≡ length before
    → AreLight ends before
    → ((v : ℕ) → v < length before → weight_at after v ≡ heavier (weight_at before v) rate (distance_of row v)) → AreLight (ends + 1) after
light_more ends rate few row bounded before after places long light each k d below =
    let node : k < length before = omega (arith, below, long) in
    let is : get_or after k d ≡ heavier (weight_at before k) rate (distance_of row k) = get_or_default after k d None below ∙ each k node in
    rw is (light_at ends rate few (weight_at before k) (distance_of row k) (light k None node) (bounded k None (omega (arith, node, places))))
