-- What the sum over a row's distances is of a weight.
use Rattle.std.proofs.Common.{◌≡◌, ◌≢◌, ◌∙◌, ℕ, zero, suc, ◌+◌, ◌*◌, ◌<◌, ◌≤◌, Bool, List, [], ◌∷◌, Option, None, Some, All, length, get_or, take, refl, sym, ap, subst, inl, inr, arith}
use Rattle.std.specs.Option.{unwrap_or}
use Rattle.std.proofs.lemmas.Bool.{cases_eq, cases_lt}
use Rattle.std.proofs.lemmas.List.{get_or-take, get_or_default, length-take, get_or_past}
use Rattle.std.proofs.lemmas.List.Sums.{sum_by_more, sum_by-cons}
use Rattle.std.proofs.lemmas.Nat.{mul-le}
use Rattle.std.proofs.lemmas.Option.{MatchOption-at_some, MatchOption-at_none, none-some}
use Rattle.hose_graph.specs.Hose.{IsEnd}
use Rattle.hose_graph.specs.Network.{Network}
use Rattle.hose_graph.specs.Row.{Distances, distance_of}
use Rattle.hose_graph.specs.steps.Row.{HasBoundedDistances, IsWithinReach}
use Rattle.hose_graph.specs.declared.limits.TheConstants.{MOST_DISTANCE, MOST_RATE}
use Rattle.hose_law.specs.Row.{IsRow}
use Rattle.hose_law.specs.Walk.{IsDistance, Reaches}
use Rattle.hose_law.specs.CanonicalPlan.{IsWeight}
use Rattle.hose_root.specs.steps.Weight.{LeavesOut, weight_of}

-- a node's distance is bounded where those of the row are
bounded_at : (row : Distances) → HasBoundedDistances row → (v distance : ℕ) → distance_of row v ≡ Some distance → distance ≤ MOST_DISTANCE
bounded_at row bounded v distance there = elim (cases_lt v (length row.dist)) [
  | inl below ↦
      subst IsWithinReach there (bounded v None below)
  | inr past ↦ absurd (none-some distance (sym (get_or_past row.dist v None past) ∙ there))
]

module _ (row : Distances) (hose : List (ℕ × ℕ)) (i distance : ℕ) (below : i < length hose) (there : distance_of row (get_or hose i (0, 0)).0 ≡ Some distance) where
  -- one more endpoint weighs its rate times its distance
  pub weight_more : weight_of row (take (i + 1) hose) ≡ weight_of row (take i hose) + (get_or hose i (0, 0)).1 * distance
  weight_more =
      let weigh : ℕ × ℕ → ℕ = λ end. end.1 * unwrap_or (distance_of row end.0) 0 in
      sum_by_more weigh hose i (0, 0) below
      ∙ ap (λ (o : Option ℕ). weight_of row (take i hose) + (get_or hose i (0, 0)).1 * unwrap_or o 0) there

  -- and is not left out
  pub none_left_out_more : (¬ LeavesOut row (take i hose)) → ¬ LeavesOut row (take (i + 1) hose)
  none_left_out_more before out =
      let k = out.0 in
      let x = out.1 in
      let inside : k < i + 1 = omega (arith, out.2, length-take (i + 1) hose) in
      elim (cases_eq k i) [
        | inl same ↦
            let last : get_or hose i (0, 0) ≡ x =
            get_or_default hose i (0, 0) x below
            ∙ ap (λ (n : ℕ). get_or hose n x) (sym same)
            ∙ sym (get_or-take (i + 1) hose k x inside)
            ∙ out.3 in
            none-some distance (sym out.4 ∙ ap (λ (end : ℕ × ℕ). distance_of row end.0) (sym last) ∙ there)
        | inr differ ↦
            let less : k < i = omega (arith, differ) in
            before (
              k,
              x,
              omega (arith, length-take i hose, less, below),
              get_or-take i hose k x less ∙ sym (get_or-take (i + 1) hose k x inside) ∙ out.3,
              out.4,
            )
      ]

  -- it weighs no more than the greatest rate at the greatest distance
  pub weight_small : HasBoundedDistances row → All IsEnd hose → (get_or hose i (0, 0)).1 * distance ≤ MOST_RATE * MOST_DISTANCE
  weight_small bounded within =
      let end = get_or hose i (0, 0) in
      mul-le end.1 distance MOST_RATE MOST_DISTANCE (within i (0, 0) below).rate.1 (bounded_at row bounded end.0 distance there)

-- an endpoint at a place of a list that is the hose's, with its distance, and what it weighs at most
pub record Share (row : Distances) (hose ends : List (ℕ × ℕ)) (i distance : ℕ) : Type 0 where
  pub inside : i < length hose
  pub there : distance_of row (get_or hose i (0, 0)).0 ≡ Some distance
  pub same : (get_or ends i (0, 0)).1 * distance ≡ (get_or hose i (0, 0)).1 * distance
  pub small : (get_or ends i (0, 0)).1 * distance ≤ MOST_RATE * MOST_DISTANCE

pub share_at : (row : Distances) (hose ends : List (ℕ × ℕ)) (i distance : ℕ) (told : Option ℕ) → ends ≡ hose → i < length ends
    → told ≡ distance_of row (get_or ends i (0, 0)).0 → told ≡ Some distance → HasBoundedDistances row → All IsEnd hose
    → Share row hose ends i distance
share_at row hose ends i distance told same below tells is bounded within =
    let inside : i < length hose = omega (arith, below, ap length same) in
    let there : distance_of row (get_or hose i (0, 0)).0 ≡ Some distance =
    ap (λ (es : List (ℕ × ℕ)). distance_of row (get_or es i (0, 0)).0) (sym same) ∙ sym tells ∙ is in
    let share : (get_or ends i (0, 0)).1 * distance ≡ (get_or hose i (0, 0)).1 * distance =
    ap (λ (es : List (ℕ × ℕ)). (get_or es i (0, 0)).1 * distance) same in
    let small = weight_small row hose i distance inside there bounded within in
    record { inside = inside; there = there; same = share; small = omega (arith, share, small) }

-- an endpoint without a distance is left out of all
pub left_out : (row : Distances) (hose : List (ℕ × ℕ)) (i : ℕ) → i < length hose → distance_of row (get_or hose i (0, 0)).0 ≡ None
    → LeavesOut row hose
left_out row hose i below none = (i, get_or hose i (0, 0), below, get_or_default hose i (get_or hose i (0, 0)) (0, 0) below, none)

module _ (network : Network) (set : List Bool) (root : ℕ) (row : Distances) (is_row : IsRow network set root row) where
  -- all endpoints are places of the row
  abbrev AreIn : List (ℕ × ℕ) → Type 0
  AreIn hose = All (λ (end : ℕ × ℕ). end.0 < length row.dist) hose

  in_behind : (end : ℕ × ℕ) (hose : List (ℕ × ℕ)) → AreIn (end ∷ hose) → AreIn hose
  in_behind end hose are k d below = are (suc k) d (omega (arith, below))

  row_distance : (v d : ℕ) → v < length network.nodes → distance_of row v ≡ Some d → IsDistance network set root v d
  row_distance v d node there = MatchOption-at_some (¬ Reaches network set root v) (IsDistance network set root v) d there (is_row.distances v node)

  row_unreached : (v : ℕ) → v < length network.nodes → distance_of row v ≡ None → ¬ Reaches network set root v
  row_unreached v node there = MatchOption-at_none (¬ Reaches network set root v) (IsDistance network set root v) there (is_row.distances v node)

  in_network : (end : ℕ × ℕ) (hose : List (ℕ × ℕ)) → AreIn (end ∷ hose) → end.0 < length network.nodes
  in_network end hose are =
      let first : end.0 < length row.dist = are zero end (omega arith) in
      omega (arith, first, is_row.dist_places)

  -- where an endpoint has no distance there is no weight
  no_weight_at : (hose : List (ℕ × ℕ)) (k : ℕ) → AreIn hose → k < length hose → distance_of row (get_or hose k (0, 0)).0 ≡ None
      → (weight : ℕ) → ¬ IsWeight network set root hose weight
  no_weight_at [] k are below none weight is = absurd (omega (arith, below))
  no_weight_at (end ∷ hose) zero are below none weight is =
      row_unreached end.0 (in_network end hose are) none (is.2.walk, is.2.walks)
  no_weight_at (end ∷ hose) (suc k) are below none weight is =
      no_weight_at hose k (in_behind end hose are) (omega (arith, below)) none is.1 is.3

  pub no_weight : (hose : List (ℕ × ℕ)) → AreIn hose → LeavesOut row hose → (weight : ℕ) → ¬ IsWeight network set root hose weight
  no_weight hose are out =
      let same : get_or hose out.0 (0, 0) ≡ out.1 = get_or_default hose out.0 (0, 0) out.1 out.2 ∙ out.3 in
      no_weight_at hose out.0 are out.2 (ap (λ (end : ℕ × ℕ). distance_of row end.0) same ∙ out.4)

  -- where none is left out, the sum is the weight
  has_distance : (v : ℕ) (found : Option ℕ) → distance_of row v ≡ found → found ≢ None → (d : ℕ) × (distance_of row v ≡ Some d)
  has_distance v None there some = absurd (some refl)
  has_distance v (Some d) there some = (d, there)

  behind_left_out : (end : ℕ × ℕ) (hose : List (ℕ × ℕ)) → LeavesOut row hose → LeavesOut row (end ∷ hose)
  behind_left_out end hose out = (suc out.0, out.1, omega (arith, out.2), out.3, out.4)

  pub is_weight : (hose : List (ℕ × ℕ)) → AreIn hose → (¬ LeavesOut row hose) → IsWeight network set root hose (weight_of row hose)
  is_weight [] are all = refl
  is_weight (end ∷ hose) are all =
      let found = has_distance end.0 (distance_of row end.0) refl (λ none. all (zero, end, omega arith, refl, none)) in
      let weigh : ℕ × ℕ → ℕ = λ e. e.1 * unwrap_or (distance_of row e.0) 0 in (
        found.0,
        weight_of row hose,
        row_distance end.0 found.0 (in_network end hose are) found.1,
        is_weight hose (in_behind end hose are) (λ out. all (behind_left_out end hose out)),
        sum_by-cons weigh end hose ∙ ap (λ (o : Option ℕ). end.1 * unwrap_or o 0 + weight_of row hose) found.1,
      )
