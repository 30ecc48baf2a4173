-- The numbers that are written of a root meet the rules.
use Rattle.std.proofs.Common.{◌≡◌, ◌⊎◌, ◌∙◌, ℕ, ◌+◌, ◌*◌, ◌<◌, ◌≤◌, Bool, List, [], ◌∷◌, Option, None, Some, length, get_or, refl, sym, ap, subst, inl, inr, arith, mul-le-mul, le_refl}
use Rattle.std.specs.Prelude.{unwrap_or, MatchOption}
use Rattle.std.specs.List.{All, slice_index}
use Rattle.std.proofs.lemmas.List.{ext_get_or, get_or-map, length-map}
use Rattle.std.proofs.lemmas.List.Elements.{All-head, All-tail, All-weaker}
use Rattle.std.proofs.lemmas.List.Sums.{sum_by-cons}
use Rattle.hose_graph.specs.Hose.{IsEnd, IsHose}
use Rattle.hose_graph.specs.Network.{Network, IsNetwork}
use Rattle.hose_graph.specs.Row.{Distances, distance_of}
use Rattle.hose_law.specs.CanonicalPlan.{IsCanonicalPlan, IsWeight}
use Rattle.hose_law.specs.Plan.{plan_cost}
use Rattle.hose_law.specs.steps.Plan.{AreNodes}
use Rattle.hose_law.specs.Row.{IsRow}
use Rattle.hose_law.specs.Walk.{IsDistance, Reaches, all_links, cost_of}
use Rattle.hose_law.proofs.Distances.{costs_both, distance_itself, distance_least, distance_unique, from_distance, link_costs}
use Rattle.hose_law.proofs.Joined.{joins_nodes}
use Rattle.hose_law.proofs.PlanWeight.{plan_weight}
use Rattle.hose_law.proofs.Rows.{row_bound}
use Rattle.hose_law.proofs.Walks.{joins_turned, reaches_along, reaches_itself, reaches_on}
use Rattle.hose_cert.specs.steps.Judging.{AreUpToMost}
use Rattle.hose_cert.specs.Rules.{DifferWithinCosts, weighed_by}
use Rattle.hose_cert.specs.Written.{numbers_of}
use Rattle.hose_cert.specs.declared.statement.TheConstants.{MOST_NUMBER}

module _ (network : Network) (is : IsNetwork network) (set : List Bool) (most root : ℕ) (row : Distances) (is_row : IsRow network set root row) where
  abbrev numbers : List ℕ
  numbers = numbers_of most row.dist

  abbrev Tells : ℕ → Option ℕ → Type 0
  Tells v told = MatchOption told (¬ Reaches network set root v) (IsDistance network set root v)

  number_is : (v : ℕ) → v < length network.nodes → slice_index numbers v ≡ unwrap_or (distance_of row v) most
  number_is v below = get_or-map (λ (d : Option ℕ). unwrap_or d most) row.dist v None 0 (omega (arith, below, is_row.dist_places))

  pub at_root : root < length network.nodes → slice_index numbers root ≡ 0
  at_root below = number_is root below ∙ by (distance_of row root) (is_row.distances root below)
    where
      by : (told : Option ℕ) → Tells root told → unwrap_or told most ≡ 0
      by None none = absurd (none (reaches_itself network set root))
      by (Some d) distance = distance_unique network set root root d 0 distance (distance_itself network set root)

  pub differ : DifferWithinCosts network set numbers
  differ l u v there joins =
      let nodes = joins_nodes network is l u v joins in
      omega (arith, number_is u nodes.0, number_is v nodes.1, by (distance_of row u) (distance_of row v) (is_row.distances u nodes.0) (is_row.distances v nodes.1))
    where
      by : (one other : Option ℕ) → Tells u one → Tells v other → unwrap_or other most ≤ unwrap_or one most + cost_of network l
      by None None none nor = omega arith
      by None (Some e) none distance =
          absurd (none (reaches_on network set root v u (distance.walk, distance.walks) (reaches_along network set v u l there (joins_turned network l u v joins))))
      by (Some d) None distance none = absurd (none (reaches_on network set root u v (distance.walk, distance.walks) (reaches_along network set u v l there joins)))
      by (Some d) (Some e) distance also =
          distance_least network set root v e (d + cost_of network l) also
          (costs_both network set root u v d (cost_of network l) (from_distance network set root u d distance) (link_costs network set l u v there joins))

  -- the hose weighs what it weighs by the numbers, or these are large enough
  weighs : (ends : List (ℕ × ℕ)) → All (λ (end : ℕ × ℕ). 1 ≤ end.1) ends → All (λ (end : ℕ × ℕ). end.0 < length network.nodes) ends
      → IsWeight network set root ends (weighed_by numbers ends) ⊎ (most ≤ weighed_by numbers ends)
  weighs [] some nodes = inl refl
  weighs (end ∷ ends) some nodes =
      let below = All-head (λ (e : ℕ × ℕ). e.0 < length network.nodes) end ends nodes in
      let rate = All-head (λ (e : ℕ × ℕ). 1 ≤ e.1) end ends some in
      by (distance_of row end.0) refl (is_row.distances end.0 below) below rate
      (weighs ends (All-tail (λ (e : ℕ × ℕ). 1 ≤ e.1) end ends some) (All-tail (λ (e : ℕ × ℕ). e.0 < length network.nodes) end ends nodes))
    where
      sum : weighed_by numbers (end ∷ ends) ≡ end.1 * slice_index numbers end.0 + weighed_by numbers ends
      sum = sum_by-cons (λ (e : ℕ × ℕ). e.1 * slice_index numbers e.0) end ends

      by : (told : Option ℕ) → told ≡ distance_of row end.0 → Tells end.0 told → end.0 < length network.nodes → 1 ≤ end.1
          → IsWeight network set root ends (weighed_by numbers ends) ⊎ (most ≤ weighed_by numbers ends)
          → IsWeight network set root (end ∷ ends) (weighed_by numbers (end ∷ ends)) ⊎ (most ≤ weighed_by numbers (end ∷ ends))
      by None same none below rate rest =
          let here : slice_index numbers end.0 ≡ most = number_is end.0 below ∙ ap (λ (d : Option ℕ). unwrap_or d most) (sym same) in
          inr (omega (arith, sum, here, ap (λ (n : ℕ). end.1 * n) here, mul-le-mul rate (le_refl most)))
      by (Some d) same distance below rate (inl weight) =
          let here : slice_index numbers end.0 ≡ d = number_is end.0 below ∙ ap (λ (o : Option ℕ). unwrap_or o most) (sym same) in
          inl (d, weighed_by numbers ends, distance, weight, sum ∙ ap (λ (n : ℕ). end.1 * n + weighed_by numbers ends) here)
      by (Some d) same distance below rate (inr enough) = inr (omega (arith, sum, enough))

  -- numbers are within the limit where the one in place of a distance is
  pub up_to : most ≤ MOST_NUMBER → AreUpToMost numbers
  up_to few k d below = subst (λ (n : ℕ). n ≤ MOST_NUMBER) (sym is_number) (by (get_or row.dist k None) refl)
    where
      inside : k < length row.dist
      inside = omega (arith, below, length-map row.dist (λ (o : Option ℕ). unwrap_or o most))

      is_number : get_or numbers k d ≡ unwrap_or (get_or row.dist k None) most
      is_number = get_or-map (λ (o : Option ℕ). unwrap_or o most) row.dist k None d inside

      by : (told : Option ℕ) → distance_of row k ≡ told → unwrap_or told most ≤ MOST_NUMBER
      by None there = few
      by (Some e) there = omega (arith, row_bound network is set root row is_row k e (omega (arith, inside, is_row.dist_places)) there)

  pub places : length numbers ≡ length network.nodes
  places = length-map row.dist (λ (o : Option ℕ). unwrap_or o most) ∙ is_row.dist_places

  -- a root has one list of distances
  pub one_dist : (other : Distances) → IsRow network set root other → row.dist ≡ other.dist
  one_dist other is_other =
      ext_get_or None row.dist other.dist (is_row.dist_places ∙ sym is_other.dist_places)
      (λ v below.
      let node : v < length network.nodes = omega (arith, below, is_row.dist_places) in
      by v (distance_of row v) (distance_of other v) (is_row.distances v node) (is_other.distances v node))
    where
      by : (v : ℕ) → (one also : Option ℕ) → Tells v one → Tells v also → one ≡ also
      by v None None none nor = refl
      by v None (Some e) none distance = absurd (none (distance.walk, distance.walks))
      by v (Some d) None distance none = absurd (none (distance.walk, distance.walks))
      by v (Some d) (Some e) distance as_well = ap Some (distance_unique network set root v d e distance as_well)

module _ (network : Network) (is : IsNetwork network) (hose plan : List (ℕ × ℕ)) (is_hose : IsHose hose) (nodes : AreNodes network hose) (canonical : IsCanonicalPlan network (all_links network) hose plan) where
  -- by the numbers of each root the hose weighs what the plan costs, or more
  pub enough : (root : ℕ) → root < length network.nodes → (row : Distances) → IsRow network (all_links network) root row → plan_cost network plan ≤ weighed_by (numbers_of (plan_cost network plan) row.dist) hose
  enough root below row is_row =
      let most = plan_cost network plan in
      let weighed = plan_weight network is (all_links network) hose plan canonical in
      let rates = All-weaker IsEnd (λ (e : ℕ × ℕ). 1 ≤ e.1) (λ e end. end.rate.0) hose is_hose.within in
      elim (weighs network is (all_links network) most root row is_row hose rates nodes) [
        | inl weight ↦ omega (arith, weighed.3, weighed.2.least root (weighed_by (numbers_of most row.dist) hose) below weight)
        | inr large ↦ large
      ]
