-- A certificate that meets the rules bears out that its plan is cheapest.
use Rattle.std.proofs.Common.{◌≡◌, ◌∙◌, ℕ, ◌+◌, ◌*◌, ◌<◌, ◌≤◌, Bool, List, [], ◌∷◌, Contains, length, inl, inr, refl, ap, subst, arith, mul-le-mul, le_refl}
use Rattle.std.specs.List.{All, slice_index}
use Rattle.std.proofs.lemmas.Bool.{cases_lt}
use Rattle.std.proofs.lemmas.List.{get_or-map, length-map}
use Rattle.std.proofs.lemmas.List.Elements.{All-contains, All-contains_itself, All-weaker}
use Rattle.std.proofs.lemmas.List.Sums.{sum_by-cons}
use Rattle.hose_graph.specs.Ascending.{firsts}
use Rattle.hose_graph.specs.Network.{Network, IsNetwork}
use Rattle.hose_law.specs.CanonicalPlan.{IsWeight}
use Rattle.hose_law.specs.Cheapest.{IsCheapest, amounts_cost}
use Rattle.hose_law.specs.Plan.{plan_cost}
use Rattle.hose_law.specs.Tree.{IsTreeReservation, links_of, smaller_side}
use Rattle.hose_law.specs.Walk.{IsIn, IsWalk, IsDistance, all_links, walk_cost}
use Rattle.hose_law.proofs.Bounds.{reserved_links}
use Rattle.hose_law.proofs.Carrying.{reservation_carries}
use Rattle.hose_law.proofs.Cheapest.{root_within}
use Rattle.hose_cert.specs.CertLine.{CertLine}
use Rattle.hose_cert.specs.Certificate.{IsCertificate, numbers_in, used_in}
use Rattle.hose_cert.specs.Rules.{CertClaim, Claims, DifferWithinCosts, MeetsRules, others_of, weighed_by}
use Rattle.hose_cert.proofs.Changing.{not_left_out}

module _ (network : Network) (set : List Bool) (numbers : List ℕ) (differ : DifferWithinCosts network set numbers) where
  -- along a walk the numbers rise by no more than it costs
  walk_within : (u v : ℕ) (walk : List ℕ) → IsWalk network set u v walk → slice_index numbers v ≤ slice_index numbers u + walk_cost network walk
  walk_within u v [] same = subst (λ (n : ℕ). slice_index numbers n ≤ slice_index numbers u + 0) same (omega arith)
  walk_within u v (l ∷ walk) along =
      omega (arith, differ l u along.0 along.1 along.2, walk_within along.0 v walk along.3)

  module _ (root : ℕ) (rooted : slice_index numbers root ≡ 0) where
    -- no number is above its node's distance
    number_within : (v d : ℕ) → IsDistance network set root v d → slice_index numbers v ≤ d
    number_within v d is = omega (arith, rooted, is.costs, walk_within root v is.walk is.walks)

    -- a hose weighs no less than by the numbers
    weight_above : (hose : List (ℕ × ℕ)) (weight : ℕ) → IsWeight network set root hose weight → weighed_by numbers hose ≤ weight
    weight_above [] weight is = omega arith
    weight_above (end ∷ ends) weight (d, rest, is_d, is_rest, sum) =
        omega (
          arith,
          sum,
          mul-le-mul (le_refl end.1) (number_within end.0 d is_d),
          weight_above ends rest is_rest,
          sum_by-cons (λ (e : ℕ × ℕ). e.1 * slice_index numbers e.0) end ends,
        )

module _ (network : Network) (lines : List CertLine) (claim : CertClaim) (is_network : IsNetwork network) (whole : IsCertificate network lines) (claims : Claims network lines claim)
    (meets : MeetsRules network lines claim) where
  abbrev set : List Bool
  set = others_of claim.without

  -- no link of the plan was left out
  uses_others : All (λ (p : ℕ × ℕ). IsIn set p.0) claim.pairs
  uses_others = All-weaker (Contains claim.pairs) (λ (p : ℕ × ℕ). IsIn set p.0)
      (λ p there. not_left_out claim.without p.0 (below p there) (λ out. whole.apart p.0 ((claims.without.has p.0).0 out) (used p there)))
      claim.pairs (All-contains_itself claim.pairs)
    where
      used : (p : ℕ × ℕ) → Contains claim.pairs p → Contains (firsts (used_in lines)) p.0
      used p (k, inside, same) =
          subst (λ (us : List (ℕ × ℕ)). Contains (firsts us) p.0) claims.pairs
          (k, omega (arith, inside, length-map claim.pairs (λ (q : ℕ × ℕ). q.0)), get_or-map (λ (q : ℕ × ℕ). q.0) claim.pairs k p p.0 inside ∙ ap (λ (q : ℕ × ℕ). q.0) same)

      below : (p : ℕ × ℕ) → Contains claim.pairs p → p.0 < length claim.without
      below p there =
          let link = All-contains (λ (q : ℕ × ℕ). q.0 < length network.links) claim.pairs p (reserved_links network is_network (all_links network) claim.hose claim.pairs meets.tree) there in
          omega (arith, link, claims.without.places)

  -- the tree is over the links that were not left out, since each of its links is a used one
  over_set : IsTreeReservation network set claim.hose claim.pairs
  over_set =
      let on = meets.tree in
      record {
        tree = on.tree;
        is_tree = on.is_tree;
        over = All-weaker (Contains (links_of on.tree)) (IsIn set)
            (λ l there. All-contains (λ (p : ℕ × ℕ). IsIn set p.0) claim.pairs (l, smaller_side on.tree claim.hose l) uses_others
            ((on.reserves.each l (smaller_side on.tree claim.hose l)).1 (there, refl)))
            (links_of on.tree) (All-contains_itself (links_of on.tree));
        joins = on.joins;
        reserves = on.reserves;
        some = on.some;
      }

  pub certified : IsCheapest network set claim.hose claim.pairs
  certified = record {
    carries = reservation_carries network set claim.hose claim.pairs over_set;
    least = λ tree amounts is_tree over carries.
        let light = root_within network is_network set claim.hose tree amounts is_tree over carries in
        let r = light.root in
        elim (cases_lt (amounts_cost network tree amounts) (plan_cost network claim.pairs)) [
          | inl more ↦ absurd (light.weighs (λ weight is_weight.
              omega (
                arith,
                more,
                meets.costs,
                light.within weight is_weight,
                meets.weighs r light.is_node,
                weight_above network set (numbers_in r lines) (meets.changes r light.is_node) r (meets.roots r light.is_node) claim.hose weight is_weight,
              )))
          | inr least ↦ least
        ];
  }
