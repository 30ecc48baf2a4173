-- Whatever the amounts that carry a hose on a tree, some node of the tree weighs no more than they cost.
-- Steps come with the last one first. An endpoint's rate moves to the old node of a step that is taken off, so several may stand at one node, and none at others.
use Rattle.std.proofs.Common.{◌≡◌, ◌≢◌, ◌⊎◌, ◌∙◌, ℕ, ◌+◌, ◌-◌, ◌*◌, ◌<◌, ◌≤◌, Bool, true, false, List, [], ◌∷◌, cond, eqb, min, refl, sym, ap, subst, inl, inr, arith, mul-add}
use Rattle.std.specs.List.{Contains, sum_by}
use Rattle.std.proofs.lemmas.Bool.{cases_eq, cases_lt, eq-eqb, ne_eqb}
use Rattle.std.proofs.lemmas.List.Sums.{sum_by-cons}
use Rattle.hose_graph.specs.Hose.{total_rate}
use Rattle.hose_graph.specs.Network.{Network}
use Rattle.hose_graph.specs.declared.topology.Step.{Step}
use Rattle.hose_law.specs.Book.{amount_on}
use Rattle.hose_law.specs.Tree.{Grow, IsOn, step_links}
use Rattle.hose_law.specs.Walk.{cost_of, IsIn}
use Rattle.hose_law.proofs.Apart.{alike_sums}
use Rattle.hose_law.proofs.Distances.{HasWalk, costing, costs_both, costs_with, link_costs, none_costs}
use Rattle.hose_law.proofs.Trees.{rate_up, moved, moved_node, moved_total, moved_beyond, moved_at_old, moved_at_others, last_beyond, link_is_new, on_before, on_still, on_new, amount_on-le, step_amounts-le}
use Rattle.hose_law.proofs.Walks.{joins_turned}
use Rattle.hose_graph.proofs.Members.{contains_first, contains_rest, none_in_empty}

module _ (network : Network) where
  -- what the way between two nodes costs on the tree
  abbrev pub between : List Step → ℕ → ℕ → ℕ
  between [] u v = 0
  between (step ∷ earlier) u v =
      cond (eqb u step.new)
      (cond (eqb v step.new) 0 (cost_of network step.link + between earlier step.old v))
      (cond (eqb v step.new) (cost_of network step.link + between earlier u step.old) (between earlier u v))

  itself : (steps : List Step) (u : ℕ) → between steps u u ≡ 0
  itself [] u = refl
  itself (step ∷ earlier) u = at (eqb u step.new) (itself earlier u)
    where
      at : (leads : Bool) → between earlier u u ≡ 0
          → cond leads (cond leads 0 (cost_of network step.link + between earlier step.old u)) (cond leads (cost_of network step.link + between earlier u step.old) (between earlier u u)) ≡ 0
      at true before = refl
      at false before = before

  from_new : (step : Step) (earlier : List Step) (v : ℕ) → between (step ∷ earlier) step.new v ≡ cond (eqb v step.new) 0 (cost_of network step.link + between earlier step.old v)
  from_new step earlier v = rw (eq-eqb step.new step.new refl) refl

  from_other : (step : Step) (earlier : List Step) (u v : ℕ) → u ≢ step.new
      → between (step ∷ earlier) u v ≡ cond (eqb v step.new) (cost_of network step.link + between earlier u step.old) (between earlier u v)
  from_other step earlier u v differ = rw (ne_eqb u step.new differ) refl

  -- the sum of the endpoints' rates, each times what its way from a node costs
  abbrev pub seen_from : List Step → ℕ → List (ℕ × ℕ) → ℕ
  seen_from steps u ends = sum_by (λ (end : ℕ × ℕ). end.1 * between steps u end.0) ends

  seen_without_steps : (u : ℕ) (ends : List (ℕ × ℕ)) → seen_from [] u ends ≡ 0
  seen_without_steps u [] = refl
  seen_without_steps u (end ∷ ends) = omega (arith, sum_by-cons (λ (e : ℕ × ℕ). e.1 * between [] u e.0) end ends, seen_without_steps u ends)

  -- seen from the last step's new node, all but what is there is farther by its link than from its old node
  seen_from_new : (step : Step) (earlier : List Step) (ends : List (ℕ × ℕ))
      → seen_from (step ∷ earlier) step.new ends + cost_of network step.link * amount_on step.new ends ≡ cost_of network step.link * total_rate ends + seen_from earlier step.old (moved step ends)
  seen_from_new step earlier [] = omega arith
  seen_from_new step earlier (end ∷ ends) =
      let c = cost_of network step.link in
      let before = sum_by-cons (λ (e : ℕ × ℕ). e.1 * between (step ∷ earlier) step.new e.0) end ends in
      let after = sum_by-cons (λ (e : ℕ × ℕ). e.1 * between earlier step.old e.0) (moved_node step end.0, end.1) (moved step ends) in
      let amounts = ap (λ (n : ℕ). c * n) (sum_by-cons (λ (e : ℕ × ℕ). cond (eqb e.0 step.new) e.1 0) end ends) in
      let totals = ap (λ (n : ℕ). c * n) (sum_by-cons (λ (e : ℕ × ℕ). e.1) end ends) in
      let amount_split = mul-add c (cond (eqb end.0 step.new) end.1 0) (amount_on step.new ends) in
      let total_split = mul-add c end.1 (total_rate ends) in
      let way = ap (λ (n : ℕ). end.1 * n) (from_new step earlier end.0) in
      omega (arith, before, after, amounts, totals, amount_split, total_split, way, here (eqb end.0 step.new) end.0 end.1 (itself earlier step.old), seen_from_new step earlier ends)
    where
      here : (leads : Bool) (v rate : ℕ) → between earlier step.old step.old ≡ 0
          → rate * cond leads 0 (cost_of network step.link + between earlier step.old v) + cost_of network step.link * cond leads rate 0
          ≡ cost_of network step.link * rate + rate * between earlier step.old (cond leads step.old v)
      here true v rate none = let nothing = ap (λ (n : ℕ). rate * n) none in omega (arith, nothing)
      here false v rate none = grind arith

  -- seen from another node, what is at the new node is farther by the link than its old node
  seen_from_other : (step : Step) (earlier : List Step) (u : ℕ) (ends : List (ℕ × ℕ)) → u ≢ step.new
      → seen_from (step ∷ earlier) u ends ≡ cost_of network step.link * amount_on step.new ends + seen_from earlier u (moved step ends)
  seen_from_other step earlier u [] differ = omega arith
  seen_from_other step earlier u (end ∷ ends) differ =
      let c = cost_of network step.link in
      let before = sum_by-cons (λ (e : ℕ × ℕ). e.1 * between (step ∷ earlier) u e.0) end ends in
      let after = sum_by-cons (λ (e : ℕ × ℕ). e.1 * between earlier u e.0) (moved_node step end.0, end.1) (moved step ends) in
      let amounts = ap (λ (n : ℕ). c * n) (sum_by-cons (λ (e : ℕ × ℕ). cond (eqb e.0 step.new) e.1 0) end ends) in
      let split = mul-add c (cond (eqb end.0 step.new) end.1 0) (amount_on step.new ends) in
      let way = ap (λ (n : ℕ). end.1 * n) (from_other step earlier u end.0 differ) in
      omega (arith, before, after, amounts, split, way, here (eqb end.0 step.new) end.0 end.1, seen_from_other step earlier u ends differ)
    where
      here : (leads : Bool) (v rate : ℕ)
          → rate * cond leads (cost_of network step.link + between earlier u step.old) (between earlier u v)
          ≡ cost_of network step.link * cond leads rate 0 + rate * between earlier u (cond leads step.old v)
      here true v rate = grind arith
      here false v rate = grind arith

  -- what the smaller sides' rate sums cost, step by step
  abbrev pub sides_cost : List Step → List (ℕ × ℕ) → ℕ
  sides_cost [] ends = 0
  sides_cost (step ∷ earlier) ends =
      cost_of network step.link * min (amount_on step.new ends) (total_rate ends - amount_on step.new ends) + sides_cost earlier (moved step ends)

  -- From a node with half of the rates or more, all endpoints are seen at no more than that.
  seen_from_heavy : (start : ℕ) (steps : List Step) (ends : List (ℕ × ℕ)) (u : ℕ) → Grow network start steps → IsOn start steps u → total_rate ends ≤ 2 * amount_on u ends
      → seen_from steps u ends ≤ sides_cost steps ends
  seen_from_heavy start [] ends u grows on heavy = omega (arith, seen_without_steps u ends)
  seen_from_heavy start (step ∷ earlier) ends u grows on heavy =
      elim (cases_eq u step.new) [
        | inl same ↦
            let total = moved_total step ends in
            let at_old = moved_at_old step ends (λ loop. grows.2 (subst (IsOn start earlier) loop grows.1)) in
            let here = ap (λ (n : ℕ). amount_on n ends) same in
            let rest = seen_from_heavy start earlier (moved step ends) step.old grows.0 grows.1 (omega (arith, total, at_old, here, heavy)) in
            let a = amount_on step.new ends in
            let less = amount_on-le step.new ends in
            let smaller : min a (total_rate ends - a) ≡ total_rate ends - a = omega (arith, here, heavy) in
            let cost = ap (λ (n : ℕ). cost_of network step.link * n) smaller in
            let whole : total_rate ends ≡ a + (total_rate ends - a) = omega (arith, less) in
            let split = ap (λ (n : ℕ). cost_of network step.link * n) whole ∙ mul-add (cost_of network step.link) a (total_rate ends - a) in
            let seen = ap (λ (n : ℕ). seen_from (step ∷ earlier) n ends) same in
            omega (arith, rest, cost, split, seen, seen_from_new step earlier ends)
        | inr differ ↦
            let total = moved_total step ends in
            let keeps = amount_stays step ends u differ (λ loop. grows.2 (subst (IsOn start earlier) loop grows.1)) in
            let before = before_on (on_before start step earlier u on) differ in
            let rest = seen_from_heavy start earlier (moved step ends) u grows.0 before (omega (arith, total, keeps, heavy)) in
            let both = step_amounts-le (record { link = 0; old = u; new = step.new }) ends differ in
            let smaller : min (amount_on step.new ends) (total_rate ends - amount_on step.new ends) ≡ amount_on step.new ends = omega (arith, both, heavy) in
            let cost = ap (λ (n : ℕ). cost_of network step.link * n) smaller in
            omega (arith, rest, cost, seen_from_other step earlier u ends differ)
      ]
    where
      before_on : ((u ≡ step.new) ⊎ IsOn start earlier u) → u ≢ step.new → IsOn start earlier u
      before_on (inl same) differ = absurd (differ same)
      before_on (inr before) differ = before

      amount_stays : (step : Step) (ends : List (ℕ × ℕ)) (u : ℕ) → u ≢ step.new → step.old ≢ step.new → amount_on u ends ≤ amount_on u (moved step ends)
      amount_stays step ends u differ apart = elim (cases_eq u step.old) [
        | inl same ↦
            let old = moved_at_old step ends apart in
            let here = ap (λ (n : ℕ). amount_on n ends) same in
            let there = ap (λ (n : ℕ). amount_on n (moved step ends)) same in
            omega (arith, old, here, there)
        | inr other ↦ omega (arith, moved_at_others step ends u other differ)
      ]

  -- a node of the tree from which all endpoints are seen at no more than what the smaller sides cost
  pub record HasGoodRoot (start : ℕ) (steps : List Step) (ends : List (ℕ × ℕ)) : Type 0 where
    pub root : ℕ
    pub on : IsOn start steps root
    pub seen : seen_from steps root ends ≤ sides_cost steps ends

  -- Where the last step's new node has less than half of the rates, a root that is good for the smaller tree is good; else that node is.
  pub good_root : (start : ℕ) (steps : List Step) (ends : List (ℕ × ℕ)) → Grow network start steps → HasGoodRoot start steps ends
  good_root start [] ends grows = record { root = start; on = inl refl; seen = omega (arith, seen_without_steps start ends) }
  good_root start (step ∷ earlier) ends grows =
      at (cases_lt (2 * amount_on step.new ends) (total_rate ends)) (good_root start earlier (moved step ends) grows.0)
    where
      at : ((2 * amount_on step.new ends < total_rate ends) ⊎ (total_rate ends ≤ 2 * amount_on step.new ends)) → HasGoodRoot start earlier (moved step ends) → HasGoodRoot start (step ∷ earlier) ends
      at (inr heavy) good = record {
        root = step.new;
        on = on_new start step earlier;
        seen = seen_from_heavy start (step ∷ earlier) ends step.new grows (on_new start step earlier) heavy;
      }
      at (inl light) good =
          let differ : good.root ≢ step.new = λ same. grows.2 (subst (IsOn start earlier) same good.on) in
          let smaller : min (amount_on step.new ends) (total_rate ends - amount_on step.new ends) ≡ amount_on step.new ends = omega (arith, light) in
          let cost = ap (λ (n : ℕ). cost_of network step.link * n) smaller in
          record {
            root = good.root;
            on = on_still start step earlier good.root good.on;
            seen = omega (arith, good.seen, cost, seen_from_other step earlier good.root ends differ);
          }

  -- what the smaller side's rate sum of a link costs
  abbrev pub side_cost : List Step → List (ℕ × ℕ) → ℕ → ℕ
  side_cost steps ends l = cost_of network l * min (rate_up steps ends l) (total_rate ends - rate_up steps ends l)

  -- that sum is the one over the links
  pub sides_cost_is : (start : ℕ) (steps : List Step) (ends : List (ℕ × ℕ)) → Grow network start steps → sides_cost steps ends ≡ sum_by (side_cost steps ends) (step_links steps)
  sides_cost_is start [] ends grows = refl
  sides_cost_is start (step ∷ earlier) ends grows =
      let new_link = link_is_new network start step earlier grows in
      let first = sum_by-cons (side_cost (step ∷ earlier) ends) step.link (step_links earlier) in
      let last = ap (λ (n : ℕ). cost_of network step.link * min n (total_rate ends - n)) (last_beyond step earlier ends new_link) in
      let others = alike_sums (side_cost (step ∷ earlier) ends) (side_cost earlier (moved step ends)) (step_links earlier)
      (λ l there. same_cost l (moved_beyond step earlier ends l (λ same. new_link (subst (Contains (step_links earlier)) (sym same) there))) (moved_total step ends)) in
      omega (arith, first, last, others, sides_cost_is start earlier (moved step ends) grows.0)
    where
      same_cost : (l : ℕ) {a b t u : ℕ} → a ≡ b → u ≡ t → cost_of network l * min a (t - a) ≡ cost_of network l * min b (u - b)
      same_cost l one other = rw (one, other) refl

  module _ (set : List Bool) where
    -- over the set there is a walk that costs what the way on the tree does
    pub way_walks : (start : ℕ) (steps : List Step) → Grow network start steps → ((l : ℕ) → Contains (step_links steps) l → IsIn set l)
        → (u v : ℕ) → IsOn start steps u → IsOn start steps v → HasWalk network set u v (between steps u v)
    way_walks start [] grows all u v (inl one) (inl other) = subst (λ (n : ℕ). HasWalk network set u n 0) (one ∙ sym other) (none_costs network set u)
    way_walks start [] grows all u v (inl one) (inr led) = absurd (none_in_empty v led)
    way_walks start [] grows all u v (inr led) other = absurd (none_in_empty u led)
    way_walks start (step ∷ earlier) grows all u v u_on v_on =
        at (on_before start step earlier u u_on) (on_before start step earlier v v_on)
        (way_walks start earlier grows.0 (λ l there. all l (contains_rest step.link l (step_links earlier) there)))
      where
        here : IsIn set step.link
        here = all step.link (contains_first step.link step.link (step_links earlier) refl)

        apart : (w : ℕ) → IsOn start earlier w → w ≢ step.new
        apart w on same = grows.2 (subst (IsOn start earlier) same on)

        at : ((u ≡ step.new) ⊎ IsOn start earlier u) → ((v ≡ step.new) ⊎ IsOn start earlier v)
            → ((x y : ℕ) → IsOn start earlier x → IsOn start earlier y → HasWalk network set x y (between earlier x y))
            → HasWalk network set u v (between (step ∷ earlier) u v)
        at (inl one) (inl other) walks =
            costing network set u v (rw (eq-eqb u step.new one, eq-eqb v step.new other) refl) (subst (λ (n : ℕ). HasWalk network set u n 0) (one ∙ sym other) (none_costs network set u))
        at (inl one) (inr v_before) walks =
            costing network set u v (rw (eq-eqb u step.new one, ne_eqb v step.new (apart v v_before)) refl)
            (subst (λ (n : ℕ). HasWalk network set n v (cost_of network step.link + between earlier step.old v)) (sym one)
            (costs_with network set step.link step.new step.old v (between earlier step.old v) here (joins_turned network step.link step.old step.new grows.3) (walks step.old v grows.1 v_before)))
        at (inr u_before) (inl other) walks =
            costing network set u v (rw (ne_eqb u step.new (apart u u_before), eq-eqb v step.new other) (omega arith))
            (subst (λ (n : ℕ). HasWalk network set u n (between earlier u step.old + cost_of network step.link)) (sym other)
            (costs_both network set u step.old step.new (between earlier u step.old) (cost_of network step.link) (walks u step.old u_before grows.1) (link_costs network set step.link step.old step.new here grows.3)))
        at (inr u_before) (inr v_before) walks =
            costing network set u v (rw (ne_eqb u step.new (apart u u_before), ne_eqb v step.new (apart v v_before)) refl) (walks u v u_before v_before)
