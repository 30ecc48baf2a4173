-- Counting twice: over its links or over its endpoints, a tree's rates times their costs add up to the same.
use Rattle.std.proofs.Common.{◌≡◌, ℕ, ◌+◌, ◌*◌, Bool, true, false, List, [], ◌∷◌, cond, eqb, refl, sym, ap, subst, arith}
use Rattle.std.specs.List.{Contains, sum_by}
use Rattle.std.proofs.Math.Nat.{mul-add}
use Rattle.std.proofs.lemmas.List.Sums.{sum_by-cons}
use Rattle.hose_graph.specs.Network.{Network}
use Rattle.hose_graph.specs.declared.topology.Step.{Step}
use Rattle.hose_law.specs.Book.{amount_on}
use Rattle.hose_law.specs.Tree.{Grow, links_up, step_links}
use Rattle.hose_law.specs.Walk.{cost_of, walk_cost}
use Rattle.hose_law.proofs.Apart.{alike_sums}
use Rattle.hose_law.proofs.Trees.{rate_up, moved, moved_node, moved_beyond, last_beyond, link_is_new}

module _ (network : Network) where
  -- what the way up of a node costs
  abbrev pub way_cost : List Step → ℕ → ℕ
  way_cost steps v = walk_cost network (links_up steps v)

  -- the sum of the endpoints' rates, each times what its way up costs
  abbrev pub ways_cost : List Step → List (ℕ × ℕ) → ℕ
  ways_cost steps ends = sum_by (λ (end : ℕ × ℕ). end.1 * way_cost steps end.0) ends

  -- the sum of the links' costs, each times the rate sum beyond the link
  abbrev pub links_cost : List Step → List (ℕ × ℕ) → ℕ
  links_cost steps ends = sum_by (λ (l : ℕ). cost_of network l * rate_up steps ends l) (step_links steps)

  -- without a step no way costs anything
  no_ways : (ends : List (ℕ × ℕ)) → ways_cost [] ends ≡ 0
  no_ways [] = refl
  no_ways (end ∷ ends) = omega (arith, sum_by-cons (λ (e : ℕ × ℕ). e.1 * way_cost [] e.0) end ends, no_ways ends)

  -- a step more costs its link's cost for each rate at its new node
  ways_moved : (step : Step) (earlier : List Step) (ends : List (ℕ × ℕ))
      → ways_cost (step ∷ earlier) ends ≡ cost_of network step.link * amount_on step.new ends + ways_cost earlier (moved step ends)
  ways_moved step earlier [] = omega arith
  ways_moved step earlier (end ∷ ends) =
      let c = cost_of network step.link in
      let before = sum_by-cons (λ (e : ℕ × ℕ). e.1 * way_cost (step ∷ earlier) e.0) end ends in
      let after = sum_by-cons (λ (e : ℕ × ℕ). e.1 * way_cost earlier e.0) (moved_node step end.0, end.1) (moved step ends) in
      let amounts = ap (λ (n : ℕ). c * n) (sum_by-cons (λ (e : ℕ × ℕ). cond (eqb e.0 step.new) e.1 0) end ends) in
      let split = mul-add c (cond (eqb end.0 step.new) end.1 0) (amount_on step.new ends) in
      omega (arith, before, after, amounts, split, here (eqb end.0 step.new) end.0 end.1, ways_moved step earlier ends)
    where
      here : (leads : Bool) (v rate : ℕ)
          → rate * walk_cost network (cond leads (step.link ∷ links_up earlier step.old) (links_up earlier v))
          ≡ cost_of network step.link * cond leads rate 0 + rate * walk_cost network (links_up earlier (cond leads step.old v))
      here true v rate = grind arith
      here false v rate = grind arith

  pub counted_twice : (start : ℕ) (steps : List Step) (ends : List (ℕ × ℕ)) → Grow network start steps → links_cost steps ends ≡ ways_cost steps ends
  counted_twice start [] ends grows = sym (no_ways ends)
  counted_twice start (step ∷ earlier) ends grows =
      let new_link = link_is_new network start step earlier grows in
      let first = sum_by-cons (λ (l : ℕ). cost_of network l * rate_up (step ∷ earlier) ends l) step.link (step_links earlier) in
      let last = ap (λ (n : ℕ). cost_of network step.link * n) (last_beyond step earlier ends new_link) in
      let others = alike_sums (λ (l : ℕ). cost_of network l * rate_up (step ∷ earlier) ends l) (λ (l : ℕ). cost_of network l * rate_up earlier (moved step ends) l) (step_links earlier)
      (λ l there. ap (λ (n : ℕ). cost_of network l * n) (moved_beyond step earlier ends l (λ same. new_link (subst (Contains (step_links earlier)) (sym same) there)))) in
      omega (arith, first, last, others, counted_twice start earlier (moved step ends) grows.0, ways_moved step earlier ends)
