-- The plan of a network costs no more there than the plan by other costs does.
use Rattle.std.proofs.Common.{◌≡◌, ◌∙◌, ℕ, ◌+◌, ◌*◌, ◌≤◌, Bool, List, [], ◌∷◌, length, reverse, sym, ap, subst, arith, mul-le-mul, le_refl}
use Rattle.std.specs.List.{sum_by}
use Rattle.std.proofs.lemmas.List.{length-map}
use Rattle.std.proofs.lemmas.List.Sorted.{IsPermutation-map, IsPermutation-reverse, sum_by-IsPermutation}
use Rattle.std.proofs.lemmas.List.Sums.{sum_by-cons}
use Rattle.std.proofs.lemmas.Slice.Zip.{firsts-zip}
use Rattle.hose_graph.specs.Ascending.{firsts}
use Rattle.hose_graph.specs.Network.{Network, IsNetwork}
use Rattle.hose_graph.specs.declared.topology.Step.{Step}
use Rattle.hose_law.specs.Carries.{StandFor, amounts_on}
use Rattle.hose_law.specs.Plan.{plan_cost}
use Rattle.hose_law.specs.Tree.{Growth, IsReservation, IsTree, IsTreeOver, links_of, smaller_side, step_links}
use Rattle.hose_law.specs.Walk.{all_links, cost_of}
use Rattle.hose_law.proofs.Apart.{alike_sums, apart_links, apart_rising, same_sums, sum_of_map}
use Rattle.hose_law.proofs.Carrying.{reserved_carry}
use Rattle.hose_law.proofs.Cheapest.{canonical_cheapest}
use Rattle.hose_law.proofs.Reservations.{reserved_in_tree, tree_in_reserved}
use Rattle.hose_law.proofs.TightWays.{from_reverse, in_reverse}
use Rattle.hose_price.specs.Pricing.{IsFirstPlan}
use Rattle.hose_price.proofs.Alike.{AreAlike, grow_alike}

-- What a hose reserves on a tree costs what the amounts that its pairs stand for do, whatever each link costs.
module _ (network : Network) (tree : Growth) (is_tree : IsTree network tree) (hose pairs : List (ℕ × ℕ)) (amounts : List ℕ) (reserves : IsReservation tree hose pairs)
    (stand : StandFor tree amounts pairs) (places : length amounts ≡ length tree.steps) (cost : ℕ → ℕ) where
  pub standing_cost : sum_by (λ (pair : ℕ × ℕ). cost pair.0 * pair.1) pairs ≡ sum_by (λ (pair : ℕ × ℕ). cost pair.0 * pair.1) (amounts_on tree amounts)
  standing_cost =
      let steps : List Step = reverse tree.steps in
      let link : Step → ℕ = λ step. step.link in
      let first : ℕ × ℕ → ℕ = λ pair. pair.0 in
      let side : ℕ → ℕ = λ l. cost l * smaller_side tree hose l in
      let term : ℕ × ℕ → ℕ = λ pair. cost pair.0 * pair.1 in
      let by_link : ℕ × ℕ → ℕ = λ pair. side pair.0 in
      let on = amounts_on tree amounts in
      let mine = alike_sums term by_link pairs (λ pair there. ap (λ (n : ℕ). cost pair.0 * n) ((reserves.each pair.0 pair.1).0 there).1) in
      let theirs = alike_sums term by_link on (λ pair there. ap (λ (n : ℕ). cost pair.0 * n) ((reserves.each pair.0 pair.1).0 ((stand.each pair).1 there)).1) in
      let links : firsts on ≡ links_of tree = firsts-zip (links_of tree) amounts (places ∙ sym (length-map tree.steps link)) in
      let turned = sum_by-IsPermutation side (links_of tree) (step_links steps) (IsPermutation-map link tree.steps steps (IsPermutation-reverse tree.steps)) in
      let same = same_sums side (firsts pairs) (step_links steps) (apart_rising (firsts pairs) reserves.ascending) (apart_links network tree.start steps is_tree)
      (λ l there. in_reverse link tree.steps l (reserved_in_tree tree hose pairs reserves l there))
      (λ l there. tree_in_reserved tree hose pairs reserves l (from_reverse link tree.steps l there)) in
      omega (arith, mine, theirs, sum_of_map side first pairs, sum_of_map side first on, ap (sum_by side) links, turned, same)

-- No plan by other costs is cheaper than the plan.
pub least_of_all : (network other : Network) → IsNetwork network → AreAlike other network → (hose plan rival : List (ℕ × ℕ)) → IsFirstPlan network hose plan → IsFirstPlan other hose rival
    → plan_cost network plan ≤ plan_cost network rival
least_of_all network other is are hose plan rival first last =
    let tree = last.tree in
    let carried = reserved_carry tree hose rival last.is_canonical.joins last.reserves in
    let over : IsTreeOver (all_links network) tree = subst (λ (set : List Bool). IsTreeOver set tree) are.links last.is_canonical.over in
    let grown = grow_alike other network are tree.start (reverse tree.steps) last.is_canonical.is_tree in
    let least = (canonical_cheapest network is (all_links network) hose plan first).least tree carried.0 grown over carried.2 in
    omega (arith, least, standing_cost network tree grown hose rival carried.0 last.reserves carried.1 carried.2.places (cost_of network))

-- what costs a multiple at least for each link costs it in all
pub multiple-le : (m : ℕ) (f g : ℕ → ℕ) → ((l : ℕ) → f l * m ≤ g l) → (pairs : List (ℕ × ℕ))
    → sum_by (λ (pair : ℕ × ℕ). f pair.0 * pair.1) pairs * m ≤ sum_by (λ (pair : ℕ × ℕ). g pair.0 * pair.1) pairs
multiple-le m f g each [] = omega arith
multiple-le m f g each (pair ∷ pairs) =
    let few : ℕ = sum_by (λ (p : ℕ × ℕ). f p.0 * p.1) pairs in
    let here = mul-le-mul (each pair.0) (le_refl pair.1) in
    let rest = multiple-le m f g each pairs in
    let heads = ap (λ (n : ℕ). n * m) (sum_by-cons (λ (p : ℕ × ℕ). f p.0 * p.1) pair pairs) in
    let split = over_sum (f pair.0) pair.1 few m in
    omega (arith, here, rest, heads, split, sum_by-cons (λ (p : ℕ × ℕ). g p.0 * p.1) pair pairs)
  where
    over_sum : (c a n m : ℕ) → (c * a + n) * m ≡ c * m * a + n * m
    over_sum c a n m = grind arith

-- what costs a base at most, and an amount for each unit of another cost, for each link, does so in all
pub most-le : (base per : ℕ) (f g : ℕ → ℕ) → ((l : ℕ) → f l ≤ base + per * g l) → (pairs : List (ℕ × ℕ))
    → sum_by (λ (pair : ℕ × ℕ). f pair.0 * pair.1) pairs ≤ base * sum_by (λ (pair : ℕ × ℕ). pair.1) pairs + per * sum_by (λ (pair : ℕ × ℕ). g pair.0 * pair.1) pairs
most-le base per f g each [] = omega arith
most-le base per f g each (pair ∷ pairs) =
    let all : ℕ = sum_by (λ (p : ℕ × ℕ). p.1) pairs in
    let far : ℕ = sum_by (λ (p : ℕ × ℕ). g p.0 * p.1) pairs in
    let here = mul-le-mul (each pair.0) (le_refl pair.1) in
    let rest = most-le base per f g each pairs in
    let amounts = ap (λ (n : ℕ). base * n) (sum_by-cons (λ (p : ℕ × ℕ). p.1) pair pairs) in
    let costs = ap (λ (n : ℕ). per * n) (sum_by-cons (λ (p : ℕ × ℕ). g p.0 * p.1) pair pairs) in
    let split = over_sums base per (g pair.0) pair.1 all far in
    omega (arith, here, rest, amounts, costs, split, sum_by-cons (λ (p : ℕ × ℕ). f p.0 * p.1) pair pairs)
  where
    over_sums : (b p c a n m : ℕ) → b * (a + n) + p * (c * a + m) ≡ (b + p * c) * a + (b * n + p * m)
    over_sums b p c a n m = grind arith
