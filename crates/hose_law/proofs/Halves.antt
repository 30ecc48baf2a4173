-- Beyond each link of a best root's tree lies at most half of the rates: else the node beyond it would weigh less.
use Rattle.std.proofs.Common.{◌≡◌, ◌≢◌, ◌∙◌, ℕ, zero, suc, ◌+◌, ◌-◌, ◌*◌, ◌<◌, ◌≤◌, Bool, true, false, List, [], ◌∷◌, cond, eqb, refl, sym, ap, subst, inl, inr, arith, mul-add, mul-le-mul, mul_comm, mul_left_comm, le_refl}
use Rattle.std.specs.List.{Contains, sum_by}
use Rattle.std.proofs.lemmas.Bool.{cases_lt, cases_eq, eq-eqb, ne_eqb, false≢true}
use Rattle.std.proofs.lemmas.List.Sums.{sum_by-cons}
use Rattle.hose_graph.specs.Hose.{total_rate}
use Rattle.hose_graph.specs.Network.{Network, IsNetwork}
use Rattle.hose_graph.specs.declared.topology.Step.{Step}
use Rattle.hose_law.specs.CanonicalPlan.{IsWeight, IsRoot}
use Rattle.hose_law.specs.Tree.{IsOn, Grow, links_up, goes_along, step_links, new_nodes}
use Rattle.hose_law.specs.Walk.{cost_of, IsIn, IsWalk, walk_cost, IsDistance}
use Rattle.hose_law.proofs.Counting.{way_cost, ways_cost}
use Rattle.hose_law.proofs.Distances.{HasWalk, from_walk, from_distance, costing, costs_both, costs_back, link_costs, none_costs, distance_from, distance_unique}
use Rattle.hose_law.proofs.Joined.{joins_costs}
use Rattle.hose_law.proofs.Trees.{rate_up, off_way, on_is_node, link_is_new, start_is_not_new}
use Rattle.hose_graph.proofs.Members.{contains_first, contains_rest, first_or_rest, none_in_empty}

-- the new node of the step of a link
abbrev pub new_of : List Step → ℕ → ℕ
new_of [] l = 0
new_of (step ∷ earlier) l = cond (eqb step.link l) step.new (new_of earlier l)

pub new_is_new : (steps : List Step) (l : ℕ) → Contains (step_links steps) l → Contains (new_nodes steps) (new_of steps l)
new_is_new [] l there = absurd (none_in_empty l there)
new_is_new (step ∷ earlier) l there = elim (cases_eq step.link l) [
  | inl same ↦ rw (eq-eqb step.link l same) (contains_first step.new step.new (new_nodes earlier) refl)
  | inr other ↦ rw (ne_eqb step.link l other) (elim (first_or_rest step.link l (step_links earlier) there) [
    | inl same ↦ absurd (other same)
    | inr behind ↦ contains_rest step.new (new_of earlier l) (new_nodes earlier) (new_is_new earlier l behind)
  ])
]

module _ (network : Network) (set : List Bool) where
  -- Where the way up of a node goes along a link, it goes through the new node of that link's step.
  pub record GoesThrough (steps : List Step) (l v : ℕ) : Type 0 where
    pub cost : ℕ
    pub goes : HasWalk network set (new_of steps l) v cost
    pub costs : cost + way_cost network steps (new_of steps l) ≡ way_cost network steps v

  abbrev pub AllIn : List Step → Type 0
  AllIn steps = (l : ℕ) → Contains (step_links steps) l → IsIn set l

  -- the way up of another node than the last step's new one is as before
  way_before : (step : Step) (earlier : List Step) (v : ℕ) → v ≢ step.new → links_up (step ∷ earlier) v ≡ links_up earlier v
  way_before step earlier v differ = rw (ne_eqb v step.new differ) refl

  -- the way up of the last step's new node is its link and the way up of its old one
  way_last : (step : Step) (earlier : List Step) (v : ℕ) → v ≡ step.new → links_up (step ∷ earlier) v ≡ step.link ∷ links_up earlier step.old
  way_last step earlier v same = rw (eq-eqb v step.new same) refl

  -- a way whose first link is another goes along a link where the rest does
  along_rest : (m : ℕ) (way : List ℕ) (l : ℕ) → m ≢ l → goes_along (m ∷ way) l ≡ goes_along way l
  along_rest m way l differ = rw (ne_eqb m l differ) refl

  -- through a node that is known to be that new node
  through_node : (steps : List Step) (l v n c : ℕ) → new_of steps l ≡ n → HasWalk network set n v c
      → c + way_cost network steps n ≡ way_cost network steps v → GoesThrough steps l v
  through_node steps l v n c same goes costs = record {
    cost = c;
    goes = subst (λ (k : ℕ). HasWalk network set k v c) (sym same) goes;
    costs = omega (arith, costs, ap (way_cost network steps) same);
  }

  -- the link is the last step's
  through_last : (start : ℕ) (step : Step) (earlier : List Step) → Grow network start (step ∷ earlier) → (l : ℕ) → step.link ≡ l
      → (v : ℕ) → goes_along (links_up (step ∷ earlier) v) l ≡ true → GoesThrough (step ∷ earlier) l v
  through_last start step earlier grows l same v along = elim (cases_eq v step.new) [
    | inl is_new ↦ through_node (step ∷ earlier) l v step.new 0 (rw (eq-eqb step.link l same) refl)
        (subst (λ (k : ℕ). HasWalk network set step.new k 0) (sym is_new) (none_costs network set step.new))
        (omega (arith, ap (way_cost network (step ∷ earlier)) is_new))
    | inr differ ↦
        let before : goes_along (links_up earlier v) l ≡ true = sym (ap (λ (way : List ℕ). goes_along way l) (way_before step earlier v differ)) ∙ along in
        let off = off_way earlier v l (λ there. link_is_new network start step earlier grows (subst (Contains (step_links earlier)) (sym same) there)) in
        absurd (false≢true (sym off ∙ before))
  ]

  -- the link is an earlier step's, and the way is a longer one of a way that goes through its new node
  through_earlier : (start : ℕ) (step : Step) (earlier : List Step) → Grow network start (step ∷ earlier) → IsIn set step.link
      → (l : ℕ) → step.link ≢ l → Contains (step_links earlier) l
      → ((u : ℕ) → goes_along (links_up earlier u) l ≡ true → GoesThrough earlier l u)
      → (v : ℕ) → goes_along (links_up (step ∷ earlier) v) l ≡ true → GoesThrough (step ∷ earlier) l v
  through_earlier start step earlier grows there l other behind goes v along =
      elim (cases_eq v step.new) [
        | inl is_new ↦
            let way = way_last step earlier v is_new in
            let from_old : goes_along (links_up earlier step.old) l ≡ true =
            sym (along_rest step.link (links_up earlier step.old) l other) ∙ sym (ap (λ (w : List ℕ). goes_along w l) way) ∙ along in
            let old = goes step.old from_old in
            let on : HasWalk network set step.old v (cost_of network step.link) =
            subst (λ (k : ℕ). HasWalk network set step.old k (cost_of network step.link)) (sym is_new) (link_costs network set step.link step.old step.new there grows.3) in
            through_node (step ∷ earlier) l v n (old.cost + cost_of network step.link) same
            (costs_both network set n step.old v old.cost (cost_of network step.link) old.goes on)
            (omega (arith, old.costs, ap (walk_cost network) way, ap (walk_cost network) node_way))
        | inr differ ↦
            let way = way_before step earlier v differ in
            let old = goes v (sym (ap (λ (w : List ℕ). goes_along w l) way) ∙ along) in
            through_node (step ∷ earlier) l v n old.cost same old.goes (omega (arith, old.costs, ap (walk_cost network) way, ap (walk_cost network) node_way))
      ]
    where
      n : ℕ
      n = new_of earlier l

      same : new_of (step ∷ earlier) l ≡ new_of earlier l
      same = rw (ne_eqb step.link l other) refl

      node_way : links_up (step ∷ earlier) (new_of earlier l) ≡ links_up earlier (new_of earlier l)
      node_way = way_before step earlier (new_of earlier l) (λ is_new. grows.2 (inr (subst (Contains (new_nodes earlier)) is_new (new_is_new earlier l behind))))

  pub goes_through : (start : ℕ) (steps : List Step) → Grow network start steps → AllIn steps → (l : ℕ) → Contains (step_links steps) l
      → (v : ℕ) → goes_along (links_up steps v) l ≡ true → GoesThrough steps l v
  goes_through start [] grows all l there v along = absurd (none_in_empty l there)
  goes_through start (step ∷ earlier) grows all l there v along = elim (cases_eq step.link l) [
    | inl same ↦ through_last start step earlier grows l same v along
    | inr other ↦ elim (first_or_rest step.link l (step_links earlier) there) [
      | inl same ↦ absurd (other same)
      | inr behind ↦ through_earlier start step earlier grows (all step.link (contains_first step.link step.link (step_links earlier) refl)) l other behind
          (λ u goes. goes_through start earlier grows.0 (λ m in_earlier. all m (contains_rest step.link m (step_links earlier) in_earlier)) l behind u goes) v along
    ]
  ]

  -- Where a walk costs so much, there cannot but be a distance, which is no more.
  some_below : (bound u v c : ℕ) → c < bound → HasWalk network set u v c → ((d : ℕ) → d ≤ c → IsDistance network set u v d → ⊥) → ⊥
  some_below zero u v c below has none = omega (arith, below)
  some_below (suc bound) u v c below has none =
      none c (omega arith) (distance_from network set u v c has (λ other along. elim (cases_lt (walk_cost network other) c) [
        | inl less ↦ absurd (some_below bound u v (walk_cost network other) (omega (arith, below, less)) (from_walk network set u v other along)
            (λ d small is. none d (omega (arith, small, less)) is))
        | inr least ↦ omega (arith, least)
      ]))

  some_distance : (u v c : ℕ) → HasWalk network set u v c → ((d : ℕ) → d ≤ c → IsDistance network set u v d → ⊥) → ⊥
  some_distance u v c has none = some_below (c + 1) u v c (omega arith) has none

  -- nor can there but be a weight, where walks lead to all endpoints
  pub some_weight : (root : ℕ) (far : ℕ → ℕ) (ends : List (ℕ × ℕ)) → ((end : ℕ × ℕ) → Contains ends end → HasWalk network set root end.0 (far end.0))
      → ((weight : ℕ) → weight ≤ sum_by (λ (end : ℕ × ℕ). end.1 * far end.0) ends → IsWeight network set root ends weight → ⊥) → ⊥
  some_weight root far [] walks none = none 0 (omega arith) refl
  some_weight root far (end ∷ ends) walks none =
      some_weight root far ends (λ e there. walks e (contains_rest end e ends there)) (λ rest light is_rest.
      some_distance root end.0 (far end.0) (walks end (contains_first end end ends refl)) (λ d short is_d.
      none (end.1 * d + rest)
      (omega (arith, light, sum_by-cons (λ (e : ℕ × ℕ). e.1 * far e.0) end ends, mul-le-mul (le_refl end.1) short))
      (d, rest, is_d, is_rest, refl)))

  -- the weight is the sum of each endpoint's rate times its distance
  pub weight_is : (root : ℕ) (far : ℕ → ℕ) (ends : List (ℕ × ℕ)) → ((end : ℕ × ℕ) → Contains ends end → IsDistance network set root end.0 (far end.0))
      → (weight : ℕ) → IsWeight network set root ends weight → weight ≡ sum_by (λ (end : ℕ × ℕ). end.1 * far end.0) ends
  weight_is root far [] are weight is = is
  weight_is root far (end ∷ ends) are weight (d, rest, is_d, is_rest, sum) =
      let same = distance_unique network set root end.0 d (far end.0) is_d (are end (contains_first end end ends refl)) in
      omega (
        arith,
        sum,
        sum_by-cons (λ (e : ℕ × ℕ). e.1 * far e.0) end ends,
        ap (λ (n : ℕ). end.1 * n) same,
        weight_is root far ends (λ e there. are e (contains_rest end e ends there)) rest is_rest,
      )

-- different nodes are at a distance of at least 1
far_apart : (network : Network) → IsNetwork network → (set : List Bool) (u v d : ℕ) → IsDistance network set u v d → u ≢ v → 1 ≤ d
far_apart network is set u v d from differ = at from.walk from.walks from.costs
  where
    at : (walk : List ℕ) → IsWalk network set u v walk → walk_cost network walk ≡ d → 1 ≤ d
    at [] same costs = absurd (differ same)
    at (l ∷ walk) along costs = omega (arith, costs, (joins_costs network is l u along.0 along.2).0)

module _ (network : Network) (is : IsNetwork network) (set : List Bool) (root : ℕ) (steps : List Step) (grows : Grow network root steps)
    (all : AllIn network set steps) (l : ℕ) (there : Contains (step_links steps) l) where
  abbrev node : ℕ
  node = new_of steps l

  abbrev away : ℕ
  away = way_cost network steps (new_of steps l)

  -- how far an endpoint can be from the node, where each node's way up costs its distance
  abbrev far : ℕ → ℕ
  far v = cond (goes_along (links_up steps v) l) (way_cost network steps v - away) (away + way_cost network steps v)

  -- beyond the link an endpoint is nearer to the node than to the root by the node's distance, elsewhere at most so much farther
  walk_to : IsDistance network set root node away → (v : ℕ) → IsDistance network set root v (way_cost network steps v) → HasWalk network set node v (far v)
  walk_to is_away v is_far = at (goes_along (links_up steps v) l) refl
    where
      at : (beyond : Bool) → goes_along (links_up steps v) l ≡ beyond
          → HasWalk network set node v (cond beyond (way_cost network steps v - away) (away + way_cost network steps v))
      at true along =
          let through = goes_through network set root steps grows all l there v along in
          costing network set node v (omega (arith, through.costs)) through.goes
      at false off =
          costs_both network set node root v away (way_cost network steps v) (costs_back network set root node away (from_distance network set root node away is_away))
          (from_distance network set root v (way_cost network steps v) is_far)

  -- seen from the node, the rates beyond the link are so much nearer and the others so much farther
  far_sums : (ends : List (ℕ × ℕ)) → sum_by (λ (end : ℕ × ℕ). end.1 * far end.0) ends + 2 * (away * rate_up steps ends l) ≡ ways_cost network steps ends + away * total_rate ends
  far_sums [] = omega arith
  far_sums (end ∷ ends) =
      let first = sum_by-cons (λ (e : ℕ × ℕ). e.1 * far e.0) end ends in
      let ways = sum_by-cons (λ (e : ℕ × ℕ). e.1 * way_cost network steps e.0) end ends in
      let rates = ap (λ (n : ℕ). away * n) (sum_by-cons (λ (e : ℕ × ℕ). cond (goes_along (links_up steps e.0) l) e.1 0) end ends) in
      let totals = ap (λ (n : ℕ). away * n) (sum_by-cons (λ (e : ℕ × ℕ). e.1) end ends) in
      let rate_split = mul-add away (cond (goes_along (links_up steps end.0) l) end.1 0) (rate_up steps ends l) in
      let total_split = mul-add away end.1 (total_rate ends) in
      omega (arith, first, ways, rates, totals, rate_split, total_split, here end.0 end.1, far_sums ends)
    where
      at : (v rate : ℕ) (beyond : Bool) → goes_along (links_up steps v) l ≡ beyond
          → rate * cond beyond (way_cost network steps v - away) (away + way_cost network steps v) + 2 * (away * cond beyond rate 0) ≡ rate * way_cost network steps v + away * rate
      at v rate true along =
          let through = goes_through network set root steps grows all l there v along in
          let rest : way_cost network steps v ≡ away + (way_cost network steps v - away) = omega (arith, through.costs) in
          let split = ap (λ (n : ℕ). rate * n) rest ∙ mul-add rate away (way_cost network steps v - away) in
          omega (arith, split, mul_comm rate away)
      at v rate false off = omega (arith, mul-add rate away (way_cost network steps v), mul_comm rate away)

      here : (v rate : ℕ) → rate * far v + 2 * (away * cond (goes_along (links_up steps v) l) rate 0) ≡ rate * way_cost network steps v + away * rate
      here v rate = at v rate (goes_along (links_up steps v) l) refl

  -- So half of the rates at most lie beyond a link of the tree of a root of least weight.
  pub half_beyond : ((v : ℕ) → IsOn root steps v → IsDistance network set root v (way_cost network steps v))
      → (ends : List (ℕ × ℕ)) → ((end : ℕ × ℕ) → Contains ends end → IsOn root steps end.0)
      → (weight : ℕ) → IsRoot network set ends root weight → 2 * rate_up steps ends l ≤ total_rate ends
  half_beyond ways ends on weight is_root =
      let new = new_is_new steps l there in
      let is_away : IsDistance network set root node away = ways node (inr new) in
      let apart : 1 ≤ away = far_apart network is set root node away is_away (λ same. start_is_not_new network root steps grows (subst (Contains (new_nodes steps)) (sym same) new)) in
      let is_node = on_is_node network is root steps node grows (inr new) in
      let weighs = weight_is network set root (way_cost network steps) ends (λ end here. ways end.0 (on end here)) weight is_root.is_weight in
      elim (cases_lt (total_rate ends) (2 * rate_up steps ends l)) [
        | inl more ↦ absurd (some_weight network set node far ends (λ end here. walk_to is_away end.0 (ways end.0 (on end here))) (λ lighter light is_weight.
            let least = is_root.least node lighter is_node is_weight in
            let product : away * (total_rate ends + 1) ≤ away * (2 * rate_up steps ends l) = mul-le-mul (le_refl away) (omega (arith, more)) in
            omega (arith, least, light, weighs, far_sums ends, product, apart, mul-add away (total_rate ends) 1, mul_left_comm away 2 (rate_up steps ends l))))
        | inr most ↦ omega (arith, most)
      ]
