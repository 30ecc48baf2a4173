-- Walks that repeat no node. For every walk there is one of fewer links than there are nodes that costs no more, so no
-- distance is above the greatest that the limits name.
use Rattle.std.proofs.Common.{◌≡◌, ◌≢◌, ◌⊎◌, ◌∙◌, ℕ, zero, suc, ◌+◌, ◌*◌, ◌<◌, ◌≤◌, Bool, true, false, cond, List, [], ◌∷◌, length, get_or, set, replicate, sym, ap, subst, inl, inr, arith, get_or-set_other, get_or-set_same, length-set}
use Rattle.std.specs.List.{count_by}
use Rattle.std.proofs.lemmas.Bool.{cases_eq, cases_lt, false≢true}
use Rattle.std.proofs.lemmas.List.{get_or_past, get_or-replicate}
use Rattle.std.proofs.lemmas.List.Sums.{sum_by-set}
use Rattle.std.proofs.lemmas.List.Folds.{sum_by-replicate}
use Rattle.hose_graph.specs.declared.limits.TheConstants.{MOST_COST, MOST_DISTANCE}
use Rattle.hose_graph.specs.Network.{Network, IsNetwork}
use Rattle.hose_law.specs.Walk.{cost_of, Joins, IsIn, IsWalk, walk_cost, IsDistance}
use Rattle.hose_law.specs.steps.Walk.{set_without}
use Rattle.hose_law.proofs.Joined.{joins_nodes, joins_costs}

-- how many nodes a side has
abbrev size : List Bool → ℕ
size side = count_by (λ b. b) side

-- a node of a side is one of its places
in_side : (side : List Bool) (u : ℕ) → IsIn side u → u < length side
in_side side u here = elim (cases_lt u (length side)) [
  | inl below ↦ below
  | inr past ↦ absurd (false≢true (sym (get_or_past side u false past) ∙ here))
]

-- a side has fewer nodes without one of them
size-set_without : (side : List Bool) (u : ℕ) → IsIn side u → size (set_without side u) + 1 ≡ size side
size-set_without side u here =
    let test : Bool → ℕ = λ b. cond b 1 0 in
    let one : test (get_or side u false) ≡ 1 = ap test here in
    omega (arith, sum_by-set test side u false false (in_side side u here), one)

size-some : (side : List Bool) (u : ℕ) → IsIn side u → 1 ≤ size side
size-some side u here = omega (arith, size-set_without side u here)

not_without : (side : List Bool) (u : ℕ) → IsIn (set_without side u) u → ⊥
not_without side u here = elim (cases_lt u (length side)) [
  | inl below ↦ false≢true (sym (get_or-set_same side u false false below) ∙ here)
  | inr past ↦ absurd (omega (arith, in_side (set_without side u) u here, length-set side u false))
]

still_without : (side : List Bool) (u w : ℕ) → w ≢ u → IsIn side w → IsIn (set_without side u) w
still_without side u w differ here = get_or-set_other side u w false false differ ∙ here

module _ (network : Network) (set : List Bool) where
  -- a walk whose nodes are all of a side
  abbrev IsInside : List Bool → ℕ → ℕ → List ℕ → Type 0
  IsInside side u v [] = (u ≡ v) × IsIn side u
  IsInside side u v (l ∷ walk) =
      (x : ℕ) × IsIn side u × IsIn set l × Joins network l u x × IsInside side x v walk

  starts_inside : (side : List Bool) (u v : ℕ) (walk : List ℕ) → IsInside side u v walk → IsIn side u
  starts_inside side u v [] inside = inside.1
  starts_inside side u v (l ∷ walk) inside = inside.1

  -- what is left of a walk after its last visit of a node, where it goes on from there
  record HasRest (side : List Bool) (a v most : ℕ) : Type 0 where
    link : ℕ
    next : ℕ
    walk : List ℕ
    in_set : IsIn set link
    joins : Joins network link a next
    inside : IsInside (set_without side a) next v walk
    costs : cost_of network link + walk_cost network walk ≤ most

  -- a walk avoids a node, or it ends there, or it goes on from its last visit of it
  behind : (side : List Bool) (a u v : ℕ) (walk : List ℕ) → IsInside side u v walk
      → IsInside (set_without side a) u v walk ⊎ ((a ≡ v) ⊎ HasRest side a v (walk_cost network walk))
  behind side a u v [] inside = elim (cases_eq u a) [
    | inl same ↦ inr (inl (sym same ∙ inside.0))
    | inr differ ↦ inl (inside.0, still_without side a u differ inside.1)
  ]
  behind side a u v (l ∷ walk) inside = elim (behind side a inside.0 v walk inside.4) [
    | inl avoids ↦ elim (cases_eq u a) [
      | inl same ↦ inr (inr (record {
        link = l;
        next = inside.0;
        walk = walk;
        in_set = inside.2;
        joins = subst (λ (n : ℕ). Joins network l n inside.0) same inside.3;
        inside = avoids;
        costs = omega arith;
      }))
      | inr differ ↦ inl (inside.0, still_without side a u differ inside.1, inside.2, inside.3, avoids)
    ]
    | inr (inl ends) ↦ inr (inl ends)
    | inr (inr rest) ↦ inr (inr (record {
      link = rest.link;
      next = rest.next;
      walk = rest.walk;
      in_set = rest.in_set;
      joins = rest.joins;
      inside = rest.inside;
      costs = omega (arith, rest.costs);
    }))
  ]

  -- a walk of fewer links than this that costs no more
  pub record HasShort (u v cost most : ℕ) : Type 0 where
    pub walk : List ℕ
    pub walks : IsWalk network set u v walk
    pub costs : walk_cost network walk ≤ cost
    pub short : length walk < most

  shorten : (k : ℕ) (side : List Bool) (u v : ℕ) (walk : List ℕ) → size side ≡ k → IsInside side u v walk
      → HasShort u v (walk_cost network walk) k
  shorten zero side u v walk count inside =
      absurd (omega (arith, size-some side u (starts_inside side u v walk inside), count))
  shorten (suc k) side u v walk count inside =
      let here = starts_inside side u v walk inside in
      elim (behind side u u v walk inside) [
        | inl avoids ↦ absurd (not_without side u (starts_inside (set_without side u) u v walk avoids))
        | inr (inl ends) ↦ record { walk = []; walks = ends; costs = omega arith; short = omega arith }
        | inr (inr rest) ↦
            let short = shorten k (set_without side u) rest.next v rest.walk (omega (arith, size-set_without side u here, count)) rest.inside in
            record {
              walk = rest.link ∷ short.walk;
              walks = (rest.next, rest.in_set, rest.joins, short.walks);
              costs = omega (arith, short.costs, rest.costs);
              short = omega (arith, short.short);
            }
      ]

-- a side of all nodes
abbrev all_nodes : Network → List Bool
all_nodes network = replicate (length network.nodes) true

size-all_nodes : (network : Network) → size (all_nodes network) ≡ length network.nodes
size-all_nodes network = omega (arith, sum_by-replicate (λ b. cond b 1 0) (length network.nodes) true)

-- a walk from a node of a network visits its nodes alone
inside_network : (network : Network) → IsNetwork network → (set : List Bool) (u v : ℕ) (walk : List ℕ) → u < length network.nodes
    → IsWalk network set u v walk → IsInside network set (all_nodes network) u v walk
inside_network network is set u v [] node same = (same, get_or-replicate (length network.nodes) u true false node)
inside_network network is set u v (l ∷ walk) node along = (
  along.0,
  get_or-replicate (length network.nodes) u true false node,
  along.1,
  along.2,
  inside_network network is set along.0 v walk (joins_nodes network is l u along.0 along.2).1 along.3,
)

-- from a node there is a walk of fewer links than there are nodes that costs no more than a given one
pub short_walk : (network : Network) → IsNetwork network → (set : List Bool) (u v : ℕ) (walk : List ℕ) → u < length network.nodes
    → IsWalk network set u v walk → HasShort network set u v (walk_cost network walk) (length network.nodes)
short_walk network is set u v walk node along =
    shorten network set (length network.nodes) (all_nodes network) u v walk (size-all_nodes network)
    (inside_network network is set u v walk node along)

-- a walk costs no more than its links at the greatest cost
pub walk_cost-le : (network : Network) → IsNetwork network → (set : List Bool) (u v : ℕ) (walk : List ℕ)
    → IsWalk network set u v walk → walk_cost network walk ≤ length walk * MOST_COST
walk_cost-le network is set u v [] same = omega arith
walk_cost-le network is set u v (l ∷ walk) along =
    omega (
      arith,
      (joins_costs network is l u along.0 along.2).1,
      walk_cost-le network is set along.0 v walk along.3,
    )

-- A shortest walk repeats no node, so it has fewer links than there are nodes.
pub distance_bound : (network : Network) → IsNetwork network → (set : List Bool) (u v distance : ℕ)
    → IsDistance network set u v distance → distance ≤ MOST_DISTANCE
distance_bound network is set u v distance from = bound from.walk from.walks from.costs
  where
    bound : (walk : List ℕ) → IsWalk network set u v walk → walk_cost network walk ≡ distance → distance ≤ MOST_DISTANCE
    bound [] along costs = omega (arith, costs)
    bound (l ∷ walk) along costs =
        let node = (joins_nodes network is l u along.0 along.2).0 in
        let short = short_walk network is set u v (l ∷ walk) node along in
        omega (
          arith,
          from.least short.walk short.walks,
          walk_cost-le network is set u v short.walk short.walks,
          short.short,
          is.few_nodes,
        )
