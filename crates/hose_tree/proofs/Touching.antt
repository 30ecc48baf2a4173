-- What stands at a node where the sums over a list of pairs count the links that end there: none, just one, or the one link of a tree's last step.
use Rattle.std.proofs.Common.{◌≡◌, ◌≢◌, ◌⊎◌, ◌∙◌, ℕ, ◌+◌, Bool, true, false, List, [], ◌∷◌, ◌++◌, Option, None, Some, cond, eqb, refl, sym, inl, inr, arith}
use Rattle.std.specs.List.{All, slice_get, sum_by}
use Rattle.std.specs.List.Sorted.{IsPermutation}
use Rattle.std.specs.Option.{IsSomeAnd}
use Rattle.std.proofs.lemmas.Bool.{cases_eq, eq-eqb, ne_eqb}
use Rattle.std.proofs.lemmas.List.Elements.{All-append, All-cons, All-head, All-nil, All-tail, All-weaker}
use Rattle.std.proofs.lemmas.List.Sorted.{IsPermutation-append_comm, IsPermutation-cons, IsPermutation-refl, IsPermutation-trans, sum_by-IsPermutation}
use Rattle.std.proofs.lemmas.List.Sums.{sum_by-cons}
use Rattle.hose_graph.specs.Network.{Network, IsNetwork}
use Rattle.hose_graph.specs.declared.topology.Link.{Link}
use Rattle.hose_law.specs.Walk.{Joins}
use Rattle.hose_law.proofs.Joined.{joins_nodes}
use Rattle.hose_tree.specs.steps.Peeling.{at_ends, sum_at}

-- a sum is 0 just where each part is
all_zero : {X : Type 0} (f : X → ℕ) (xs : List X) → sum_by f xs ≡ 0 → All (λ (x : X). f x ≡ 0) xs
all_zero {X} f [] none = All-nil (λ (x : X). f x ≡ 0)
all_zero {X} f (x ∷ xs) none =
    All-cons (λ (y : X). f y ≡ 0) x xs (omega (arith, sum_by-cons f x xs)) (all_zero f xs (omega (arith, sum_by-cons f x xs)))

pub zero_sum : {X : Type 0} (f : X → ℕ) (xs : List X) → All (λ (x : X). f x ≡ 0) xs → sum_by f xs ≡ 0
zero_sum f [] zeros = refl
zero_sum {X} f (x ∷ xs) zeros =
    omega (arith, sum_by-cons f x xs, All-head (λ (y : X). f y ≡ 0) x xs zeros, zero_sum f xs (All-tail (λ (y : X). f y ≡ 0) x xs zeros))

-- a link ends at a node where it joins it to another
Leads : Option Link → ℕ → ℕ → Type 0
Leads found v w = IsSomeAnd found (λ (link : Link). ((link.a ≡ v) × (link.b ≡ w)) ⊎ ((link.a ≡ w) × (link.b ≡ v)))

leads_other : (found : Option Link) (v : ℕ) → at_ends found v 1 ≢ 0 → (w : ℕ) × Leads found v w
unfolding Leads
leads_other None v some = absurd (some refl)
leads_other (Some link) v some = elim (cases_eq link.a v) [
  | inl a ↦ (link.b, inl (a, refl))
  | inr not_a ↦ elim (cases_eq link.b v) [
    | inl b ↦ (link.a, inr (refl, b))
    | inr not_b ↦ absurd (some (rw (ne_eqb link.a v not_a, ne_eqb link.b v not_b) refl))
  ]
]

ends_here : (found : Option Link) (v w : ℕ) → Leads found v w → v ≢ w → at_ends found v 1 ≡ 1
unfolding Leads
ends_here None v w leads differ = absurd leads
ends_here (Some link) v w (inl (a, b)) differ = rw (eq-eqb link.a v a, ne_eqb link.b v (λ same. differ (sym same ∙ b))) refl
ends_here (Some link) v w (inr (a, b)) differ = rw (ne_eqb link.a v (λ same. differ (sym same ∙ a)), eq-eqb link.b v b) refl

ends_elsewhere : (found : Option Link) (v w u : ℕ) → Leads found v w → u ≢ v → u ≢ w → at_ends found u 1 ≡ 0
unfolding Leads
ends_elsewhere None v w u leads not_v not_w = refl
ends_elsewhere (Some link) v w u (inl (a, b)) not_v not_w = rw (ne_eqb link.a u (λ same. not_v (sym same ∙ a)), ne_eqb link.b u (λ same. not_w (sym same ∙ b))) refl
ends_elsewhere (Some link) v w u (inr (a, b)) not_v not_w = rw (ne_eqb link.a u (λ same. not_w (sym same ∙ a)), ne_eqb link.b u (λ same. not_v (sym same ∙ b))) refl

-- a number counts as often as the link ends at the node
counts_none : (found : Option Link) (v number : ℕ) → at_ends found v 1 ≡ 0 → at_ends found v number ≡ 0
counts_none None v number none = refl
counts_none (Some link) v number none = at (eqb link.a v) (eqb link.b v) none
  where
    at : (a b : Bool) → cond a 1 0 + cond b 1 0 ≡ 0 → cond a number 0 + cond b number 0 ≡ 0
    at false false none = omega arith
    at true b none = absurd (omega arith)
    at false true none = absurd (omega arith)

counts_once : (found : Option Link) (v number : ℕ) → at_ends found v 1 ≡ 1 → at_ends found v number ≡ number
counts_once None v number once = absurd (omega arith)
counts_once (Some link) v number once = at (eqb link.a v) (eqb link.b v) once
  where
    at : (a b : Bool) → cond a 1 0 + cond b 1 0 ≡ 1 → cond a number 0 + cond b number 0 ≡ number
    at true false once = omega arith
    at false true once = omega arith
    at true true once = absurd (omega arith)
    at false false once = absurd (omega arith)

module _ (network : Network) where
  -- how many ends of a link are at a node
  abbrev pub ends_at : ℕ → ℕ → ℕ
  ends_at v l = at_ends (slice_get network.links l) v 1

  pub leads_to : (l v : ℕ) → ends_at v l ≢ 0 → (w : ℕ) × Joins network l v w
  unfolding Leads
  leads_to l v some = leads_other (slice_get network.links l) v some

  pub leads_nowhere : IsNetwork network → (l v w : ℕ) → ends_at v l ≡ 0 → Joins network l v w → ⊥
  unfolding Leads
  leads_nowhere is l v w none joins =
      let once : ends_at v l ≡ 1 = ends_here (slice_get network.links l) v w joins (joins_nodes network is l v w joins).2 in
      omega (arith, once, none)

  pub ends_once : IsNetwork network → (l v w : ℕ) → Joins network l v w → ends_at v l ≡ 1
  unfolding Leads
  ends_once is l v w joins = ends_here (slice_get network.links l) v w joins (joins_nodes network is l v w joins).2

  pub ends_none : (l v w u : ℕ) → Joins network l v w → u ≢ v → u ≢ w → ends_at u l ≡ 0
  unfolding Leads
  ends_none l v w u joins not_v not_w = ends_elsewhere (slice_get network.links l) v w u joins not_v not_w

  -- A pair is the one whose link ends at a node.
  pub record IsLeaf (v : ℕ) (pairs : List (ℕ × ℕ)) (pair : ℕ × ℕ) : Type 0 where
    pub rest : List (ℕ × ℕ)
    pub order : IsPermutation pairs (pair ∷ rest)
    pub here : ends_at v pair.0 ≡ 1
    pub others : All (λ (other : ℕ × ℕ). ends_at v other.0 ≡ 0) rest

  pub leaf : (v : ℕ) (pairs : List (ℕ × ℕ)) → sum_at network (λ pair. 1) pairs v ≡ 1 → (pair : ℕ × ℕ) × IsLeaf v pairs pair
  leaf v [] one = absurd (omega arith)
  leaf v (pair ∷ pairs) one =
      let count : ℕ × ℕ → ℕ = λ p. ends_at v p.0 in
      let sum : sum_by count (pair ∷ pairs) ≡ count pair + sum_by count pairs = sum_by-cons count pair pairs in
      elim (cases_eq (count pair) 0) [
        | inl none ↦ with_more none (leaf v pairs (omega (arith, sum, none)))
        | inr some ↦ (
          pair,
          record {
            rest = pairs;
            order = IsPermutation-refl (pair ∷ pairs);
            here = omega (arith, sum, some);
            others = all_zero count pairs (omega (arith, sum, some));
          },
        )
      ]
    where
      with_more : ends_at v pair.0 ≡ 0 → (more : ℕ × ℕ) × IsLeaf v pairs more → (more : ℕ × ℕ) × IsLeaf v (pair ∷ pairs) more
      with_more none (more, is) = (
        more,
        record {
          rest = is.rest ++ pair ∷ [];
          order = IsPermutation-trans (pair ∷ pairs) (pair ∷ more ∷ is.rest) (more ∷ (is.rest ++ pair ∷ []))
              (IsPermutation-cons pair pairs (more ∷ is.rest) is.order) (IsPermutation-append_comm (pair ∷ []) (more ∷ is.rest));
          here = is.here;
          others = All-append (λ (other : ℕ × ℕ). ends_at v other.0 ≡ 0) is.rest (pair ∷ []) is.others
              (All-cons (λ (other : ℕ × ℕ). ends_at v other.0 ≡ 0) pair [] none (All-nil (λ (other : ℕ × ℕ). ends_at v other.0 ≡ 0)));
        },
      )

  module _ (v : ℕ) (pairs : List (ℕ × ℕ)) (pair : ℕ × ℕ) (is_leaf : IsLeaf v pairs pair) (number : ℕ × ℕ → ℕ) where
    -- the sums of the pairs that are left at each node
    pub sum_left : (u : ℕ) → sum_at network number pairs u ≡ sum_at network number is_leaf.rest u + at_ends (slice_get network.links pair.0) u (number pair)
    sum_left u =
        let count : ℕ × ℕ → ℕ = λ p. at_ends (slice_get network.links p.0) u (number p) in
        omega (arith, sum_by-IsPermutation count pairs (pair ∷ is_leaf.rest) is_leaf.order, sum_by-cons count pair is_leaf.rest)

    -- at the leaf the sum is the number of its one pair
    pub sum_here : sum_at network number pairs v ≡ number pair
    sum_here =
        let count : ℕ × ℕ → ℕ = λ p. at_ends (slice_get network.links p.0) v (number p) in
        let none : sum_by count is_leaf.rest ≡ 0 =
        zero_sum count is_leaf.rest (All-weaker (λ (other : ℕ × ℕ). ends_at v other.0 ≡ 0) (λ (other : ℕ × ℕ). count other ≡ 0)
        (λ other zero. counts_none (slice_get network.links other.0) v (number other) zero) is_leaf.rest is_leaf.others) in
        omega (arith, sum_left v, none, counts_once (slice_get network.links pair.0) v (number pair) is_leaf.here)
