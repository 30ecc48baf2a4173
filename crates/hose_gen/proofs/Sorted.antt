-- Endpoints in order of nodes.
use Rattle.std.proofs.Common.{◌≡◌, zero, suc, ◌≤◌, nat_lt, true, false, List, [], ◌∷◌, inl, inr, arith}
use Rattle.std.specs.Prelude.{⊤}
use Rattle.std.specs.List.{All}
use Rattle.std.specs.List.Sorted.{IsPermutation, IsNonDecreasingBy}
use Rattle.std.proofs.lemmas.Bool.{cases_Bool, cond-true, cond-false, cases_lt, lt-ltb}
use Rattle.std.proofs.lemmas.Bool.Decides.{nat_tests}
use Rattle.std.proofs.lemmas.List.Elements.{All-cons, All-weaker}
use Rattle.std.proofs.lemmas.List.Sorted.{All-permutation, Contains-permutation, IsPermutation-cons, IsPermutation-refl, IsPermutation-sym, IsPermutation-middle, IsPermutation-trans}
use Rattle.hose_graph.specs.Hose.{Endpoint, IsHose, node_of}
use Rattle.hose_graph.specs.steps.Hose.{MakesHose}
use Rattle.hose_graph.proofs.Endpoints.{IsHose-sorted}
use Rattle.hose_graph.proofs.Ordered.{pairs_unique}
use Rattle.hose_gen.specs.Generated.{in_order, placed}

-- two that change places
exchanged : (one other : Endpoint) (more : List Endpoint) → IsPermutation (one ∷ (other ∷ more)) (other ∷ (one ∷ more))
exchanged one other more = IsPermutation-middle (one ∷ []) other more

-- what is placed is one more
placed_moves : (end : Endpoint) (ends : List Endpoint) → IsPermutation (end ∷ ends) (placed end ends)
placed_moves end [] = IsPermutation-refl (end ∷ [])
placed_moves end (first ∷ more) = elim (cases_Bool (nat_lt (node_of end) (node_of first))) [
  | inl less ↦ rw (cond-true (nat_lt (node_of end) (node_of first)) (end ∷ (first ∷ more)) (first ∷ placed end more) less) (IsPermutation-refl (end ∷ (first ∷ more)))
  | inr not ↦ rw (cond-false (nat_lt (node_of end) (node_of first)) (end ∷ (first ∷ more)) (first ∷ placed end more) not)
      (IsPermutation-trans _ _ _ (exchanged end first more) (IsPermutation-cons first (end ∷ more) (placed end more) (placed_moves end more)))
]

pub in_order_moves : (ends : List Endpoint) → IsPermutation ends (in_order ends)
in_order_moves [] = IsPermutation-refl []
in_order_moves (end ∷ more) =
    IsPermutation-trans _ _ _ (IsPermutation-cons end more (in_order more) (in_order_moves more)) (placed_moves end (in_order more))

-- each is at most as far as all that follow it
abbrev Rises : List Endpoint → Type 0
Rises [] = ⊤
Rises (end ∷ more) = All (λ other. node_of end ≤ node_of other) more × Rises more

placed_rises : (end : Endpoint) (ends : List Endpoint) → Rises ends → Rises (placed end ends)
placed_rises end [] rises = ((λ k d below. absurd (omega (arith, below))), tt)
placed_rises end (first ∷ more) rises = elim (cases_lt (node_of end) (node_of first)) [
  | inl less ↦
      let test : nat_lt (node_of end) (node_of first) ≡ true = lt-ltb (node_of end) (node_of first) less in
      rw (cond-true (nat_lt (node_of end) (node_of first)) (end ∷ (first ∷ more)) (first ∷ placed end more) test)
      (All-cons (λ other. node_of end ≤ node_of other) first more (omega (arith, less)) (All-weaker (λ (other : Endpoint). node_of first ≤ node_of other) (λ (other : Endpoint). node_of end ≤ node_of other) (λ other above. omega (arith, above, less)) more rises.0), rises)
  | inr not ↦
      let test : nat_lt (node_of end) (node_of first) ≡ false = grind (arith, nat_tests) in
      rw (cond-false (nat_lt (node_of end) (node_of first)) (end ∷ (first ∷ more)) (first ∷ placed end more) test) (
        All-permutation (λ (other : Endpoint). node_of first ≤ node_of other) (end ∷ more) (placed end more) (placed_moves end more) (All-cons (λ other. node_of first ≤ node_of other) end more not rises.0),
        placed_rises end more rises.1,
      )
]

in_order_rises : (ends : List Endpoint) → Rises (in_order ends)
in_order_rises [] = tt
in_order_rises (end ∷ more) = placed_rises end (in_order more) (in_order_rises more)

rising : (ends : List Endpoint) → Rises ends → IsNonDecreasingBy (λ end. end.0) ends
rising [] rises i j d less below = absurd (omega (arith, below))
rising (end ∷ more) rises zero zero d less below = omega arith
rising (end ∷ more) rises zero (suc j) d less below = rises.0 j d (omega arith)
rising (end ∷ more) rises (suc i) zero d less below = absurd (omega (arith, less))
rising (end ∷ more) rises (suc i) (suc j) d less below = rising more rises.1 i j d (omega arith) (omega arith)

-- the hose of endpoints is these in order
pub hose_of : (ends hose : List Endpoint) → MakesHose ends → IsHose hose → IsPermutation ends hose → hose ≡ in_order ends
hose_of ends hose makes is moved =
    let ordered = IsHose-sorted ends (in_order ends) makes (in_order_moves ends) (rising (in_order ends) (in_order_rises ends)) in
    pairs_unique hose (in_order ends) is.ascending ordered.ascending (λ node rate. (
      λ there. Contains-permutation ends (in_order ends) (node, rate) (in_order_moves ends) (Contains-permutation hose ends (node, rate) (IsPermutation-sym ends hose moved) there),
      λ there. Contains-permutation ends hose (node, rate) moved (Contains-permutation (in_order ends) ends (node, rate) (IsPermutation-sym ends (in_order ends) (in_order_moves ends)) there),
    ))
