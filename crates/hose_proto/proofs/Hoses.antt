-- Endpoints in order and in another order, and the hose that they make.
use Rattle.std.proofs.Common.{◌≡◌, ◌∙◌, ℕ, ◌<◌, ◌≤◌, eqb, List, length, get_or, sym, arith}
use Rattle.std.specs.List.{IsDistinct}
use Rattle.std.specs.List.Sorted.{IsPermutation}
use Rattle.std.proofs.lemmas.Bool.{eqb-false, ne_eqb}
use Rattle.std.proofs.lemmas.Cmp.{nat_eq_equiv}
use Rattle.std.proofs.lemmas.List.{get_or-map, length-map}
use Rattle.std.proofs.lemmas.List.Kept.{AllPairs-from_increasing}
use Rattle.std.proofs.lemmas.List.Sorted.{All-permutation, Contains-permutation, IsPermutation-map, IsPermutation-sym, IsPermutation-trans, length_permutation}
use Rattle.std.proofs.lemmas.Map.Keys.{IsDistinct-from_apart, IsDistinct-IsPermutation, apart_from_distinct}
use Rattle.hose_graph.specs.Ascending.{IsAscending, firsts}
use Rattle.hose_graph.specs.Hose.{HasDistinctNodes, IsEnd, IsHose}
use Rattle.hose_graph.specs.steps.Hose.{MakesHose}
use Rattle.hose_graph.specs.Network.{Network, IsNodeOf}
use Rattle.hose_graph.specs.declared.limits.TheConstants.{LEAST_ENDS}
use Rattle.hose_graph.proofs.Ordered.{pairs_unique}
use Rattle.hose_proto.specs.Command.{AreNewEnds}
use Rattle.hose_proto.specs.Places.{IsHoseOf}

-- endpoints in order are at distinct nodes
pub distinct_in_order : (ends : List (ℕ × ℕ)) → IsAscending ends → HasDistinctNodes ends
distinct_in_order ends ascends i j d order below same =
    let long = length-map ends (λ (pair : ℕ × ℕ). pair.0) in
    let rises : get_or (firsts ends) i d.0 < get_or (firsts ends) j d.0 = AllPairs-from_increasing (firsts ends) ascends i j d.0 order (omega arith) in
    let here : get_or (firsts ends) i d.0 ≡ (get_or ends i d).0 = get_or-map (λ (pair : ℕ × ℕ). pair.0) ends i d d.0 (omega arith) in
    let there : get_or (firsts ends) j d.0 ≡ (get_or ends j d).0 = get_or-map (λ (pair : ℕ × ℕ). pair.0) ends j d d.0 below in
    omega arith

-- endpoints at distinct nodes stay so in another order
pub distinct_moved : (ends others : List (ℕ × ℕ)) → IsPermutation ends others → HasDistinctNodes ends → HasDistinctNodes others
distinct_moved ends others moved distinct =
    let node_at : (k d : ℕ) → k < length ends → get_or (firsts ends) k d ≡ (get_or ends k (0, 0)).0 =
    λ k d below. get_or-map (λ (pair : ℕ × ℕ). pair.0) ends k (0, 0) d below in
    let long : length (firsts ends) ≡ length ends = length-map ends (λ (pair : ℕ × ℕ). pair.0) in
    let long' : length (firsts others) ≡ length others = length-map others (λ (pair : ℕ × ℕ). pair.0) in
    let differ : IsDistinct eqb (firsts ends) = IsDistinct-from_apart eqb (firsts ends)
    (λ i j d order below. rw (node_at i d (omega arith), node_at j d (omega arith)) (ne_eqb _ _ (distinct i j (0, 0) order (omega arith)))) in
    let apart : IsDistinct eqb (firsts others) =
    IsDistinct-IsPermutation eqb nat_eq_equiv.symm (firsts ends) (firsts others) (IsPermutation-map (λ (pair : ℕ × ℕ). pair.0) ends others moved) differ in
    let node_of : (k : ℕ) (d : ℕ × ℕ) → k < length others → get_or (firsts others) k 0 ≡ (get_or others k d).0 =
    λ k d below. get_or-map (λ (pair : ℕ × ℕ). pair.0) others k d 0 below in
    λ i j d order below same.
    eqb-false (get_or (firsts others) i 0) (get_or (firsts others) j 0)
    (apart_from_distinct eqb (firsts others) i j 0 apart order (omega arith))
    (node_of i d (omega arith) ∙ same ∙ sym (node_of j d below))

-- ---- a hose of a network

-- endpoints of which there are enough make a hose, which is the network's
pub makes_hose : (network : Network) (ends : List (ℕ × ℕ)) → AreNewEnds network ends → LEAST_ENDS ≤ length ends → MakesHose ends
makes_hose network ends are enough = record {
  counted = record { enough = enough; few = are.few };
  within = are.within;
  distinct = are.distinct;
}

pub hose_made : (network : Network) (ends hose : List (ℕ × ℕ)) → AreNewEnds network ends → IsPermutation ends hose → IsHose hose → IsHoseOf network hose
hose_made network ends hose are moved is = record {
  is_hose = is;
  nodes = All-permutation (λ (end : ℕ × ℕ). IsNodeOf network end.0) ends hose moved are.nodes;
}

-- the endpoints of a hose, in whatever order
pub ends_of_hose : (network : Network) (ends hose : List (ℕ × ℕ)) → IsPermutation ends hose → IsHoseOf network hose → AreNewEnds network ends
ends_of_hose network ends hose moved is =
    let back = IsPermutation-sym ends hose moved in
    record {
      few = omega (arith, is.is_hose.counted.few, length_permutation ends hose moved);
      within = All-permutation IsEnd hose ends back is.is_hose.within;
      distinct = distinct_moved hose ends back (distinct_in_order hose is.is_hose.ascending);
      nodes = All-permutation (λ (end : ℕ × ℕ). IsNodeOf network end.0) hose ends back is.nodes;
    }

-- two lists in order that have the same endpoints are one
pub same_hose : (ends hose : List (ℕ × ℕ)) → IsPermutation ends hose → IsAscending ends → IsAscending hose → ends ≡ hose
same_hose ends hose moved ascends rises =
    pairs_unique ends hose ascends rises
    (λ node rate. (Contains-permutation ends hose (node, rate) moved, Contains-permutation hose ends (node, rate) (IsPermutation-sym ends hose moved)))

-- so two hoses of the same endpoints are one
pub one_hose : (ends one other : List (ℕ × ℕ)) → IsPermutation ends one → IsPermutation ends other → IsHose one → IsHose other → one ≡ other
one_hose ends one other moved moved' is is' =
    same_hose one other (IsPermutation-trans one ends other (IsPermutation-sym ends one moved) moved') is.ascending is'.ascending
