-- Lists of endpoints: the sum of their rates, and the nodes that they are at.
use Rattle.std.proofs.Common.{◌≡◌, ◌≢◌, ◌∙◌, ℕ, ◌+◌, ◌*◌, ◌<◌, ◌≤◌, eqb, List, length, get_or, take, ap, sym, subst, arith}
use Rattle.std.specs.List.{All, Any, IsDistinct}
use Rattle.std.specs.List.Sorted.{IsPermutation, IsNonDecreasing, IsNonDecreasingBy}
use Rattle.std.proofs.lemmas.Bool.{ne_eqb}
use Rattle.std.proofs.lemmas.Cmp.{nat_eq_equiv}
use Rattle.std.proofs.lemmas.List.{get_or_default, get_or-map, get_or-take, length-map, length-take-le, take_more}
use Rattle.std.proofs.lemmas.List.Elements.{All-weaker}
use Rattle.std.proofs.lemmas.List.Quantifiers.{all_pairs_push}
use Rattle.std.proofs.lemmas.List.Sorted.{All-permutation, IsPermutation-map, length_permutation}
use Rattle.std.proofs.lemmas.List.Sums.{sum_by-le}
use Rattle.std.proofs.lemmas.Map.Keys.{IsDistinct-from_apart, IsDistinct-IsPermutation, IsStrictlyIncreasing-from_distinct}
use Rattle.hose_graph.specs.Ascending.{firsts}
use Rattle.hose_graph.specs.Hose.{IsEnd, IsHose, HasDistinctNodes, total_rate}
use Rattle.hose_graph.specs.steps.Hose.{MakesHose}
use Rattle.hose_graph.specs.declared.limits.TheConstants.{MOST_ENDS, MOST_RATE}

pub total_rate-le : (ends : List (ℕ × ℕ)) → IsHose ends → total_rate ends ≤ MOST_ENDS * MOST_RATE
total_rate-le ends is =
    let rates : All (λ end. end.1 ≤ MOST_RATE) ends =
    All-weaker IsEnd (λ end. end.1 ≤ MOST_RATE) (λ end fits. fits.rate.1) ends is.within in
    omega (arith, sum_by-le (λ end. end.1) MOST_RATE ends rates, is.counted.few)

-- endpoints at distinct nodes, and one more at another node
pub HasDistinctNodes-more : (ends : List (ℕ × ℕ)) (k : ℕ) (d : ℕ × ℕ) → k < length ends →
    HasDistinctNodes (take k ends) → (¬ Any (λ other. other.0 ≡ (get_or ends k d).0) (take k ends)) →
    HasDistinctNodes (take (k + 1) ends)
HasDistinctNodes-more ends k d below distinct absent =
    let before = take k ends in
    let end = get_or ends k d in
    let apart : (i : ℕ) (e : ℕ × ℕ) → i < length before → (get_or before i e).0 ≢ end.0 =
    λ i e within same. absent (i, get_or before i e, within, get_or_default before i (get_or before i e) e within, same) in
    subst HasDistinctNodes (sym (take_more ends k d below))
    (all_pairs_push (λ one other. one.0 ≢ other.0) before end distinct apart)

-- an endpoint at the node of one before it
pub not_distinct : (ends : List (ℕ × ℕ)) (k : ℕ) (d : ℕ × ℕ) → k < length ends →
    Any (λ other. other.0 ≡ (get_or ends k d).0) (take k ends) → HasDistinctNodes ends → ⊥
not_distinct ends k d below (i, other, within, is, same) distinct =
    let earlier : i < k = omega (arith, length-take-le k ends (omega arith)) in
    let found : get_or ends i d ≡ other =
    get_or_default ends i d other (omega arith) ∙ sym (get_or-take k ends i other earlier) ∙ is in
    distinct i k d earlier below (ap (λ one. one.0) found ∙ same)

-- endpoints that make a hose, sorted by their nodes, are one
pub IsHose-sorted : (ends sorted : List (ℕ × ℕ)) → MakesHose ends → IsPermutation ends sorted →
    IsNonDecreasingBy (λ end. end.0) sorted → IsHose sorted
IsHose-sorted ends sorted makes moved rises =
    let same : length sorted ≡ length ends = length_permutation ends sorted moved in
    let node_at : (k d : ℕ) → k < length sorted → get_or (firsts sorted) k d ≡ (get_or sorted k (0, 0)).0 =
    λ k d below. get_or-map (λ pair. pair.0) sorted k (0, 0) d below in
    let long : length (firsts sorted) ≡ length sorted = length-map sorted (λ pair. pair.0) in
    let rising : IsNonDecreasing (firsts sorted) =
    λ i j d order below. rw (node_at i d (omega arith), node_at j d (omega arith)) (rises i j (0, 0) order (omega arith)) in
    let before_at : (k d : ℕ) → k < length ends → get_or (firsts ends) k d ≡ (get_or ends k (0, 0)).0 =
    λ k d below. get_or-map (λ pair. pair.0) ends k (0, 0) d below in
    let long_before : length (firsts ends) ≡ length ends = length-map ends (λ pair. pair.0) in
    let apart : IsDistinct eqb (firsts ends) = IsDistinct-from_apart eqb (firsts ends)
    (λ i j d order below. rw (before_at i d (omega arith), before_at j d (omega arith))
    (ne_eqb _ _ (makes.distinct i j (0, 0) order (omega arith)))) in
    record {
      counted = record { enough = omega (arith, makes.counted.enough); few = omega (arith, makes.counted.few) };
      within = All-permutation IsEnd ends sorted moved makes.within;
      ascending = IsStrictlyIncreasing-from_distinct (firsts sorted) rising
          (IsDistinct-IsPermutation eqb nat_eq_equiv.symm (firsts ends) (firsts sorted) (IsPermutation-map (λ pair. pair.0) ends sorted moved) apart);
    }
