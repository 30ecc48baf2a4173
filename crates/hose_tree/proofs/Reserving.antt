-- The amounts of a tree's steps, sorted by their links, are what the hose reserves.
use Rattle.std.proofs.Common.{◌≡◌, ◌∙◌, ℕ, ◌<◌, eqb, List, [], ◌∷◌, length, get_or, map, reverse, refl, sym, ap, subst, inl, inr, arith}
use Rattle.std.specs.List.{Contains, IsDistinct}
use Rattle.std.specs.List.Sorted.{IsPermutation, IsNonDecreasing, IsNonDecreasingBy}
use Rattle.std.proofs.lemmas.Cmp.{nat_eq_equiv}
use Rattle.std.proofs.lemmas.List.{get_or-map, length-map}
use Rattle.std.proofs.lemmas.List.Sorted.{Contains-permutation, IsPermutation-map, IsPermutation-reverse, IsPermutation-sym, IsPermutation-trans}
use Rattle.std.proofs.lemmas.Map.Keys.{IsDistinct-IsPermutation, IsStrictlyIncreasing-from_distinct}
use Rattle.hose_graph.specs.Ascending.{firsts, IsAscending}
use Rattle.hose_graph.specs.Network.{Network}
use Rattle.hose_graph.specs.declared.topology.Step.{Step}
use Rattle.hose_law.specs.Tree.{Growth, IsTree, IsReservation, smaller_side, step_links}
use Rattle.hose_law.proofs.Trees.{tree_links_differ}
use Rattle.hose_tree.specs.steps.Rates.{reserved_by}
use Rattle.hose_graph.proofs.Members.{contains_first, contains_rest, first_or_rest, none_in_empty}

-- pairs that begin with distinct numbers ascend once they are sorted by those
ascend_sorted : (pairs sorted : List (ℕ × ℕ)) → IsDistinct eqb (firsts pairs) → IsPermutation pairs sorted → IsNonDecreasingBy (λ (pair : ℕ × ℕ). pair.0) sorted → IsAscending sorted
ascend_sorted pairs sorted apart moves rises =
    let first_at : (k d : ℕ) → k < length sorted → get_or (firsts sorted) k d ≡ (get_or sorted k (0, 0)).0 =
    λ k d below. get_or-map (λ (pair : ℕ × ℕ). pair.0) sorted k (0, 0) d below in
    let long : length (firsts sorted) ≡ length sorted = length-map sorted (λ (pair : ℕ × ℕ). pair.0) in
    let rising : IsNonDecreasing (firsts sorted) =
    λ i j d order below. rw (first_at i d (omega arith), first_at j d (omega arith)) (rises i j (0, 0) order (omega arith)) in
    IsStrictlyIncreasing-from_distinct (firsts sorted) rising
    (IsDistinct-IsPermutation eqb nat_eq_equiv.symm (firsts pairs) (firsts sorted) (IsPermutation-map (λ (pair : ℕ × ℕ). pair.0) pairs sorted moves) apart)

module _ (tree : Growth) (hose : List (ℕ × ℕ)) where
  -- the amounts of steps begin with their links
  firsts_are_links : (steps : List Step) → firsts (map (reserved_by tree hose) steps) ≡ step_links steps
  firsts_are_links [] = refl
  firsts_are_links (step ∷ steps) = ap (λ (links : List ℕ). step.link ∷ links) (firsts_are_links steps)

  -- a pair is among the amounts of steps just where its link is a step's and its amount the smaller side
  has_link : (steps : List Step) (l amount : ℕ) → Contains (map (reserved_by tree hose) steps) (l, amount) → Contains (step_links steps) l × (amount ≡ smaller_side tree hose l)
  has_link [] l amount there = absurd (none_in_empty (l, amount) there)
  has_link (step ∷ steps) l amount there =
      elim (first_or_rest (reserved_by tree hose step) (l, amount) (map (reserved_by tree hose) steps) there) [
        | inl same ↦
            let link : step.link ≡ l = ap (λ (pair : ℕ × ℕ). pair.0) same in
            (contains_first step.link l (step_links steps) link, sym (ap (λ (pair : ℕ × ℕ). pair.1) same) ∙ ap (smaller_side tree hose) link)
        | inr behind ↦
            let rest = has_link steps l amount behind in
            (contains_rest step.link l (step_links steps) rest.0, rest.1)
      ]

  has_amount : (steps : List Step) (l amount : ℕ) → Contains (step_links steps) l → amount ≡ smaller_side tree hose l → Contains (map (reserved_by tree hose) steps) (l, amount)
  has_amount [] l amount there smaller = absurd (none_in_empty l there)
  has_amount (step ∷ steps) l amount there smaller =
      elim (first_or_rest step.link l (step_links steps) there) [
        | inl link ↦ contains_first (reserved_by tree hose step) (l, amount) (map (reserved_by tree hose) steps)
            (ap (λ (n : ℕ). (n, smaller_side tree hose n)) link ∙ ap (λ (n : ℕ). (l, n)) (sym smaller))
        | inr behind ↦ contains_rest (reserved_by tree hose step) (l, amount) (map (reserved_by tree hose) steps) (has_amount steps l amount behind smaller)
      ]

  pub IsReservation-sorted : (network : Network) (pairs sorted : List (ℕ × ℕ)) → IsTree network tree → pairs ≡ map (reserved_by tree hose) (reverse tree.steps)
      → IsPermutation pairs sorted → IsNonDecreasingBy (λ (pair : ℕ × ℕ). pair.0) sorted → IsReservation tree hose sorted
  IsReservation-sorted network pairs sorted is are moves rises =
      let amounts = map (reserved_by tree hose) tree.steps in
      let turned : IsPermutation amounts (map (reserved_by tree hose) (reverse tree.steps)) =
      IsPermutation-map (reserved_by tree hose) tree.steps (reverse tree.steps) (IsPermutation-reverse tree.steps) in
      let all : IsPermutation amounts sorted =
      IsPermutation-trans amounts pairs sorted (subst (IsPermutation amounts) (sym are) turned) moves in
      let apart : IsDistinct eqb (firsts amounts) = subst (IsDistinct eqb) (sym (firsts_are_links tree.steps)) (tree_links_differ network tree is) in
      record {
        ascending = ascend_sorted amounts sorted apart all rises;
        each = λ l amount. (
          λ there. has_link tree.steps l amount (Contains-permutation sorted amounts (l, amount) (IsPermutation-sym amounts sorted all) there),
          λ both. Contains-permutation amounts sorted (l, amount) all (has_amount tree.steps l amount both.0 both.1),
        );
      }
