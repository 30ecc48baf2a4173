-- What it does to a side that two nodes are put on it.
use Rattle.std.proofs.Common.{◌≡◌, ◌≢◌, ◌⊎◌, ℕ, zero, suc, ◌+◌, ◌<◌, ◌≤◌, Bool, true, false, List, [], ◌∷◌, length, get_or, set, refl, sym, ◌∙◌, ap, subst, inl, inr, arith, cond, length-set, replicate}
use Rattle.std.proofs.lemmas.List.{get_or-set_other}
use Rattle.std.proofs.lemmas.List.Sums.{sum_by-set, sum_by-cons}
use Rattle.std.proofs.lemmas.Bool.{cases_eq, cond_both, false≢true}
use Rattle.hose_graph.specs.Network.{Network}
use Rattle.hose_law.specs.Walk.{IsIn, Joins, Reaches}
use Rattle.hose_law.specs.steps.Walk.{IsClosedSide}
use Rattle.hose_law.specs.steps.Plan.{IsReachedSet}
use Rattle.hose_law.proofs.Walks.{joins_turned, reaches_itself, reaches_on, reaches_along, stays}
use Rattle.hose_tree.specs.steps.Reach.{count_on, AllReached}

-- one that is on it afterwards was on it, or is the one that was put there
pub put_adds : (side : List Bool) (i v : ℕ) → IsIn (set side i true) v → (v ≡ i) ⊎ IsIn side v
put_adds side i v there = elim (cases_eq v i) [
  | inl same ↦ inl same
  | inr other ↦ inr (sym (get_or-set_other side i v true false other) ∙ there)
]

abbrev bit : Bool → ℕ
bit b = cond b 1 0

-- of two nodes of which one was on the side, the other is counted now
pub pair_counts : (side : List Bool) (a b : ℕ) → a < length side → b < length side → (get_or side a false ≡ get_or side b false → ⊥)
    → count_on side < count_on (set (set side a true) b true)
pair_counts side a b in_a in_b differ =
    let apart : b ≢ a = λ same. differ (ap (λ n. get_or side n false) (sym same)) in
    let first = sum_by-set bit side a true false in_a in
    let second = sum_by-set bit (set side a true) b true false (omega (arith, length-set side a true, in_b)) in
    let same = get_or-set_other side a b true false apart in
    let second_at : count_on (set (set side a true) b true) + bit (get_or side b false) ≡ count_on (set side a true) + 1 =
    subst (λ x. count_on (set (set side a true) b true) + bit x ≡ count_on (set side a true) + 1) same second in
    one_of (get_or side a false) (get_or side b false) differ (count_on side) (count_on (set side a true)) (count_on (set (set side a true) b true)) first second_at
  where
    one_of : (x y : Bool) → (x ≡ y → ⊥) → (n m k : ℕ) → m + bit x ≡ n + 1 → k + bit y ≡ m + 1 → n < k
    one_of true true differ n m k e f = absurd (differ refl)
    one_of true false differ n m k e f = omega arith
    one_of false true differ n m k e f = omega arith
    one_of false false differ n m k e f = absurd (differ refl)

-- where a link of the set joins them and one is reached, both are
pub pair_reached : (network : Network) (links : List Bool) (from : ℕ) (side : List Bool) (l a b : ℕ) → IsIn links l → Joins network l a b
    → (get_or side a false ≡ get_or side b false → ⊥) → AllReached network links from side → AllReached network links from (set (set side a true) b true)
pair_reached network links from side l a b there joins differ all v on =
    elim (put_adds (set side a true) b v on) [
      | inl is_b ↦ subst (Reaches network links from) (sym is_b) reach_b
      | inr before ↦ elim (put_adds side a v before) [
        | inl is_a ↦ subst (Reaches network links from) (sym is_a) reach_a
        | inr old ↦ all v old
      ]
    ]
  where
    along : Reaches network links a b
    along = reaches_along network links a b l there joins

    back : Reaches network links b a
    back = reaches_along network links b a l there (joins_turned network l a b joins)

    other_is : (x y : Bool) → (x ≡ y → ⊥) → (x ≡ true) ⊎ (y ≡ true)
    other_is true y apart = inl refl
    other_is false true apart = inr refl
    other_is false false apart = absurd (apart refl)

    reach_a : Reaches network links from a
    reach_a = elim (other_is (get_or side a false) (get_or side b false) differ) [
      | inl on_a ↦ all a on_a
      | inr on_b ↦ reaches_on network links from b a (all b on_b) back
    ]

    reach_b : Reaches network links from b
    reach_b = elim (other_is (get_or side a false) (get_or side b false) differ) [
      | inl on_a ↦ reaches_on network links from a b (all a on_a) along
      | inr on_b ↦ all b on_b
    ]

-- no more nodes are on a side than there are
pub count_le : (side : List Bool) → count_on side ≤ length side
count_le [] = omega arith
count_le (on ∷ side) = let first = sum_by-cons bit on side in let rest = count_le side in let small : bit on ≤ 1 = cond_both on 1 0 (λ n. n ≤ 1) (λ _. omega arith) (λ _. omega arith) in omega arith

-- a side with its start, of which every node is reached and out of which no link leads, is all that is reached
pub side_done : (network : Network) (links : List Bool) (from : ℕ) (side : List Bool) → length side ≡ length network.nodes → IsIn side from
    → AllReached network links from side → IsClosedSide network links side → IsReachedSet network links from side
side_done network links from side places start all closed = record {
  places = places;
  reached = λ v there. (λ on. all v on, λ reach. stays network links side closed from v reach.0 reach.1 start);
}

-- at first only the start is on it, which is reached
pub start_reached : (network : Network) (links : List Bool) (from n : ℕ) → AllReached network links from (set (replicate n false) from true)
start_reached network links from n v on = elim (put_adds (replicate n false) from v on) [
  | inl same ↦ subst (Reaches network links from) (sym same) (reaches_itself network links from)
  | inr old ↦ absurd (none_on n v old)
]
  where
    none_on : (n v : ℕ) → IsIn (replicate n false) v → ⊥
    none_on zero v on = false≢true on
    none_on (suc n) zero on = false≢true on
    none_on (suc n) (suc v) on = none_on n v on
