-- Rates that are paired off: the matrix of what each two endpoints have in common is within the rates, and puts the smaller side's rate sum on the link.
use Rattle.std.proofs.Common.{◌≡◌, ◌∙◌, ℕ, zero, suc, ◌+◌, ◌-◌, ◌<◌, ◌≤◌, Bool, true, false, List, length, min, max, cond, refl, sym, ap, arith}
use Rattle.std.specs.List.{All}
use Rattle.std.specs.Prelude.{nat_lt}
use Rattle.std.proofs.lemmas.Bool.Decides.{nat_tests}
use Rattle.hose_law.specs.steps.Heaviest.{lies_beyond, rate_before, common, IsPairedOff}
use Rattle.hose_law.specs.Matrix.{sum_below, demand, rate_at, IsWithinRates}
use Rattle.hose_law.specs.Route.{one_alone, matrix_load}
use Rattle.hose_law.specs.Tree.{Growth, smaller_side}
use Rattle.hose_law.proofs.Crossing.{crossing, beyond_by_place, total_by_place}
use Rattle.hose_law.proofs.Sums.{sums-le, same_sums, sum_of_both, sum_of_none}

module _ (rate : ℕ → ℕ) (side : ℕ → Bool) where
  -- the rates on the other side than this one, of those below m
  abbrev across : Bool → ℕ → ℕ
  across here m = sum_below m (λ k. cond (one_alone here (side k)) (rate k) 0)

  -- what lies between two numbers of that which i has
  abbrev overlap : ℕ → ℕ → ℕ → ℕ
  overlap first much j = min (first + much) (rate_before rate side j + rate j) - max first (rate_before rate side j)

  -- the rates before one that is on the other side
  before_across : (here : Bool) (m : ℕ) → one_alone here (side m) ≡ true → rate_before rate side m ≡ across here m
  before_across here m other =
      same_sums m (λ k. cond (one_alone (side k) (side m)) 0 (rate k)) (λ k. cond (one_alone here (side k)) (rate k) 0) (λ k below. at here (side k) (side m) (rate k) other)
    where
      at : (here there last : Bool) (x : ℕ) → one_alone here last ≡ true → cond (one_alone there last) 0 x ≡ cond (one_alone here there) x 0
      at true true false x other = refl
      at true false false x other = refl
      at false true true x other = refl
      at false false true x other = refl
      at here there last x other = cc

  -- All that something of a length has in common with the other side's rates is what of it lies within their sum.
  overlaps : (here : Bool) (first much m : ℕ) → sum_below m (λ j. cond (one_alone here (side j)) (overlap first much j) 0) + min first (across here m) ≡ min (first + much) (across here m)
  overlaps here first much zero = omega arith
  overlaps here first much (suc m) = at (one_alone here (side m)) refl (overlaps here first much m)
    where
      at : (other : Bool) → one_alone here (side m) ≡ other
          → sum_below m (λ j. cond (one_alone here (side j)) (overlap first much j) 0) + min first (across here m) ≡ min (first + much) (across here m)
          → (sum_below m (λ j. cond (one_alone here (side j)) (overlap first much j) 0) + cond other (overlap first much m) 0) + min first (across here m + cond other (rate m) 0)
          ≡ min (first + much) (across here m + cond other (rate m) 0)
      at true is earlier = let before = before_across here m is in omega (arith, before, earlier)
      at false is earlier = omega (arith, earlier)

  common_turned : (i j : ℕ) → common rate side i j ≡ common rate side j i
  common_turned i j = at (side i) (side j) (rate_before rate side i) (rate i) (rate_before rate side j) (rate j)
    where
      at : (one other : Bool) (a b c d : ℕ) → cond (one_alone one other) (min (a + b) (c + d) - max a c) 0 ≡ cond (one_alone other one) (min (c + d) (a + b) - max c a) 0
      at true true a b c d = refl
      at true false a b c d = omega arith
      at false true a b c d = omega arith
      at false false a b c d = refl

  -- what i has in common with those below m
  commons : (i m : ℕ) → sum_below m (common rate side i) + min (rate_before rate side i) (across (side i) m) ≡ min (rate_before rate side i + rate i) (across (side i) m)
  commons i m = overlaps (side i) (rate_before rate side i) (rate i) m

  -- what stands in the row of i and the column of j
  abbrev paired : ℕ → ℕ → ℕ
  paired i j = cond (nat_lt i j) (common rate side i j) 0

  paired_itself : (i : ℕ) → paired i i ≡ 0
  paired_itself i = grind (arith, nat_tests)

  -- so no one is above its rate
  paired-le : (n i : ℕ) → sum_below n (paired i) + sum_below n (λ j. paired j i) ≤ rate i
  paired-le n i =
      let both = sum_of_both n (paired i) (λ j. paired j i) in
      let once = sums-le n (λ j. paired i j + paired j i) (common rate side i) (λ j below. at j) in
      let all = commons i n in
      omega (arith, both, once, all)
    where
      at : (j : ℕ) → paired i j + paired j i ≤ common rate side i j
      at j = let turned = common_turned i j in grind (arith, nat_tests)

  -- what crosses the link
  abbrev crossed : ℕ → ℕ
  crossed m = crossing m paired side

  -- where one more endpoint comes
  crossed_more : (m : ℕ) → crossed (suc m) ≡ crossed m + sum_below m (common rate side m)
  crossed_more m =
      let x : ℕ → ℕ → ℕ = λ i j. cond (one_alone (side i) (side j)) (paired i j) 0 in
      let both = sum_of_both m (λ i. sum_below m (x i)) (λ i. x i m) in
      let column = same_sums m (λ i. x i m) (common rate side m) (λ i below. to_last i below) in
      let row = sum_of_none m (x m) (λ j below. from_last j below) in
      omega (arith, both, column, row, last)
    where
      to_last : (i : ℕ) → i < m → cond (one_alone (side i) (side m)) (paired i m) 0 ≡ common rate side m i
      to_last i below =
          let turned = common_turned i m in
          let here : paired i m ≡ common rate side i m = grind (arith, nat_tests) in
          at (one_alone (side i) (side m)) refl here turned
        where
          at : (other : Bool) → one_alone (side i) (side m) ≡ other → paired i m ≡ common rate side i m → common rate side i m ≡ common rate side m i → cond other (paired i m) 0 ≡ common rate side m i
          at true is here turned = here ∙ turned
          at false is here turned =
              let none : common rate side i m ≡ 0 = ap (λ (b : Bool). cond b (overlap (rate_before rate side i) (rate i) m) 0) is in
              sym none ∙ turned

      from_last : (j : ℕ) → j < m → cond (one_alone (side m) (side j)) (paired m j) 0 ≡ 0
      from_last j below =
          let none : paired m j ≡ 0 = grind (arith, nat_tests) in
          at (one_alone (side m) (side j)) none
        where
          at : (other : Bool) → paired m j ≡ 0 → cond other (paired m j) 0 ≡ 0
          at true none = none
          at false none = refl

      last : cond (one_alone (side m) (side m)) (paired m m) 0 ≡ 0
      last = at (one_alone (side m) (side m)) (paired_itself m)
        where
          at : (other : Bool) → paired m m ≡ 0 → cond other (paired m m) 0 ≡ 0
          at true none = none
          at false none = refl

  -- The lesser of both sides' rates crosses the link.
  crossed_all : (m : ℕ) → crossed m ≡ min (across false m) (across true m)
  crossed_all zero = refl
  crossed_all (suc m) =
      let earlier = crossed_all m in
      let more = crossed_more m in
      at (side m) refl earlier more (commons m m)
    where
      at : (here : Bool) → side m ≡ here → crossed m ≡ min (across false m) (across true m) → crossed (suc m) ≡ crossed m + sum_below m (common rate side m)
          → sum_below m (common rate side m) + min (rate_before rate side m) (across (side m) m) ≡ min (rate_before rate side m + rate m) (across (side m) m)
          → crossed (suc m) ≡ min (across false m + cond (one_alone false (side m)) (rate m) 0) (across true m + cond (one_alone true (side m)) (rate m) 0)
      at true is earlier more sum =
          let before = before_across false m is in
          let same = ap (λ (b : Bool). across b m) is in
          let grown = ap (λ (b : Bool). cond (one_alone false b) (rate m) 0) is in
          let stays = ap (λ (b : Bool). cond (one_alone true b) (rate m) 0) is in
          omega (arith, earlier, more, sum, before, same, grown, stays)
      at false is earlier more sum =
          let before = before_across true m (ap (one_alone true) is) in
          let same = ap (λ (b : Bool). across b m) is in
          let grown = ap (λ (b : Bool). cond (one_alone true b) (rate m) 0) is in
          let stays = ap (λ (b : Bool). cond (one_alone false b) (rate m) 0) is in
          omega (arith, earlier, more, sum, before, same, grown, stays)

  -- both sides together
  both_sides : (n : ℕ) → across false n + across true n ≡ sum_below n rate
  both_sides n =
      sym (sum_of_both n (λ k. cond (one_alone false (side k)) (rate k) 0) (λ k. cond (one_alone true (side k)) (rate k) 0))
      ∙ same_sums n (λ k. cond (one_alone false (side k)) (rate k) 0 + cond (one_alone true (side k)) (rate k) 0) rate (λ k below. at (side k) (rate k))
    where
      at : (here : Bool) (x : ℕ) → cond (one_alone false here) x 0 + cond (one_alone true here) x 0 ≡ x
      at true x = omega arith
      at false x = omega arith

module _ (tree : Growth) (hose : List (ℕ × ℕ)) (l : ℕ) where
  abbrev n : ℕ
  n = length hose

  abbrev pub standing : ℕ → ℕ → ℕ
  standing i j = paired (rate_at hose) (lies_beyond tree hose l) i j

  module _ (matrix : List (List ℕ)) (off : IsPairedOff tree hose l matrix) where
    -- A matrix of rates that are paired off is within the rates,
    pub paired_within : length matrix ≡ n → All (λ (row : List ℕ). length row ≡ n) matrix → IsWithinRates hose matrix
    paired_within rows columns = record {
      rows = rows;
      columns = columns;
      diagonal = λ i below. off i i below below ∙ paired_itself (rate_at hose) (lies_beyond tree hose l) i;
      within = λ i below.
          let row = same_sums n (λ j. demand matrix i j) (standing i) (λ j j_below. off i j below j_below) in
          let column = same_sums n (λ j. demand matrix j i) (λ j. standing j i) (λ j j_below. off j i j_below below) in
          let most = paired-le (rate_at hose) (lies_beyond tree hose l) n i in
          omega (arith, row, column, most);
    }

    -- and puts on the link what is reserved there.
    pub paired_load : matrix_load tree hose matrix l ≡ smaller_side tree hose l
    paired_load =
        let side : ℕ → Bool = lies_beyond tree hose l in
        let same = same_sums n (λ i. sum_below n (λ j. cond (one_alone (side i) (side j)) (demand matrix i j) 0)) (λ i. sum_below n (λ j. cond (one_alone (side i) (side j)) (standing i j) 0))
        (λ i i_below. same_sums n (λ j. cond (one_alone (side i) (side j)) (demand matrix i j) 0) (λ j. cond (one_alone (side i) (side j)) (standing i j) 0)
        (λ j j_below. ap (λ (x : ℕ). cond (one_alone (side i) (side j)) x 0) (off i j i_below j_below))) in
        let all = crossed_all (rate_at hose) side n in
        let both = both_sides (rate_at hose) side n in
        omega (arith, same, all, both, beyond_by_place tree hose l, total_by_place hose)
