-- What crosses a link: the load of a matrix within the rates is no more than the rates on either side.
use Rattle.std.proofs.Common.{◌≡◌, ◌∙◌, ℕ, ◌+◌, ◌<◌, ◌≤◌, Bool, true, false, not, List, length, get_or, cond, refl, ap, arith}
use Rattle.std.proofs.lemmas.List.{get_or-map}
use Rattle.hose_graph.specs.Hose.{total_rate}
use Rattle.hose_law.specs.steps.Heaviest.{lies_beyond}
use Rattle.hose_law.specs.Matrix.{sum_below, demand, rate_at, IsWithinRates}
use Rattle.hose_law.specs.Route.{one_alone, matrix_load}
use Rattle.hose_law.specs.Tree.{Growth, goes_along, way_up, rate_beyond, smaller_side}
use Rattle.hose_law.proofs.Sums.{sums-le, same_sums, sum_of_both, swapped_sums, sum_where, sum_over}

module _ (n : ℕ) (m : ℕ → ℕ → ℕ) where
  -- what goes from one side to the other
  abbrev pub crossing : (ℕ → Bool) → ℕ
  crossing side = sum_below n (λ i. sum_below n (λ j. cond (one_alone (side i) (side j)) (m i j) 0))

  -- it is part of what those on one side send and are sent
  crossing-le_side : (side : ℕ → Bool) → crossing side ≤ sum_below n (λ i. cond (side i) (sum_below n (m i)) 0 + cond (side i) (sum_below n (λ j. m j i)) 0)
  crossing-le_side side =
      let sends : ℕ → ℕ = λ i. cond (side i) (sum_below n (m i)) 0 in
      let is_sent : ℕ → ℕ = λ j. cond (side j) (sum_below n (λ i. m i j)) 0 in
      let split = sums-le n (λ i. sum_below n (λ j. cond (one_alone (side i) (side j)) (m i j) 0))
      (λ i. sum_below n (λ j. cond (side i) (m i j) 0 + cond (side j) (m i j) 0))
      (λ i i_below. sums-le n (λ j. cond (one_alone (side i) (side j)) (m i j) 0) (λ j. cond (side i) (m i j) 0 + cond (side j) (m i j) 0)
      (λ j j_below. one-le_both (side i) (side j) (m i j))) in
      let parts = same_sums n (λ i. sum_below n (λ j. cond (side i) (m i j) 0 + cond (side j) (m i j) 0))
      (λ i. sends i + sum_below n (λ j. cond (side j) (m i j) 0))
      (λ i i_below.
      let both = sum_of_both n (λ j. cond (side i) (m i j) 0) (λ j. cond (side j) (m i j) 0) in
      let row = sum_where n (side i) (m i) in
      omega (arith, both, row)) in
      let apart = sum_of_both n sends (λ i. sum_below n (λ j. cond (side j) (m i j) 0)) in
      let swapped = swapped_sums n n (λ i j. cond (side j) (m i j) 0) in
      let columns = same_sums n (λ j. sum_below n (λ i. cond (side j) (m i j) 0)) is_sent (λ j j_below. sum_where n (side j) (λ i. m i j)) in
      let together = sum_of_both n sends is_sent in
      omega (arith, split, parts, apart, swapped, columns, together)
    where
      one-le_both : (one other : Bool) (x : ℕ) → cond (one_alone one other) x 0 ≤ cond one x 0 + cond other x 0
      one-le_both true true x = omega arith
      one-le_both true false x = omega arith
      one-le_both false true x = omega arith
      one-le_both false false x = omega arith

  module _ (rate : ℕ → ℕ) (within : (i : ℕ) → i < n → sum_below n (m i) + sum_below n (λ j. m j i) ≤ rate i) where
    -- so it is no more than the rates there
    pub crossing-le : (side : ℕ → Bool) → crossing side ≤ sum_below n (λ i. cond (side i) (rate i) 0)
    crossing-le side =
        let parts = crossing-le_side side in
        let rates = sums-le n (λ i. cond (side i) (sum_below n (m i)) 0 + cond (side i) (sum_below n (λ j. m j i)) 0) (λ i. cond (side i) (rate i) 0)
        (λ i below. at (side i) (sum_below n (m i)) (sum_below n (λ j. m j i)) (rate i) (within i below)) in
        omega (arith, parts, rates)
      where
        at : (here : Bool) (sends is_sent most : ℕ) → sends + is_sent ≤ most → cond here sends 0 + cond here is_sent 0 ≤ cond here most 0
        at true sends is_sent most fits = fits
        at false sends is_sent most fits = omega arith

    -- nor than those on the other side
    pub crossing-le_other : (side : ℕ → Bool) → crossing side + sum_below n (λ i. cond (side i) (rate i) 0) ≤ sum_below n rate
    crossing-le_other side =
        let most = crossing-le (λ i. not (side i)) in
        let turned = same_sums n (λ i. sum_below n (λ j. cond (one_alone (side i) (side j)) (m i j) 0)) (λ i. sum_below n (λ j. cond (one_alone (not (side i)) (not (side j))) (m i j) 0))
        (λ i i_below. same_sums n (λ j. cond (one_alone (side i) (side j)) (m i j) 0) (λ j. cond (one_alone (not (side i)) (not (side j))) (m i j) 0)
        (λ j j_below. ap (λ (b : Bool). cond b (m i j) 0) (both_turned (side i) (side j)))) in
        let both = sum_of_both n (λ i. cond (not (side i)) (rate i) 0) (λ i. cond (side i) (rate i) 0) in
        let all = same_sums n (λ i. cond (not (side i)) (rate i) 0 + cond (side i) (rate i) 0) rate (λ i below. either (side i) (rate i)) in
        omega (arith, most, turned, both, all)
      where
        both_turned : (one other : Bool) → one_alone one other ≡ one_alone (not one) (not other)
        both_turned true true = refl
        both_turned true false = refl
        both_turned false true = refl
        both_turned false false = refl

        either : (here : Bool) (x : ℕ) → cond (not here) x 0 + cond here x 0 ≡ x
        either true x = omega arith
        either false x = omega arith

-- the sums over the places of a hose are those over its endpoints
pub beyond_by_place : (tree : Growth) (hose : List (ℕ × ℕ)) (l : ℕ)
    → sum_below (length hose) (λ i. cond (lies_beyond tree hose l i) (rate_at hose i) 0) ≡ rate_beyond tree hose l
beyond_by_place tree hose l =
    same_sums (length hose) (λ i. cond (lies_beyond tree hose l i) (rate_at hose i) 0)
    (λ i. beyond (get_or hose i (0, 0)))
    (λ i below.
    let node = get_or-map (λ (end : ℕ × ℕ). end.0) hose i (0, 0) 0 below in
    let rate = get_or-map (λ (end : ℕ × ℕ). end.1) hose i (0, 0) 0 below in
    ap (λ (v : ℕ). cond (goes_along (way_up tree v) l) (rate_at hose i) 0) node ∙ ap (λ (r : ℕ). cond (goes_along (way_up tree (get_or hose i (0, 0)).0) l) r 0) rate)
    ∙ sum_over beyond hose (0, 0)
  where
    beyond : ℕ × ℕ → ℕ
    beyond end = cond (goes_along (way_up tree end.0) l) end.1 0

pub total_by_place : (hose : List (ℕ × ℕ)) → sum_below (length hose) (rate_at hose) ≡ total_rate hose
total_by_place hose =
    let rate : ℕ × ℕ → ℕ = λ end. end.1 in
    same_sums (length hose) (rate_at hose) (λ i. rate (get_or hose i (0, 0))) (λ i below. get_or-map rate hose i (0, 0) 0 below) ∙ sum_over rate hose (0, 0)

-- A matrix within the rates puts no more on a link than the smaller side's rate sum.
pub load-le : (tree : Growth) (hose : List (ℕ × ℕ)) (matrix : List (List ℕ)) → IsWithinRates hose matrix → (l : ℕ) → matrix_load tree hose matrix l ≤ smaller_side tree hose l
load-le tree hose matrix within l =
    let one = crossing-le (length hose) (demand matrix) (rate_at hose) within.within (lies_beyond tree hose l) in
    let other = crossing-le_other (length hose) (demand matrix) (rate_at hose) within.within (lies_beyond tree hose l) in
    omega (arith, one, other, beyond_by_place tree hose l, total_by_place hose)
