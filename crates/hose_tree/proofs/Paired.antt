-- The matrix of the rates that are paired off, made row by row.
use Rattle.std.proofs.Common.{◌≡◌, ◌∙◌, ℕ, ◌+◌, ◌-◌, Bool, List, [], ◌∷◌, ◌++◌, cond, get_or, length, map, max, min, refl, sym, ap, arith}
use Rattle.std.specs.List.{All, range_with_len}
use Rattle.std.specs.Prelude.{nat_lt}
use Rattle.std.proofs.lemmas.List.{get_or-map, length-map, map-append}
use Rattle.std.proofs.lemmas.List.FromFn.{get_or-map-range_with_len, length-map-range_with_len, map-range_with_len_more}
use Rattle.hose_law.specs.steps.Heaviest.{IsPairedOff, common, lies_beyond, rate_before}
use Rattle.hose_law.specs.Matrix.{IsWithinRates, rate_at}
use Rattle.hose_law.specs.Route.{matrix_load, one_alone}
use Rattle.hose_law.specs.Tree.{Growth, smaller_side}
use Rattle.hose_law.proofs.PairedOff.{paired_load, paired_within}
use Rattle.hose_law.proofs.Sums.{same_sums}
use Rattle.hose_tree.specs.steps.Side.{AreBeyond, is_marked, paired}
use Rattle.hose_tree.proofs.Marks.{marked_beyond}

-- the first k rows
abbrev pub rows_of : List (ℕ × ℕ) → List Bool → ℕ → List (List ℕ)
rows_of hose marks k = map (λ i. map (paired hose marks i) (range_with_len 0 (length hose))) (range_with_len 0 k)

-- one row more
pub rows_more : {V : Type 0} → (items : V → List ℕ) (hose : List (ℕ × ℕ)) (marks : List Bool) (rows : List V) (row : V) (k : ℕ)
    → map items rows ≡ rows_of hose marks k → items row ≡ map (paired hose marks k) (range_with_len 0 (length hose)) → map items (rows ++ row ∷ []) ≡ rows_of hose marks (k + 1)
rows_more items hose marks rows row k before is =
    map-append items rows (row ∷ [])
    ∙ ap (λ (front : List (List ℕ)). front ++ items row ∷ []) before
    ∙ ap (λ (last : List ℕ). rows_of hose marks k ++ last ∷ []) is
    ∙ sym (map-range_with_len_more (λ i. map (paired hose marks i) (range_with_len 0 (length hose))) 0 k k (omega arith))

-- all rows together are square
pub rows_square : {V : Type 0} → (items : V → List ℕ) (hose : List (ℕ × ℕ)) (marks : List Bool) (rows : List V) (k : ℕ) → k ≡ length hose → map items rows ≡ rows_of hose marks k
    → All (λ (row : V). length (items row) ≡ length rows) rows
rows_square items hose marks rows k all are =
    let row : ℕ → List ℕ = λ i. map (paired hose marks i) (range_with_len 0 (length hose)) in
    let count : length rows ≡ length hose = sym (length-map rows items) ∙ ap length are ∙ length-map-range_with_len row 0 k ∙ all in
    λ i d below.
    sym (ap length (get_or-map items rows i d (items d) below))
    ∙ ap (λ (m : List (List ℕ)). length (get_or m i (items d))) are
    ∙ ap length (get_or-map-range_with_len row 0 k i i (items d) (omega (arith, below, count, all)) (omega arith))
    ∙ length-map-range_with_len (paired hose marks i) 0 (length hose)
    ∙ sym count

module _ (rate : ℕ → ℕ) (side other : ℕ → Bool) (same : (i : ℕ) → side i ≡ other i) where
  before_same : (i : ℕ) → rate_before rate side i ≡ rate_before rate other i
  before_same i =
      same_sums i (λ k. cond (one_alone (side k) (side i)) 0 (rate k)) (λ k. cond (one_alone (other k) (other i)) 0 (rate k)) (λ k below. at (side k) (other k) (side i) (other i) (rate k) (same k) (same i))
    where
      at : (a b c d : Bool) (x : ℕ) → a ≡ b → c ≡ d → cond (one_alone a c) 0 x ≡ cond (one_alone b d) 0 x
      at a b c d x first second = rw (first, second) refl

  -- what two have in common depends on the sides alone
  common_same : (i j : ℕ) → common rate side i j ≡ common rate other i j
  common_same i j = at (same i) (same j) (before_same i) (before_same j)
    where
      at : {a b c d : Bool} {w x y z : ℕ} → a ≡ b → c ≡ d → w ≡ x → y ≡ z
          → cond (one_alone a c) (min (w + rate i) (y + rate j) - max w y) 0 ≡ cond (one_alone b d) (min (x + rate i) (z + rate j) - max x z) 0
      at p q r s = rw (p, q, r, s) refl

module _ (tree : Growth) (hose : List (ℕ × ℕ)) (link : ℕ) (marks : List Bool) (are : AreBeyond tree link marks) (k : ℕ) (all : k ≡ length hose)
    (matrix : List (List ℕ)) (is : matrix ≡ rows_of hose marks k) where
  -- The matrix of all rows is the one in which the rates of the sides are paired off.
  pub is_paired_off : IsPairedOff tree hose link matrix
  is_paired_off i j i_below j_below =
      let row : ℕ → List ℕ = λ n. map (paired hose marks n) (range_with_len 0 (length hose)) in
      ap (λ (m : List (List ℕ)). get_or (get_or m i []) j 0) is
      ∙ ap (λ (r : List ℕ). get_or r j 0) (get_or-map-range_with_len row 0 k i i [] (omega (arith, i_below, all)) (omega arith))
      ∙ get_or-map-range_with_len (paired hose marks i) 0 (length hose) j j 0 j_below (omega arith)
      ∙ ap (λ (n : ℕ). cond (nat_lt i j) n 0) (common_same (rate_at hose) (is_marked hose marks) (lies_beyond tree hose link) (marked_beyond tree hose link marks are) i j)

  pub is_within : IsWithinRates hose matrix
  is_within =
      let row : ℕ → List ℕ = λ n. map (paired hose marks n) (range_with_len 0 (length hose)) in
      paired_within tree hose link matrix is_paired_off (ap length is ∙ length-map-range_with_len row 0 k ∙ all)
      (λ i d below.
      ap (λ (m : List (List ℕ)). length (get_or m i d)) is
      ∙ ap length (get_or-map-range_with_len row 0 k i i d (omega (arith, below, ap length is, length-map-range_with_len row 0 k)) (omega arith))
      ∙ length-map-range_with_len (paired hose marks i) 0 (length hose))

  pub has_load : matrix_load tree hose matrix link ≡ smaller_side tree hose link
  has_load = paired_load tree hose link matrix is_paired_off
