-- Parts of a buffer, and the first line feed in them.
use Rattle.std.proofs.Common.{◌≡◌, ℕ, ◌+◌, ◌-◌, ◌≤◌, Bool, not, cond, eqb, List, [], ◌∷◌, ◌++◌, length, take, drop, suc, zero, sym, ap, ◌∙◌, arith, zero-add}
use Rattle.std.specs.List.{position_or_len, slice_range}
use Rattle.hose_io.proofs.Parts.{drop-slice_range, slice_range-more, slice_range-same}
use Rattle.std.proofs.lemmas.List.{take-take}
use Rattle.std.proofs.lemmas.List.Folds.{prefix_len-append}
use Rattle.std.proofs.lemmas.List.Sums.{prefix_len-le-length}
use Rattle.std.proofs.lemmas.Bool.{cond_both}

module _ {X : Type 0} where
  -- the front of a part
  pub take-slice_range : (xs : List X) (i j k : ℕ) → i + k ≤ j → take k (slice_range xs i j) ≡ slice_range xs i (i + k)
  take-slice_range xs i j k inside =
      let width : k ≡ i + k - i = omega arith in
      take-take k (j - i) (drop i xs) (omega arith) ∙ ap (λ n. take n (drop i xs)) width

  module _ (p : X → Bool) where
    -- elements that were searched need no second search
    pub position_or_len-drop : (xs : List X) (k : ℕ) → k ≤ position_or_len p xs → position_or_len p xs ≡ k + position_or_len p (drop k xs)
    position_or_len-drop xs zero searched = sym (zero-add (position_or_len p xs))
    position_or_len-drop [] (suc k) searched = absurd (omega arith)
    position_or_len-drop (x ∷ xs) (suc k) searched =
        cond_both (not (p x)) (1 + position_or_len p xs) 0 (λ at. suc k ≤ at → at ≡ suc k + position_or_len p (drop k xs))
        (λ _ low. omega (arith, position_or_len-drop xs k (omega arith)))
        (λ _ low. absurd (omega arith))
        searched

    pub position_or_len-le-append : (xs ys : List X) → position_or_len p xs ≤ position_or_len p (xs ++ ys)
    position_or_len-le-append xs ys =
        let at = position_or_len p xs in
        let bound : at ≤ length xs = prefix_len-le-length (λ x. not (p x)) xs in
        let whole : at ≤ cond (eqb at (length xs)) (length xs + position_or_len p ys) at =
        cond_both (eqb at (length xs)) (length xs + position_or_len p ys) at (λ n. at ≤ n) (λ _. omega arith) (λ _. omega arith) in
        rw (prefix_len-append (λ x. not (p x)) xs ys) whole

    pub position_or_len-searched : (xs : List X) (start end searched more : ℕ) → searched ≤ position_or_len p (slice_range xs start end) → more ≡ position_or_len p (slice_range xs (start + searched) end) → position_or_len p (slice_range xs start end) ≡ searched + more
    position_or_len-searched xs start end searched more low here =
        position_or_len-drop (slice_range xs start end) searched low
        ∙ ap (λ at. searched + at) (ap (position_or_len p) (drop-slice_range xs start end searched) ∙ sym here)

    -- what was searched stays so where more is taken behind it
    pub position_or_len-le-more : (xs ys : List X) (start end k : ℕ) → take end ys ≡ take end xs → start ≤ end → end ≤ length ys → position_or_len p (slice_range xs start end) ≤ position_or_len p (slice_range ys start (end + k))
    position_or_len-le-more xs ys start end k same ordered inside =
        rw (slice_range-more ys start end k ordered inside, slice_range-same xs ys start end same)
        (position_or_len-le-append (slice_range xs start end) (take k (drop end ys)))
