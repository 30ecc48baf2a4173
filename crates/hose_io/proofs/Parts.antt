-- Parts of a buffer, and what is taken behind them.
use Rattle.std.proofs.Common.{◌≡◌, ◌∙◌, ℕ, ◌+◌, ◌-◌, ◌≤◌, List, ◌++◌, Option, length, take, drop, sym, ap, arith, add-zero, Result, Ok, Err, MatchResult, IfOk}
use Rattle.std.proofs.Math.Seq.{take-add}
use Rattle.std.specs.List.{slice_range}
use Rattle.std.specs.Result.{result_unwrap_or}
use Rattle.std.proofs.lemmas.List.{drop-drop, length-take-le, length-take, length-drop, drop-append-le}
use Rattle.std.proofs.lemmas.Slice.{between_is}
use Rattle.hose_io.specs.Stream.{Gives, Stream}
use Rattle.hose_io.specs.steps.Stream.{Appends}
use Rattle.hose_io.specs.declared.Failed.{Failed}

module _ {X : Type 0} where
  -- a part of a part
  pub drop-slice_range : (xs : List X) (i j k : ℕ) → drop k (slice_range xs i j) ≡ slice_range xs (i + k) j
  drop-slice_range xs i j k = ap (drop k) (between_is xs i j) ∙ (drop-drop k i (take j xs) ∙ sym (between_is xs (i + k) j))

  pub length-slice_range : (xs : List X) (i j : ℕ) → j ≤ length xs → length (slice_range xs i j) ≡ j - i
  length-slice_range xs i j inside = omega (arith, length-take (j - i) (drop i xs), length-drop i xs)

  -- two lists with one front have the same parts of it
  pub slice_range-same : (xs ys : List X) (i j : ℕ) → take j ys ≡ take j xs → slice_range ys i j ≡ slice_range xs i j
  slice_range-same xs ys i j same = between_is ys i j ∙ (ap (drop i) same ∙ sym (between_is xs i j))

  -- more elements behind a part
  pub slice_range-more : (xs : List X) (i j k : ℕ) → i ≤ j → j ≤ length xs → slice_range xs i (j + k) ≡ slice_range xs i j ++ take k (drop j xs)
  slice_range-more xs i j k ordered inside =
      let front : i ≤ length (take j xs) = omega (arith, length-take-le j xs inside) in
      between_is xs i (j + k) ∙ (ap (drop i) (take-add j k xs) ∙ (drop-append-le i (take j xs) (take k (drop j xs)) front
      ∙ ap (λ part. part ++ take k (drop j xs)) (sym (between_is xs i j))))

-- a call that takes at most so many bytes, seen as a number
pub unwrap_or_zero-le : (taken : Result ℕ Failed) (most : ℕ) → IfOk taken (λ count. count ≤ most) → result_unwrap_or taken 0 ≤ most
unwrap_or_zero-le (Ok count) most bound = bound
unwrap_or_zero-le (Err failed) most bound = omega arith

-- what a call took stands behind what was pending
pub appended : (taken : Result ℕ Failed) (before after : Option Stream) (xs ys : List ℕ) (start end : ℕ) → take end ys ≡ take end xs → start ≤ end → end + result_unwrap_or taken 0 ≤ length ys
    → MatchResult taken (λ count. Gives before after (take count (drop end ys))) (λ _. after ≡ before)
    → MatchResult taken (λ count. Appends before after (slice_range xs start end) (slice_range ys start (end + result_unwrap_or taken 0)) count) (λ _. (after ≡ before) × (slice_range ys start (end + result_unwrap_or taken 0) ≡ slice_range xs start end))
appended (Ok count) before after xs ys start end same ordered inside gives = record {
  bytes = take count (drop end ys);
  gives = gives;
  pending = slice_range-more ys start end count ordered (omega arith) ∙ ap (λ part. part ++ take count (drop end ys)) (slice_range-same xs ys start end same);
  counted = length-take-le count (drop end ys) (omega (arith, length-drop end ys));
}
appended (Err failed) before after xs ys start end same ordered inside kept =
    (kept, rw (add-zero) (slice_range-same xs ys start end same))
