-- The lines of a move: lines of numbers.
use Rattle.std.proofs.Common.{◌≡◌, ℕ, ◌<◌, ◌≤◌, get_or, length, take, arith}
use Rattle.std.specs.List.{range_with_len}
use Rattle.std.proofs.lemmas.List.{take_all}
use Rattle.std.proofs.lemmas.List.FromFn.{get_or-range_with_len, length-range_with_len}

-- a place is a number of its own
pub place_at : (n i : ℕ) → i < n → get_or (range_with_len 0 n) i 0 ≡ i
place_at n i below = omega (arith, get_or-range_with_len 0 n i 0 below)

pub place_inside : (n i : ℕ) → i < n → i < length (range_with_len 0 n)
place_inside n i below = omega (arith, below, length-range_with_len 0 n)

-- all places were taken
pub places_taken : (n i : ℕ) → n ≤ i → take i (range_with_len 0 n) ≡ range_with_len 0 n
places_taken n i past = take_all i (range_with_len 0 n) (omega (arith, past, length-range_with_len 0 n))
