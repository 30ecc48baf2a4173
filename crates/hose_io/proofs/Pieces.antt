-- How many pieces a sink was given after one call.
use Rattle.std.proofs.Common.{◌≡◌, ℕ, ◌<◌, ◌==◌, if◌then◌else◌, arith}
use Rattle.hose_io.specs.Count.{one_more}

-- a call that took a part
pub short_of_piece : (k n was now : ℕ) → now ≡ (if k == n then one_more was else was) → k < n → now ≡ was
short_of_piece k n was now is short = grind arith

-- a call that took all
pub whole_piece : (k n was now : ℕ) → now ≡ (if k == n then one_more was else was) → k ≡ n → now ≡ one_more was
whole_piece k n was now is whole = grind arith
