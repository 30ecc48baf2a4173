-- The fields that entries are spelled with. Numbers stand highest byte first: steps of proofs.
use Rattle.std.specs.Prelude.{ℕ, ◌<◌, ◌^◌}

-- the numbers of a pair fit its bytes
pub record FitsPair (pair : ℕ × ℕ) : Type 0 where
  pub first : pair.0 < 2 ^ 16
  pub second : pair.1 < 2 ^ 32
