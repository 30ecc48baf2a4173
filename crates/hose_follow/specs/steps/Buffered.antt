-- What a buffer of an input holds.
use Rattle.std.specs.Prelude.{ℕ, List}

-- what a buffer of an input holds, and how many bytes more fit after it
pub record BufferState : Type 0 where
  pub pending : List ℕ
  pub room : ℕ
