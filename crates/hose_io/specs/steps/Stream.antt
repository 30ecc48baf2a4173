-- What the calls of sources and sinks do to the bytes that these tell of: steps of proofs.
use Rattle.std.specs.Prelude.{◌≡◌, ℕ, List, ◌++◌, length, Option}
use Rattle.hose_io.specs.Stream.{Gives, Stream}

-- This many bytes that a source gave come after those that were pending.
pub record Appends (before after : Option Stream) (old new : List ℕ) (count : ℕ) : Type 0 where
  pub bytes : List ℕ
  pub gives : Gives before after bytes
  pub pending : new ≡ old ++ bytes
  pub counted : length bytes ≡ count
