-- What reading lines does to a reader, whatever it reads.
use Rattle.std.specs.Prelude.{ℕ, List, Option, IfSome}
use Rattle.hose_io.specs.Stream.{Stream}

-- what holds of the bytes that a source had left and those that it has left, where it tells them
abbrev pub WhereTold : Option Stream → Option Stream → (List ℕ → List ℕ → Type 0) → Type 0
WhereTold old new P = IfSome old (λ before. IfSome new (λ after. P before.left after.left))
