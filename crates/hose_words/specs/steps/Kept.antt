-- What a reader keeps beside its source.
use Rattle.std.specs.Prelude.{ℕ, Bool, List, Option}
use Rattle.hose_words.specs.declared.lines.LineFault.{LineFault}

-- the line that was cut off last, the bytes that are pending, how many were taken, the fault, and
-- whether the source met its end
pub record ReaderState : Type 0 where
  pub line : List ℕ
  pub pending : List ℕ
  pub taken : ℕ
  pub fault : Option LineFault
  pub ended : Bool
