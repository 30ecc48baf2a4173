-- The numbers of the spelling of entries, which definitions cite in place of the code's constants:
-- steps of proofs.
use Rattle.std.specs.Prelude.{ℕ}

-- the bytes of a link and its amount
abbrev pub pair_bytes : ℕ
pair_bytes = 6
