-- The numbers of a journal's layout, which definitions cite in place of the code's constants: steps
-- of proofs.
use Rattle.std.specs.Prelude.{ℕ}

-- the gate that is closed
abbrev pub closed_gate : ℕ
closed_gate = 0

-- the bytes of a journal's head
abbrev pub head_bytes : ℕ
head_bytes = 38
