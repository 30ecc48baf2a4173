-- Counts that are kept in 64 bits: steps of proofs.
use Rattle.std.specs.Prelude.{ℕ, ◌==◌, if◌then◌else◌}
use Rattle.hose_io.specs.Count.{one_more}

-- a count of pieces after a call that took so many of the bytes that it was given: a piece more
-- where it took all of them
abbrev pub pieces_after : ℕ → ℕ → ℕ → ℕ
pieces_after pieces took given = if took == given then one_more pieces else pieces
