-- Connections: what one comes to, and what the calls of a door do to those that it tells of.
use Rattle.std.specs.Prelude.{ℕ, List}

-- A connection that ended: the bytes that were taken from its input, those that were left there,
-- those that were left there when it was asked last, the bytes that its output was given, and how
-- often each of them failed. At its start nothing was taken or given, and nothing had failed.
pub record Connection : Type 0 where
  pub taken : List ℕ
  pub left : List ℕ
  pub asked : List ℕ
  pub given : List ℕ
  pub reading : ℕ
  pub writing : ℕ

-- the connections of a door: how many it has accepted, the bytes of each that is still to come, and
-- those that ended and came back
pub record Connections : Type 0 where
  pub accepted : ℕ
  pub coming : List (List ℕ)
  pub ended : List Connection
