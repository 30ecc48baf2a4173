-- What happens at the connections of a network, one thing after another.
use Rattle.std.specs.Prelude.{ℕ, List}

-- What happens at the link to a standby, which is one connection at a time: it was opened to the
-- Unix socket of this path, it gave bytes, it was sent bytes, it was closed. And nothing was heard
-- of a standby for as long as was said.
pub data LinkStep : Type 0 where
  Opened : (path : List ℕ) → LinkStep
  Gave : (bytes : List ℕ) → LinkStep
  Took : (bytes : List ℕ) → LinkStep
  Closed : LinkStep
  Late : LinkStep

-- A connection has a place, which it alone has until it left: it came there through this door, it
-- gave bytes, it was sent bytes, it would take no more for now, it was let go. And something
-- happened at the link to a standby, or the host is to stop.
pub data Happening : Type 0 where
  Came : (door place : ℕ) → Happening
  Got : (place : ℕ) (bytes : List ℕ) → Happening
  Sent : (place : ℕ) (bytes : List ℕ) → Happening
  Refused : (place : ℕ) → Happening
  Left : (place : ℕ) → Happening
  Linked : LinkStep → Happening
  Stopped : Happening
