-- What a crew leaves, once it has served the connections of a door.
use Rattle.std.specs.Prelude.{◌≡◌, ◌⊎◌, ℕ, ◌+◌, ◌≤◌, List, [], ◌++◌, drop, length, Option, None, Some, OnOk, Result, ⊤}
use Rattle.hose_io.specs.Connections.{Connection, Connections}
use Rattle.hose_io.specs.declared.Failed.{Failed}
use Rattle.hose_session.specs.Accounts.{AccountFor}
use Rattle.hose_turn.specs.Known.{Known}

-- These connections were accepted, served along the pass, and given back. They are as many as were
-- to be served, unless no more came or the door failed.
pub record HaveBeenServed {T : Type 0} (was now : Connections) (count : ℕ) (pass : Known)
    (result : Result T Failed) : Type 0 where
  pub connections : List Connection
  pub accepted : now.accepted ≡ was.accepted + length connections
  pub coming : now.coming ≡ drop (length connections) was.coming
  pub ended : now.ended ≡ was.ended ++ connections
  pub few : length connections ≤ count
  pub all : OnOk result ((length connections ≡ count) ⊎ (now.coming ≡ []))
  pub account : AccountFor connections pass

-- Where the door tells, its connections have been served so; whether it tells stays as it was.
abbrev pub AreServed : {T : Type 0} → Option Connections → Option Connections → ℕ → Known
    → Result T Failed → Type 0
AreServed None None count pass result = ⊤
AreServed None (Some now) count pass result = ⊥
AreServed (Some was) None count pass result = ⊥
AreServed (Some was) (Some now) count pass result = HaveBeenServed was now count pass result
