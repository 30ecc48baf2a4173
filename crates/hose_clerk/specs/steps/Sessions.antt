-- Sessions by their places: steps of proofs.
use Rattle.std.specs.Prelude.{◌≡◌, ◌≢◌, ℕ, Bool, true, false, List, slice_index_or}
use Rattle.hose_clerk.specs.declared.sessions.Session.{Session}
use Rattle.hose_clerk.specs.declared.sessions.Session.TheVariants.{New, Over, Serving}

-- the session at a place; where there is none no line is answered
abbrev pub session_at : List Session → ℕ → Session
session_at sessions place = slice_index_or sessions place Over

-- a session gave no line yet
abbrev pub is_new_at : Session → Bool
is_new_at New = true
is_new_at (Serving client) = false
is_new_at Over = false

-- no line of a session is answered any more
abbrev pub is_over_at : Session → Bool
is_over_at New = false
is_over_at (Serving client) = false
is_over_at Over = true

-- a session is at a place now, and all others are where they were
pub record IsPut (old : List Session) (place : ℕ) (session : Session) (new : List Session) :
    Type 0 where
  pub here : session_at new place ≡ session
  pub others : (other : ℕ) → other ≢ place → session_at new other ≡ session_at old other

-- all sessions are where they were
abbrev pub LeavesAll : List Session → List Session → Type 0
LeavesAll old new = (place : ℕ) → session_at new place ≡ session_at old place
