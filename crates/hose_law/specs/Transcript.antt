-- The transcript of one session along a history: its lines and their replies.
use Rattle.std.specs.Prelude.{◌≡◌, ◌⊎◌, ℕ, ◌+◌, ◌<◌, ◌≤◌, List, [], ◌∷◌, ◌++◌, length, take}
use Rattle.hose_graph.specs.declared.entry.Entry.{Entry}
use Rattle.hose_graph.specs.declared.command.Command.{Command}
use Rattle.hose_graph.specs.declared.command.Reply.{Reply}
use Rattle.hose_graph.specs.declared.command.Reply.TheVariants.{Bad, Bye, Long, Memory, Welcome}
use Rattle.hose_graph.specs.Network.{Network}
use Rattle.hose_law.specs.Answer.{IsStep}
use Rattle.hose_law.specs.Lines.{AreSteps}
use Rattle.hose_law.specs.Quotes.{Holding, none_held}

-- A line of a session as it was read: the greeting with a customer's name, a command, the line that
-- ends the session, or what stands in the place of one. A bad line is told by its first word that
-- is not allowed.
pub data SessionLine : Type 0 where
  Greets : List ℕ → SessionLine
  Asks : Command → SessionLine
  Leaves : SessionLine
  IsBad : ℕ → SessionLine
  IsLong : SessionLine
  Unread : SessionLine

-- How far a session is: it waits for its greeting; it serves a customer, who holds this; it was
-- refused, since its first line is no greeting; or its customer left.
pub data Stage : Type 0 where
  Waiting : Stage
  Serving : List ℕ → Holding → Stage
  Refused : Stage
  Left : Stage

-- A step of a customer's command at a place of a history, the place after it, and the places that
-- it adds to the customer's own: where it adds an entry, the history has that entry there.
pub record IsPlacedStep (network : Network) (epoch : ℕ) (history : List Entry)
    (customer : List ℕ) (held : Holding) (command : Command) (reply : Reply) (left : Holding)
    (place after : ℕ) (own : List ℕ) : Type 0 where
  pub next : List Entry
  pub there : place ≤ length history
  pub step : IsStep network epoch (take place history) customer held command reply next left
  pub moves : ((next ≡ take place history) × (after ≡ place) × (own ≡ []))
      ⊎ ((place < length history) × (next ≡ take (place + 1) history) × (after ≡ place + 1)
      × (own ≡ place ∷ []))

-- the reply to a line that has no place in a history
abbrev pub IsPlainReply : SessionLine → Reply → Type 0
IsPlainReply Leaves reply = reply ≡ Bye
IsPlainReply (IsBad word) reply = reply ≡ Bad word
IsPlainReply IsLong reply = reply ≡ Long
IsPlainReply Unread reply = reply ≡ Memory
IsPlainReply line reply = ⊥

-- the stage after a line of a session that has no place in a history
abbrev pub stage_after : Stage → SessionLine → Stage
stage_after Waiting line = Refused
stage_after (Serving customer held) Leaves = Left
stage_after stage line = stage

-- One line of a session is answered, at a place or a later one: what it leads to, the place after
-- it, and the places that it adds to the session's own.
abbrev pub IsSessionStep : Network → ℕ → List Entry → Stage → SessionLine → Reply → Stage → ℕ → ℕ
    → List ℕ → Type 0
IsSessionStep network epoch history Waiting (Greets customer) reply next from after own =
    (from ≤ after) × (after ≤ length history) × (reply ≡ Welcome (epoch + after))
    × (next ≡ Serving customer none_held) × (own ≡ [])
IsSessionStep network epoch history (Serving customer held) (Asks command) reply next from after
    own =
    (place : ℕ) × (left : Holding) × (from ≤ place)
    × IsPlacedStep network epoch history customer held command reply left place after own
    × (next ≡ Serving customer left)
IsSessionStep network epoch history Refused line reply next from after own = ⊥
IsSessionStep network epoch history Left line reply next from after own = ⊥
IsSessionStep network epoch history stage line reply next from after own =
    IsPlainReply line reply × (next ≡ stage_after stage line) × (after ≡ from) × (own ≡ [])

-- how far a session is along a history: its stage, its place there, and the places of its own
-- entries, in order
pub record SessionState : Type 0 where
  pub stage : Stage
  pub place : ℕ
  pub own : List ℕ

-- how far a session is, of its parts
abbrev pub session_state : Stage → ℕ → List ℕ → SessionState
session_state stage place own = record { stage = stage; place = place; own = own }

-- One line of a session that is so far is answered, and it is so far then. The place never goes
-- back.
abbrev pub IsTranscriptStep : Network → ℕ → List Entry → SessionLine → Reply → SessionState
    → SessionState → Type 0
IsTranscriptStep network epoch history line reply old new = (added : List ℕ)
    × IsSessionStep network epoch history old.stage line reply new.stage old.place new.place added
    × (new.own ≡ old.own ++ added)

-- The lines and the replies of a session along a history from a place on, and how far it is then.
abbrev pub IsTranscript : Network → ℕ → List Entry → ℕ → List SessionLine → List Reply
    → SessionState → Type 0
IsTranscript network epoch history from lines replies last =
    AreSteps (IsTranscriptStep network epoch history) lines replies (session_state Waiting from [])
    last
