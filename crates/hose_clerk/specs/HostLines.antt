-- What the lines of a host say: those of sessions, of which the first is by the rule of its door,
-- and `end` and `figures`.
use Rattle.std.specs.Prelude.{◌≡◌, ◌≢◌, ℕ, ◌<◌, ◌≤◌, Bool, true, false, List, [], ◌∷◌, ⊤, codes, length, slice_index_or}
use Rattle.hose_words.specs.Shapes.{IsFirstWrong}
use Rattle.hose_words.specs.Words.{words_of}
use Rattle.hose_words.specs.Limits.{line_limit}
use Rattle.hose_graph.specs.Limits.{operator}
use Rattle.hose_graph.specs.Name.{IsName}
use Rattle.hose_graph.specs.Network.{Network}
use Rattle.hose_law.specs.Transcript.{SessionLine}
use Rattle.hose_law.specs.Transcript.SessionLine.{Greets, IsBad, IsLong}
use Rattle.hose_greeting.specs.SessionLines.{IsGreeting, SaysLater, greeting_shape}
use Rattle.hose_clerk.specs.declared.doors.DoorRule.{DoorRule}
use Rattle.hose_clerk.specs.declared.doors.DoorRule.TheVariants.{Any, AnyButOperator, Only}

-- What a line at a host says: what a line of a session does, or it asks for the end of the host, or
-- for what was counted.
pub data HostLine : Type 0 where
  Speaks : SessionLine → HostLine
  Ends : HostLine
  Counts : HostLine

-- ---- the first line

-- the rule of a door; at a door that has none everyone may greet but the operator
abbrev pub rule_at : List DoorRule → ℕ → DoorRule
rule_at doors door = slice_index_or doors door AnyButOperator

-- a customer of this name may greet at a door of this rule
abbrev pub MayGreet : DoorRule → List ℕ → Type 0
MayGreet Any name = ⊤
MayGreet AnyButOperator name = name ≢ operator
MayGreet (Only bound) name = name ≡ bound

-- the name of a customer who may greet
pub record IsNameAt (rule : DoorRule) (name : List ℕ) : Type 0 where
  pub is_name : IsName name
  pub may_greet : MayGreet rule name

-- What the first line of a session says at a door of this rule: it is a greeting by a customer who
-- may greet there, or it has a first word that is not allowed, or it is too long.
abbrev pub SaysFirstAt : DoorRule → List ℕ → SessionLine → Type 0
SaysFirstAt rule bytes (Greets name) =
    (length bytes ≤ line_limit) × IsGreeting (IsNameAt rule) bytes name
SaysFirstAt rule bytes (IsBad word) = (length bytes ≤ line_limit)
    × IsFirstWrong (greeting_shape (IsNameAt rule)) (words_of bytes) word
SaysFirstAt rule bytes IsLong = line_limit < length bytes
SaysFirstAt rule bytes line = ⊥

-- ---- later lines

-- `end`
abbrev pub IsEnd : List ℕ → Type 0
IsEnd line = words_of line ≡ codes "end" ∷ []

-- `figures`
abbrev pub IsCount : List ℕ → Type 0
IsCount line = words_of line ≡ codes "figures" ∷ []

-- What a later line says: what it does in every session, where one that is bad is neither `end` nor
-- `figures`; or it is one of these.
abbrev pub SaysLaterAt : Network → List ℕ → HostLine → Type 0
SaysLaterAt network bytes (Speaks (IsBad word)) =
    SaysLater network bytes (IsBad word) × (¬ IsEnd bytes) × (¬ IsCount bytes)
SaysLaterAt network bytes (Speaks line) = SaysLater network bytes line
SaysLaterAt network bytes Ends = (length bytes ≤ line_limit) × IsEnd bytes
SaysLaterAt network bytes Counts = (length bytes ≤ line_limit) × IsCount bytes

-- what a line says at a door of this rule, by whether it is the first of its connection
abbrev pub SaysBy : Network → DoorRule → Bool → List ℕ → HostLine → Type 0
SaysBy network rule true bytes (Speaks line) = SaysFirstAt rule bytes line
SaysBy network rule true bytes another = ⊥
SaysBy network rule false bytes said = SaysLaterAt network bytes said

-- what a line says, by whether it is the first of its connection and by the door that this came by
abbrev pub SaysAt : Network → List DoorRule → Bool → ℕ → List ℕ → HostLine → Type 0
SaysAt network doors first door bytes said = SaysBy network (rule_at doors door) first bytes said
