-- What the lines of a session say.
use Rattle.std.specs.Prelude.{◌≡◌, ℕ, ◌<◌, ◌≤◌, List, [], ◌∷◌, codes, length}
use Rattle.hose_words.specs.Shapes.{IsFirstWrong, Shape, Tells, line_end, value}
use Rattle.hose_words.specs.Words.{IsChoice, IsFirst, words_of}
use Rattle.hose_words.specs.Limits.{line_limit}
use Rattle.hose_graph.specs.Name.{IsName}
use Rattle.hose_graph.specs.Network.{Network}
use Rattle.hose_law.specs.Transcript.{SessionLine}
use Rattle.hose_law.specs.Transcript.SessionLine.{Greets, Asks, Leaves, IsBad, IsLong, Unread}
use Rattle.hose_proto.specs.Command.{IsCommand, TakesMemory, command_shape, verb_word}

-- `hello NAME`, by a customer whose name meets a condition
abbrev pub greeting_shape : (List ℕ → Type 0) → Shape
greeting_shape may = value (λ word. word ≡ codes "hello") (λ word. word)
    (λ word. value may (λ name. name) (λ name. line_end))

-- a line greets with a name that meets a condition
abbrev pub IsGreeting : (List ℕ → Type 0) → List ℕ → List ℕ → Type 0
IsGreeting may line name = Tells (greeting_shape may) (words_of line) (codes "hello", (name, tt))

-- `bye`
abbrev pub IsBye : List ℕ → Type 0
IsBye line = words_of line ≡ codes "bye" ∷ []

-- What the first line of a session says: it is a greeting, or it has a first word that is not
-- allowed there, or it is too long.
abbrev pub SaysFirst : List ℕ → SessionLine → Type 0
SaysFirst bytes (Greets name) = (length bytes ≤ line_limit) × IsGreeting IsName bytes name
SaysFirst bytes (IsBad word) = (length bytes ≤ line_limit)
    × IsFirstWrong (greeting_shape IsName) (words_of bytes) word
SaysFirst bytes IsLong = line_limit < length bytes
SaysFirst bytes line = ⊥

-- What a later line says: its only word is `bye`, or it asks for a command, or it has a first word
-- that is not allowed, or it is too long; or it is left unread for want of memory, which its
-- command may take.
abbrev pub SaysLater : Network → List ℕ → SessionLine → Type 0
SaysLater network bytes Leaves = (length bytes ≤ line_limit) × IsBye bytes
SaysLater network bytes (Asks command) =
    (length bytes ≤ line_limit) × IsCommand network (words_of bytes) command
SaysLater network bytes (IsBad word) = (length bytes ≤ line_limit) × (¬ IsBye bytes)
    × IsFirstWrong (command_shape network) (words_of bytes) word
SaysLater network bytes IsLong = line_limit < length bytes
SaysLater network bytes Unread =
    (length bytes ≤ line_limit) × IsFirst (IsChoice TakesMemory verb_word) (words_of bytes)
SaysLater network bytes (Greets name) = ⊥

-- what a line says after these lines
abbrev pub SaysAfter : Network → List SessionLine → List ℕ → SessionLine → Type 0
SaysAfter network [] bytes line = SaysFirst bytes line
SaysAfter network (first ∷ before) bytes line = SaysLater network bytes line
