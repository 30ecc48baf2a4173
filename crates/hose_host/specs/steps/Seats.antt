-- What a host keeps of a connection: steps of proofs.
use Rattle.std.specs.Prelude.{◌≡◌, ◌≢◌, ◌⊎◌, ⊤, map, ℕ, ◌<◌, ◌≤◌, Bool, true, false, List, [], ◌∷◌, ◌++◌, All, length}
use Rattle.std.specs.Bool.{MatchBool}
use Rattle.hose_words.specs.Limits.{line_limit}
use Rattle.hose_net.specs.Story.{AwaitsMore, Exchange, Life, lines_of, texts_of}

-- a text that waits until so much is heard
pub record Held : Type 0 where
  pub needs : ℕ
  pub text : List ℕ

-- what contracts see of a seat: the door by which who has it came; the bytes of the line that is
-- coming, or that it is too long; bytes that were got and are not looked at yet; the bytes that are
-- to be sent, and the texts that wait; and whether it is given up
pub record SeatState : Type 0 where
  pub door : ℕ
  pub input : List ℕ
  pub long : Bool
  pub kept : List ℕ
  pub output : List ℕ
  pub later : List Held
  pub lost : Bool

-- the seat of who just came by a door
abbrev pub fresh_seat : ℕ → SeatState
fresh_seat door = record {
  door = door;
  input = [];
  long = false;
  kept = [];
  output = [];
  later = [];
  lost = false;
}

-- a seat after its line was answered
abbrev pub emptied : SeatState → SeatState
emptied seat = record seat { input = []; long = false }

-- a seat that has more to be sent
abbrev pub with_text : SeatState → List ℕ → SeatState
with_text seat text = record seat { output = seat.output ++ text }

-- a seat at which one more text waits
abbrev pub with_held : SeatState → ℕ → List ℕ → SeatState
with_held seat needs text =
    record seat { later = seat.later ++ record { needs = needs; text = text } ∷ [] }

-- a seat holds what came of a line so far
abbrev pub Holds : SeatState → List ℕ → Type 0
Holds seat line = MatchBool seat.long (line_limit < length line)
    ((length line ≤ line_limit) × (seat.input ≡ line))

-- a text was taken in: it is to be sent, since nothing waits and so much was heard, or it waits
abbrev pub IsSaid : ℕ → ℕ → List ℕ → SeatState → SeatState → Type 0
IsSaid heard needs text old new =
    ((old.later ≡ []) × (needs ≤ heard) × (new ≡ with_text old text))
    ⊎ ((old.later ≡ [] → heard < needs) × (new ≡ with_held old needs text))

-- what waits first needs more than was heard, where a seat is not given up
abbrev pub Awaits : ℕ → SeatState → Type 0
Awaits heard seat = seat.lost ≡ false → AwaitsMore (λ held. held.needs) heard seat.later

-- the first text that waited is to be sent, or nothing changed, and it needs more
abbrev pub Releases : ℕ → SeatState → SeatState → Bool → Type 0
Releases heard old new true = (length new.later < length old.later) × (new.lost ≡ false
    → (old.lost ≡ false) × (first : Held) × (old.later ≡ first ∷ new.later) × (first.needs ≤ heard)
    × (new ≡ record (with_text old first.text) { later = new.later }))
Releases heard old new false = (new ≡ old) × AwaitsMore (λ held. held.needs) heard new.later

-- a reply that waits
abbrev pub held_of : {L R : Type 0} → (R → List ℕ) → Exchange L R → Held
held_of text exchange = record { needs = exchange.needs; text = text exchange.reply }

-- a seat that is not given up stands for what there was of a connection; these bytes were got and
-- are not looked at yet
pub record Exact {L R : Type 0} (text : R → List ℕ) (heard : ℕ) (life : Life L R)
    (seat : SeatState) (coming : List ℕ) : Type 0 where
  pub here : life.here ≡ true
  pub by : seat.door ≡ life.door
  pub held : List ℕ
  pub holds : Holds seat held
  pub plain : All (λ byte. byte ≢ 10) held
  pub given : life.given ≡ lines_of life.own ++ (held ++ coming)
  pub free : List (Exchange L R)
  pub waiting : List (Exchange L R)
  pub split : life.own ≡ free ++ waiting
  pub allowed : All (λ exchange. exchange.needs ≤ heard) free
  pub sent : life.sent ++ seat.output ≡ texts_of text free
  pub stuck : life.refused ≡ true → 0 < length seat.output
  pub later : seat.later ≡ map (held_of text) waiting

-- a seat stands for what there was of a connection, or it is given up
abbrev pub Sits : {L R : Type 0} → (R → List ℕ) → ℕ → Life L R → SeatState → List ℕ → Type 0
Sits text heard life seat coming = seat.lost ≡ false → Exact text heard life seat coming

-- ---- how a connection is before and after a call

-- nothing is known
abbrev pub Anyhow : {L R : Type 0} → Life L R → SeatState → Type 0
Anyhow life seat = ⊤

-- these bytes are kept, where a seat is not given up
abbrev pub Keeping : {L R : Type 0} → List ℕ → Life L R → SeatState → Type 0
Keeping kept life seat = seat.lost ≡ false → seat.kept ≡ kept

-- what may be sent is at hand, and these bytes are kept
pub record Freed {L R : Type 0} (heard : ℕ) (kept : List ℕ) (life : Life L R) (seat : SeatState)
    : Type 0 where
  pub awaits : Awaits heard seat
  pub keeps : Keeping kept life seat

-- all that may be sent is sent, unless the last write was refused
pub record Quiet {L R : Type 0} (heard : ℕ) (kept : List ℕ) (life : Life L R) (seat : SeatState)
    : Type 0 where
  pub freed : Freed heard kept life seat
  pub out : seat.lost ≡ false → life.refused ≡ false → seat.output ≡ []

-- all that may be sent is sent, unless bytes are kept or the last write was refused
pub record Calm {L R : Type 0} (heard : ℕ) (kept : List ℕ) (life : Life L R) (seat : SeatState)
    : Type 0 where
  pub freed : Freed heard kept life seat
  pub out : seat.lost ≡ false → kept ≡ [] → life.refused ≡ false → seat.output ≡ []

-- who is given up was let go
abbrev pub Gone : {L R : Type 0} → Life L R → SeatState → Type 0
Gone life seat = seat.lost ≡ true → life.here ≡ false

-- a connection between the turns
pub record AtRest {L R : Type 0} (heard : ℕ) (kept : List ℕ) (life : Life L R) (seat : SeatState)
    : Type 0 where
  pub calm : Calm heard kept life seat
  pub gone : Gone life seat

-- a connection of which all whole lines were answered, unless no line is answered any more
pub record Finished {L R : Type 0} (ended : Bool) (heard : ℕ) (life : Life L R) (seat : SeatState)
    : Type 0 where
  pub quiet : Quiet heard seat.kept life seat
  pub gone : Gone life seat
  pub none : ended ≡ false → Keeping [] life seat

-- ---- how all connections are, by their places

-- all connections are between their turns
abbrev pub Resting : {L R : Type 0} → ℕ → ℕ → Life L R → SeatState → Type 0
Resting place heard life seat = AtRest heard seat.kept life seat

-- what may be sent was sent at places below this one
abbrev pub FreedBelow : {L R : Type 0} → ℕ → ℕ → ℕ → Life L R → SeatState → Type 0
FreedBelow limit place heard life seat =
    Gone life seat × (place < limit → Finished true heard life seat)

-- the connections at places below this one are finished, the others between their turns
abbrev pub FinishedBelow : {L R : Type 0} → Bool → ℕ → ℕ → ℕ → Life L R → SeatState → Type 0
FinishedBelow ended limit place heard life seat =
    AtRest heard seat.kept life seat × (place < limit → Finished ended heard life seat)

-- how all connections are between the rounds of a host, and as it ends
abbrev pub InRound : {L R : Type 0} → Bool → ℕ → ℕ → Life L R → SeatState → Type 0
InRound false place heard life seat = Resting place heard life seat
InRound true place heard life seat = Finished true heard life seat

-- all connections are finished
abbrev pub AllFinished : {L R : Type 0} → Bool → ℕ → ℕ → Life L R → SeatState → Type 0
AllFinished ended place heard life seat = Finished ended heard life seat

-- seats of which no one has one were added, or none
abbrev pub GrowsByLost : List SeatState → List SeatState → Type 0
GrowsByLost old new = (more : List SeatState) × (new ≡ old ++ more)
    × All (λ seat. seat.lost ≡ true) more
