-- Connections: what one comes to, and what the calls of a door do to those that it tells of: steps
-- of proofs.
use Rattle.std.specs.Prelude.{◌≡◌, ℕ, ◌+◌, ◌<◌, ◌≤◌, List, [], ◌∷◌, ◌++◌, length, Option, None, Some, IfSome, IsSome, ⊤}
use Rattle.hose_io.specs.Stream.{Stream}
use Rattle.hose_io.specs.declared.sink.Sink.{Ghosts as SinkGhosts}
use Rattle.hose_io.specs.declared.source.Source.{Ghosts as SourceGhosts}
use Rattle.hose_io.specs.Connections.{Connection, Connections}

-- no more came back than were accepted
abbrev pub AreAccounted : Option Connections → Type 0
AreAccounted told = IfSome told (λ all. length all.ended ≤ all.accepted)

-- ---- accepting one

-- An input and an output are those of one connection: they have one number, and neither has failed.
pub record IsConnection {S O : Type 0} (source : SourceGhosts S) (sink : SinkGhosts O) (input : S)
    (output : O) : Type 0 where
  pub one : (source.frame input).number ≡ (sink.frame output).number
  pub unread : (source.frame input).faults ≡ 0
  pub unwritten : (sink.frame output).faults ≡ 0

-- The next connection is accepted: its input has its bytes to give, its output was given nothing,
-- and its number counts the connections from 1.
pub record IsNextConnection (old new : Connections) (input : Option Stream)
    (output : Option (List ℕ)) (number : ℕ) : Type 0 where
  pub bytes : List ℕ
  pub first : old.coming ≡ bytes ∷ new.coming
  pub accepted : new.accepted ≡ old.accepted + 1
  pub ended : new.ended ≡ old.ended
  pub unread : input ≡ Some (record { taken = []; left = bytes })
  pub empty : output ≡ Some []
  pub numbered : number ≡ new.accepted

-- Where the door tells, the next connection is accepted; whether it tells stays as it was.
abbrev pub Accepts : Option Connections → Option Connections → Option Stream → Option (List ℕ) → ℕ
    → Type 0
Accepts None None input output number = ⊤
Accepts None (Some new) input output number = ⊥
Accepts (Some old) None input output number = ⊥
Accepts (Some old) (Some new) input output number = IsNextConnection old new input output number

-- no connection of the door is still to come
abbrev pub AreUsedUp : Option Connections → Type 0
AreUsedUp told = IfSome told (λ all. all.coming ≡ [])

-- ---- ending one

-- what a connection comes to whose input had this left when it was asked last, where its input and
-- its output tell
abbrev pub connection_of : List ℕ → Option Stream → Option (List ℕ) → ℕ → ℕ → Option Connection
connection_of asked None output reading writing = None
connection_of asked (Some input) None reading writing = None
connection_of asked (Some input) (Some given) reading writing = Some (record {
  taken = input.taken;
  left = input.left;
  asked = asked;
  given = given;
  reading = reading;
  writing = writing;
})

-- A connection with this input and this output came to this. What its input had left when it was
-- asked last is told of whatever it was then.
pub record HasEnded {S O : Type 0} (source : SourceGhosts S) (sink : SinkGhosts O) (input : S)
    (output : O) (connection : Option Connection) : Type 0 where
  pub asked : List ℕ
  pub is : connection ≡ connection_of asked (source.content input) (sink.content output)
      (source.frame input).faults (sink.frame output).faults
  pub was : (before : S) → source.went before input
      → IfSome (source.content before) (λ stream. asked ≡ stream.left)

-- a connection may come back: it is told where the door tells, and is not one too many
abbrev pub MayComeBack : Option Connections → Option Connection → Type 0
MayComeBack told connection =
    IfSome told (λ all. (length all.ended < all.accepted) × IsSome connection)

-- A connection came back, where the door tells; whether it tells stays as it was.
abbrev pub ComesBack : Option Connections → Option Connections → Option Connection → Type 0
ComesBack None None connection = ⊤
ComesBack None (Some new) connection = ⊥
ComesBack (Some old) None connection = ⊥
ComesBack (Some old) (Some new) None = ⊥
ComesBack (Some old) (Some new) (Some connection) =
    new ≡ record old { ended = old.ended ++ connection ∷ [] }
