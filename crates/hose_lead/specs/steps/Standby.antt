-- What a leader knows of a follower on one connection, by the bytes that came and were sent there.
use Rattle.std.specs.Prelude.{◌≡◌, ◌≢◌, ◌⊎◌, ℕ, ◌+◌, ◌-◌, ◌^◌, Bool, false, min, ◌<◌, ◌≤◌, List, [], ◌∷◌, ◌++◌, Option, None, IfSome, MatchOption, IsSomeAnd, All, length, ⊤}
use Rattle.std.specs.List.{flat_map}
use Rattle.hose_graph.specs.Network.{Network}
use Rattle.hose_graph.specs.declared.entry.Entry.{Entry}
use Rattle.hose_follow.specs.Packet.{Packet, packets_bytes}
use Rattle.hose_lead.specs.Leading.{AreHandedOut, IsCompared, IsHeard, IsValueAt, Offers, TellsEpoch, ask_epoch, probes_of}
use Rattle.hose_lead.specs.declared.stage.Ending.{Ending}
use Rattle.hose_lead.specs.declared.stage.Ending.TheVariants.{Ahead, Other, Gone, Disk, Memory, Stranger}
use Rattle.hose_lead.specs.declared.stage.Stage.{Stage}
use Rattle.hose_lead.specs.declared.stage.Stage.TheVariants.{Unasked, AskedEpoch, ToldEpoch, AskedValue, Following, Ended}

-- what contracts see of a connection to a follower: the bytes of the line that is coming, those
-- that are handed out and not sent yet, how far it is, how many entries the follower is heard to
-- have, whether a `have` is to be asked for, how many packets were handed out, and how many lines
-- came whole
pub record StandbyState : Type 0 where
  pub line : List ℕ
  pub unsent : List ℕ
  pub stage : Stage
  pub heard : Option ℕ
  pub asks : Bool
  pub handed : ℕ
  pub answered : ℕ

-- one more, up to the greatest number that a count holds
abbrev pub counted_more : ℕ → ℕ
counted_more count = min (count + 1) (2 ^ 64 - 1)

-- Nothing more is to be handed out: an answer is waited for, or all entries were, and no `have` is
-- to be asked for.
abbrev pub LacksNothing : List Entry → Bool → Stage → Type 0
LacksNothing list asks Unasked = ⊥
LacksNothing list asks AskedEpoch = ⊤
LacksNothing list asks (ToldEpoch start) = ⊥
LacksNothing list asks (AskedValue start) = ⊤
LacksNothing list asks (Following start upto) = (length list ≤ upto) × (asks ≡ false)
LacksNothing list asks (Ended why) = ⊤

-- ---- how far a connection is

-- a line told why a connection has ended, where the follower has more entries
abbrev pub TellsWhy : List (List ℕ) → Ending → Type 0
TellsWhy lines (Ahead count) = TellsEpoch lines count
TellsWhy lines (Other count own ours) = ⊤
TellsWhy lines (Gone count) = ⊤
TellsWhy lines (Disk count) = ⊤
TellsWhy lines Memory = ⊤
TellsWhy lines Stranger = ⊤

-- what is known at each stage
abbrev pub IsAt : Network → List Entry → List (List ℕ) → List Packet → Option ℕ → Stage → Type 0
IsAt network list lines packets heard Unasked = (packets ≡ []) × (heard ≡ None)
IsAt network list lines packets heard AskedEpoch = (packets ≡ ask_epoch ∷ []) × (heard ≡ None)
IsAt network list lines packets heard (ToldEpoch start) = (packets ≡ ask_epoch ∷ [])
    × (heard ≡ None) × TellsEpoch lines start × (start ≤ length list)
IsAt network list lines packets heard (AskedValue start) = (packets ≡ probes_of start)
    × (heard ≡ None) × TellsEpoch lines start × (start ≤ length list)
IsAt network list lines packets heard (Following start upto) = TellsEpoch lines start
    × IsCompared network list lines start × Offers network list start upto packets
    × (start ≤ upto) × (upto ≤ length list)
IsAt network list lines packets heard (Ended why) =
    AreHandedOut network list lines packets × TellsWhy lines why

-- the connection goes on
abbrev pub IsOpen : Stage → Type 0
IsOpen Unasked = ⊤
IsOpen AskedEpoch = ⊤
IsOpen (ToldEpoch start) = ⊤
IsOpen (AskedValue start) = ⊤
IsOpen (Following start upto) = ⊤
IsOpen (Ended why) = ⊥

-- What came and what was sent since a connection's beginning has led to this state, where the
-- history has these entries by now. No more lines are counted than came, and all packets that were
-- handed out, unless their count stands at its type's end.
pub record IsLed (network : Network) (list : List Entry) (came sent : List ℕ)
    (state : StandbyState) : Type 0 where
  pub lines : List (List ℕ)
  pub rest : List ℕ
  pub cut : came ≡ flat_map (λ each. each ++ 10 ∷ []) lines ++ rest
  pub plain : All (All (λ byte. byte ≢ 10)) lines
  pub coming : IsOpen state.stage → (rest ≡ state.line) × All (λ byte. byte ≢ 10) state.line
  pub packets : List Packet
  pub handed : sent ++ state.unsent ≡ packets_bytes packets
  pub at : IsAt network list lines packets state.heard state.stage
  pub heard : IfSome state.heard (IsHeard network list lines)
  pub counted : state.answered ≤ length lines
  pub numbered : state.handed < 2 ^ 64 - 1 → length packets ≤ state.handed

-- ---- how it goes on

-- Nothing is left to be handed out, or something is to be sent first.
abbrev pub IsFilled : List Entry → StandbyState → Type 0
IsFilled list state = (0 < length state.unsent) ⊎ LacksNothing list state.asks state.stage

-- no fewer entries are heard to be there than before
abbrev pub RisesTo : Option ℕ → Option ℕ → Type 0
RisesTo old new = MatchOption old ⊤ (λ count. IsSomeAnd new (λ more. count ≤ more))

-- A connection has ended for this reason, where the history has these entries.
abbrev pub EndsFor : Network → List Entry → Ending → Type 0
EndsFor network list (Ahead count) = length list < count
EndsFor network list (Other count own ours) = IsValueAt network list count ours × (own ≢ ours)
EndsFor network list (Gone count) = ⊤
EndsFor network list (Disk count) = ⊤
EndsFor network list Memory = ⊤
EndsFor network list Stranger = ⊤

-- if it has ended it is for this reason
abbrev pub IfEnded : Network → List Entry → Stage → Type 0
IfEnded network list Unasked = ⊤
IfEnded network list AskedEpoch = ⊤
IfEnded network list (ToldEpoch start) = ⊤
IfEnded network list (AskedValue start) = ⊤
IfEnded network list (Following start upto) = ⊤
IfEnded network list (Ended why) = EndsFor network list why

-- Bytes were taken in, where the history has the entries of which this holds. What is heard never
-- becomes less, and once the connection has ended nothing more is heard.
pub record TakesIn (is_of : Network → List Entry → Type 0) (old : StandbyState) (bytes : List ℕ)
    (new : StandbyState) : Type 0 where
  pub led : (network : Network) (list : List Entry) (came sent : List ℕ) → is_of network list
      → IsLed network list came sent old → IsLed network list (came ++ bytes) sent new
  pub rises : RisesTo old.heard new.heard
  pub unsent : new.unsent ≡ old.unsent
  pub ended : (¬ IsOpen old.stage) → new ≡ old
  pub why : (network : Network) (list : List Entry) → is_of network list
      → IfEnded network list old.stage → IfEnded network list new.stage

-- More was handed out, where the history has the entries of which this holds.
pub record HandsOut (is_of : Network → List Entry → Type 0) (old new : StandbyState) : Type 0 where
  pub led : (network : Network) (list : List Entry) (came sent : List ℕ) → is_of network list
      → IsLed network list came sent old → IsLed network list came sent new
  pub heard : new.heard ≡ old.heard
  pub ended : (¬ IsOpen old.stage) → new ≡ old
  pub why : (network : Network) (list : List Entry) → is_of network list
      → IfEnded network list old.stage → IfEnded network list new.stage
