-- What a worker has in hand: its pass, its part of the total, and the connections that it ended.
use Rattle.std.specs.Prelude.{◌≡◌, ℕ, ◌+◌, ◌≤◌, List, [], ◌++◌, All, IfSome, IsTrue, is_some, length, map, Option, None, Some, ⊤}
use mathlib.Core.List.{IsPrefix}
use Rattle.hose_io.specs.Connections.{Connection, Connections}
use Rattle.hose_session.specs.Accounts.{AccountFor}
use Rattle.hose_shared.specs.steps.Sharing.{IsPassOf, IsSamePass, SharedBook}
use Rattle.hose_turn.specs.Known.{Known}
use Rattle.hose_turn.specs.steps.Known.{HasOwnPlaces}
use Rattle.hose_crew.specs.steps.Desk.{Started}

-- a pass, and a share of the total: its parts, and how many connections were accepted by it
pub record PlaceState : Type 0 where
  pub pass : Known
  pub parts : ℕ
  pub amount : ℕ

-- the place at the shared book, if it is taken, the connections that ended, and the room for them
pub record HandState (Done : Type 0) : Type 0 where
  pub place : Option PlaceState
  pub ended : List Done
  pub room : ℕ

-- it has no place yet, and nothing ended
pub record IsIdle {Done : Type 0} (connections : ℕ) (hand : HandState Done) : Type 0 where
  pub none : hand.place ≡ None
  pub empty : hand.ended ≡ []
  pub room : connections ≤ hand.room

-- What ended is told, and accounts for a pass.
pub record Accounts (ended : List (Option Connection)) (pass : Known) : Type 0 where
  pub connections : List Connection
  pub are : ended ≡ map Some connections
  pub account : AccountFor connections pass

-- What each worker begins with: a part of the first pass that has nothing of its own and tried
-- nothing.
abbrev pub part_of : Known → Known
part_of first = record first { share = 1; own = []; tried = []; faults = 0 }

-- A worker served connections along its pass: as many ended as it accepted, and where they are told
-- they account for the pass.
pub record Works (told : Option Connections) (first : Known) (place : PlaceState)
    (ended : List (Option Connection)) : Type 0 where
  pub same : IsSamePass (part_of first) place.pass
  pub parts : place.parts ≡ 1
  pub amount : place.amount ≡ length ended
  pub accounts : IsTrue (is_some told) → Accounts ended place.pass

-- What a worker has in hand was served along its pass, and there is room for all connections.
pub record HasWorked {Done : Type 0} (came_to : Done → Option Connection) (start : Started)
    (first : Known) (hand : HandState Done) : Type 0 where
  pub place : PlaceState
  pub has : hand.place ≡ Some place
  pub works : Works start.told first place (map came_to hand.ended)
  pub room : start.connections ≤ hand.room

-- so did each of these workers
abbrev pub HaveWorked : {Done : Type 0} → (Done → Option Connection) → Started → Known
    → List (HandState Done) → Type 0
HaveWorked came_to start first hands = All (HasWorked came_to start first) hands

-- Workers may serve along parts of the first pass of a shared book.
pub record MayServe (shared : SharedBook) (first : Known) : Type 0 where
  pub of : IsPassOf shared first
  pub since : IsPrefix first.origin.since first.seen

-- ---- giving back

-- These connections came back to a door, where it tells; whether it tells stays as it was.
abbrev pub AllComeBack : Option Connections → Option Connections → List (Option Connection)
    → Type 0
AllComeBack None None ended = ⊤
AllComeBack None (Some new) ended = ⊥
AllComeBack (Some old) None ended = ⊥
AllComeBack (Some old) (Some new) ended = (connections : List Connection)
    × (ended ≡ map Some connections)
    × (new ≡ record old { ended = old.ended ++ connections })

-- they may: they are told where the door tells, and are no more than were accepted
abbrev pub AllMayComeBack : Option Connections → List (Option Connection) → Type 0
AllMayComeBack told ended = IfSome told (λ all.
    (length all.ended + length ended ≤ all.accepted)
    × (connections : List Connection) × (ended ≡ map Some connections))

-- Of what a door had once accepted, these connections came back, and account for a pass.
abbrev pub AreBack : Option Connections → Option Connections → ℕ → Known → Type 0
AreBack None None count pass = ⊤
AreBack None (Some now) count pass = ⊥
AreBack (Some was) None count pass = ⊥
AreBack (Some was) (Some now) count pass = (connections : List Connection)
    × (now ≡ record was { ended = was.ended ++ connections })
    × (length connections ≡ count) × AccountFor connections pass

-- Some workers gave up their places: what they had is part of the first pass again, which has lost
-- nothing but the shares of the others.
pub record IsGathered (workers : ℕ) (first pass : Known) (parts : ℕ) : Type 0 where
  pub turn : pass.turn ≡ first.turn
  pub origin : pass.origin ≡ first.origin
  pub share : pass.share + workers ≡ first.share + parts
  pub seen : IsPrefix first.seen pass.seen
  pub faults : first.faults ≤ pass.faults
  pub places : HasOwnPlaces pass
