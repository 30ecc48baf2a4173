-- The door under its lock: how many connections it has accepted since the start, and what that has
-- come to.
use Rattle.std.specs.Prelude.{◌≡◌, ◌⊎◌, ℕ, ◌+◌, ◌≤◌, IsTrue, List, [], drop, is_some, Option, None, Some, Result, OnOk, ⊤}
use Rattle.hose_io.specs.Connections.{Connections}
use Rattle.hose_io.specs.steps.Connections.{AreUsedUp, IsConnection}
use Rattle.hose_io.specs.Frame.{Frame, Met}
use Rattle.hose_io.specs.declared.Failed.{Failed}
use Rattle.hose_io.specs.declared.door.Door.{Ghosts as DoorGhosts}
use Rattle.hose_io.specs.declared.sink.Sink.{Ghosts as SinkGhosts}
use Rattle.hose_io.specs.declared.source.Source.{Ghosts as SourceGhosts}

-- what a door was at the start, with the port at which it was opened, and how many connections are
-- to be accepted
pub record Started : Type 0 where
  pub frame : Frame
  pub told : Option Connections
  pub port : Option ℕ
  pub connections : ℕ

-- so it is with a door that is to accept so many connections
abbrev pub started_at : {L In Out Done : Type 0} → DoorGhosts L In Out Done → L → ℕ → Started
started_at door was connections = record {
  frame = door.frame was;
  told = door.told was;
  port = door.opened_at was;
  connections = connections;
}

-- So many connections were accepted since the start, and none came back.
pub record HaveArrived (was now : Connections) (count : ℕ) : Type 0 where
  pub accepted : now.accepted ≡ was.accepted + count
  pub coming : now.coming ≡ drop count was.coming
  pub ended : now.ended ≡ was.ended

-- Where the door tells, so many connections have arrived; whether it tells stays as it was.
abbrev pub AreArrived : Option Connections → Option Connections → ℕ → Type 0
AreArrived None None count = ⊤
AreArrived None (Some now) count = ⊥
AreArrived (Some was) None count = ⊥
AreArrived (Some was) (Some now) count = HaveArrived was now count

-- Accepting ended: all that were to be were accepted, or no more will come; or the door failed.
pub record HasStopped {T : Type 0} (start : Started) (frame : Frame) (told : Option Connections)
    (accepted : ℕ) (result : Result T Failed) : Type 0 where
  pub met : Met start.frame frame result
  pub all : OnOk result ((accepted ≡ start.connections) ⊎ AreUsedUp told)

-- what accepting has come to; none while it goes on
abbrev pub GoesSo : {T : Type 0} → Started → Frame → Option Connections → ℕ
    → Option (Result T Failed) → Type 0
GoesSo start frame told accepted None = frame ≡ start.frame
GoesSo start frame told accepted (Some result) = HasStopped start frame told accepted result

-- the door, how many connections it is to accept, how many it has accepted, what that has come to,
-- and the total of what the workers have accepted
pub record DeskState (L : Type 0) : Type 0 where
  pub door : L
  pub connections : ℕ
  pub accepted : ℕ
  pub stopped : Option (Result ⊤ Failed)
  pub total : ℕ

-- what holds of them since the start
pub record IsDesk {L In Out Done : Type 0} (door : DoorGhosts L In Out Done) (start : Started)
    (desk : DeskState L) : Type 0 where
  pub connections : desk.connections ≡ start.connections
  pub few : desk.accepted ≤ desk.connections
  pub total : desk.total ≡ desk.accepted
  pub arrived : AreArrived start.told (door.told desk.door) desk.accepted
  pub port : door.opened_at desk.door ≡ start.port
  pub goes : GoesSo start (door.frame desk.door) (door.told desk.door) desk.accepted desk.stopped

-- The ends of a connection that was accepted: nothing was taken or given, and they tell so where
-- the door tells.
pub record AreFresh {S O : Type 0} (source : SourceGhosts S) (sink : SinkGhosts O)
    (told : Option Connections) (input : S) (output : O) : Type 0 where
  pub ends : IsConnection source sink input output
  pub empty : IsTrue (is_some told) → (bytes : List ℕ)
      × (source.content input ≡ Some (record { taken = []; left = bytes }))
      × (sink.content output ≡ Some [])
