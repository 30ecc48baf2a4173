-- What contracts see of a door in memory, and what each of its calls does to that.
use Rattle.std.specs.Prelude.{◌≡◌, ℕ, ◌+◌, List, [], ◌∷◌, ◌++◌, map, Option, Some}
use Rattle.hose_io.specs.Connections.{Connection, Connections}
use Rattle.hose_io.specs.steps.FailingCalls.{later_calls}
use Rattle.hose_io.specs.steps.Faults.{faults_frame, no_faults, one_fault}
use Rattle.hose_io.specs.Frame.{Frame}
use Rattle.hose_io.specs.steps.SinkState.{SinkState, fresh_sink, mem_sink_frame as sink_frame}
use Rattle.hose_io.specs.steps.SourceState.{SourceState, WasAsked, mem_source_frame as source_frame}
use Rattle.hose_io.specs.declared.faults.Faults.{Faults}
use Rattle.hose_io.specs.declared.sink.Sink.{Ghosts as SinkGhosts}
use Rattle.hose_io.specs.declared.source.Source.{Ghosts as SourceGhosts}

-- a connection that ended: its number, its input and its output
pub record DoneState : Type 0 where
  pub number : ℕ
  pub input : SourceState
  pub output : SinkState

-- a door in memory: the port at which it was opened last, if it was; its connections that are still
-- to come, each as its input; how many it has accepted, those that ended and came back, its faults,
-- and its calls that are to fail
pub record DoorState : Type 0 where
  pub port : Option ℕ
  pub coming : List SourceState
  pub accepted : ℕ
  pub ended : List DoneState
  pub faults : Faults
  pub failing : List ℕ

-- Nothing was taken from a source, and no call of it has failed.
pub record IsFresh (source : SourceState) : Type 0 where
  pub untaken : source.content.taken ≡ []
  pub unfailed : source.faults ≡ no_faults

-- a source in memory, as a source
abbrev pub mem_source : SourceGhosts SourceState
mem_source = record {
  frame = source_frame;
  content = λ source. Some source.content;
  went = WasAsked;
}

-- a sink in memory, as a sink
abbrev pub mem_sink : SinkGhosts SinkState
mem_sink = record {
  frame = sink_frame;
  content = λ sink. Some sink.given;
  pieces = λ sink. sink.pieces;
}

-- ---- what a door tells

-- the frame of a door in memory
abbrev pub mem_door_frame : DoorState → Frame
mem_door_frame door = faults_frame door.faults 0

-- what a connection that ended came to
abbrev pub outcome : DoneState → Connection
outcome done = record {
  taken = done.input.content.taken;
  left = done.input.content.left;
  asked = done.input.asked;
  given = done.output.given;
  reading = done.input.faults.count;
  writing = done.output.faults.count;
}

-- the connections of a door in memory, of which it tells
abbrev pub connections_of : DoorState → Connections
connections_of door = record {
  accepted = door.accepted;
  coming = map (λ source. source.content.left) door.coming;
  ended = map outcome door.ended;
}

-- ---- what its calls do

-- a door in memory after a call of `accept` that succeeded and gave no connection
abbrev pub door_after_call : DoorState → DoorState
door_after_call door = record door { failing = later_calls door.failing }

-- a door in memory after it was opened at a port
abbrev pub door_after_open : ℕ → DoorState → DoorState
door_after_open port door = record (door_after_call door) { port = Some port }

-- a door in memory after a call that failed
abbrev pub door_after_fault : DoorState → DoorState
door_after_fault door = record (door_after_call door) { faults = one_fault door.faults }

-- A call of `accept` gave the next connection: its input and its output have its number.
pub record IsHandedOut (old new : DoorState) (input : SourceState) (output : SinkState) :
    Type 0 where
  pub source : SourceState
  pub first : old.coming ≡ source ∷ new.coming
  pub reads : input ≡ record source { number = old.accepted + 1 }
  pub writes : output ≡ record fresh_sink { number = old.accepted + 1 }
  pub after : new ≡ record (door_after_call old) {
    coming = new.coming;
    accepted = old.accepted + 1;
  }

-- a door in memory after a connection came back
abbrev pub door_after_return : DoneState → DoorState → DoorState
door_after_return done door = record door { ended = door.ended ++ done ∷ [] }
