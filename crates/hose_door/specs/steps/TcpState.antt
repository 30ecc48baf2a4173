-- What contracts see of a door over a port: nothing of what comes and goes there.
use Rattle.std.specs.Prelude.{ℕ, ◌*◌, List, [], Bool, false, Option, None, ⊤}
use Rattle.hose_io.specs.Connections.{Connection, Connections}
use Rattle.hose_io.specs.Frame.{Frame}
use Rattle.hose_io.specs.steps.StdState.{StdSinkState, StdSourceState, sink_frame, source_frame, untold_stream, untold_text}
use Rattle.hose_io.specs.declared.sink.Sink.{Ghosts as SinkGhosts}
use Rattle.hose_io.specs.declared.source.Source.{Ghosts as SourceGhosts}

-- for how many nanoseconds a peer may say nothing, and for how many it may take nothing
pub record Patience : Type 0 where
  pub read : ℕ
  pub write : ℕ

-- a door over a port: how often it has failed, the address and the port at which it was opened
-- last, if it was, whether it listens, and how long its peers may say or take nothing
pub record TcpState : Type 0 where
  pub faults : ℕ
  pub address : Option (List ℕ)
  pub port : Option ℕ
  pub listens : Bool
  pub patience : Patience

-- a door that was never opened, of such peers
abbrev pub new_door : Patience → TcpState
new_door patience = record {
  faults = 0;
  address = None;
  port = None;
  listens = false;
  patience = patience;
}

-- so many seconds, in nanoseconds
abbrev pub nanos_of : ℕ → ℕ
nanos_of seconds = seconds * 1000000000

-- the frame of a door over a port
abbrev pub tcp_frame : TcpState → Frame
tcp_frame door = record { faults = door.faults; number = 0; loan = [] }

-- a door over a port tells no connections
abbrev pub untold_connections : Option Connections
untold_connections = None

-- a door over a port tells not what a connection came to that ended
abbrev pub untold_connection : Option Connection
untold_connection = None

-- a source over a reader of std, as a source
abbrev pub std_source : {R : Type 0} → SourceGhosts (StdSourceState R)
std_source = record {
  frame = source_frame;
  content = λ _. untold_stream;
  went = λ _ _. ⊤;
}

-- a sink over a writer of std, as a sink
abbrev pub std_sink : {W : Type 0} → SinkGhosts (StdSinkState W)
std_sink = record {
  frame = sink_frame;
  content = λ _. untold_text;
  pieces = λ sink. sink.pieces;
}
