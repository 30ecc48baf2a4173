-- What contracts see of a source over a reader of std, and of a sink over a writer.
use Rattle.std.specs.Prelude.{ℕ, List, [], Option, None}
use Rattle.hose_io.specs.Frame.{Frame}
use Rattle.hose_io.specs.Stream.{Stream}

-- a source over a reader: the reader, and how often the source has failed
pub record StdSourceState (R : Type 0) : Type 0 where
  pub reader : R
  pub faults : ℕ

-- the frame of a source over a reader: it has no number
abbrev pub source_frame : {R : Type 0} → StdSourceState R → Frame
source_frame source = record { faults = source.faults; number = 0; loan = [] }

-- a sink over a writer: the writer, how often the sink has failed, and how many pieces it was given
pub record StdSinkState (W : Type 0) : Type 0 where
  pub writer : W
  pub faults : ℕ
  pub pieces : ℕ

-- the frame of a sink over a writer: it has no number
abbrev pub sink_frame : {W : Type 0} → StdSinkState W → Frame
sink_frame sink = record { faults = sink.faults; number = 0; loan = [] }

-- a source over a reader tells nothing of its bytes
abbrev pub untold_stream : Option Stream
untold_stream = None

-- a sink over a writer tells nothing of what it was given
abbrev pub untold_text : Option (List ℕ)
untold_text = None
