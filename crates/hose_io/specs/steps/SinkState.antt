-- What contracts see of a sink in memory.
use Rattle.std.specs.Prelude.{ℕ, List, [], ◌++◌}
use Rattle.hose_io.specs.Count.{one_more}
use Rattle.hose_io.specs.steps.FailingCalls.{later_calls}
use Rattle.hose_io.specs.steps.Faults.{faults_frame, no_faults, one_fault, one_starved}
use Rattle.hose_io.specs.Frame.{Frame}
use Rattle.hose_io.specs.declared.faults.Faults.{Faults}

-- a sink in memory: its bytes, the pieces that it was given, its faults, its calls that are to
-- fail, and its number
pub record SinkState : Type 0 where
  pub given : List ℕ
  pub pieces : ℕ
  pub faults : Faults
  pub failing : List ℕ
  pub number : ℕ

-- a sink that was given nothing
abbrev pub fresh_sink : SinkState
fresh_sink = record { given = []; pieces = 0; faults = no_faults; failing = []; number = 0 }

-- the frame of a sink in memory
abbrev pub mem_sink_frame : SinkState → Frame
mem_sink_frame sink = faults_frame sink.faults sink.number

-- a sink after a call that appended these bytes
abbrev pub sink_after_putting : SinkState → List ℕ → SinkState
sink_after_putting sink bytes = record sink {
  given = sink.given ++ bytes;
  pieces = one_more sink.pieces;
  failing = later_calls sink.failing;
}

-- a sink after a call that was to fail
abbrev pub sink_after_fault : SinkState → SinkState
sink_after_fault sink = record sink {
  faults = one_fault sink.faults;
  failing = later_calls sink.failing;
}

-- a sink after a call that found no memory
abbrev pub sink_after_starving : SinkState → SinkState
sink_after_starving sink = record sink {
  faults = one_starved sink.faults;
  failing = later_calls sink.failing;
}
