-- What contracts see of a source in memory.
use Rattle.std.specs.Prelude.{◌≡◌, ℕ, List, ◌++◌, take, drop}
use Rattle.hose_io.specs.steps.FailingCalls.{later_calls}
use Rattle.hose_io.specs.steps.Faults.{faults_frame, one_fault}
use Rattle.hose_io.specs.Frame.{Frame}
use Rattle.hose_io.specs.Stream.{Stream}
use Rattle.hose_io.specs.declared.faults.Faults.{Faults}

-- a source in memory: its bytes, those that it had left when it was asked last, how many it gives
-- at most in one call, its faults, its calls that are to fail, and its number
pub record SourceState : Type 0 where
  pub content : Stream
  pub asked : List ℕ
  pub piece : ℕ
  pub faults : Faults
  pub failing : List ℕ
  pub number : ℕ

-- the frame of a source in memory
abbrev pub mem_source_frame : SourceState → Frame
mem_source_frame source = faults_frame source.faults source.number

-- a source in memory was asked once
abbrev pub WasAsked : SourceState → SourceState → Type 0
WasAsked old new = new.asked ≡ old.content.left

-- a source after a call that gave the next `count` bytes
abbrev pub source_after_taking : SourceState → ℕ → SourceState
source_after_taking source count = record source {
  content = record {
    taken = source.content.taken ++ take count source.content.left;
    left = drop count source.content.left;
  };
  asked = source.content.left;
  failing = later_calls source.failing;
}

-- a source after a call that failed
abbrev pub source_after_fault : SourceState → SourceState
source_after_fault source = record source {
  asked = source.content.left;
  faults = one_fault source.faults;
  failing = later_calls source.failing;
}
