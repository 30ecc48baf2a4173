-- What stands after `gen`, by its status: steps of proofs.
use Rattle.std.specs.Prelude.{◌≡◌, List, ℕ, Result, Ok, Err}
use Rattle.hose_io.specs.Frame.{Rose}
use Rattle.hose_io.specs.Stream.{Grows}
use Rattle.hose_io.specs.Writing.{GrowsInPart}
use Rattle.hose_io.specs.declared.sink.Sink.{Ghosts as SinkGhosts}
use Rattle.hose_outside.specs.Ending.{OutputWorked}
use Rattle.hose_outside.specs.declared.fault.Fault.{Fault}
use Rattle.hose_outside.specs.declared.fault.Fault.TheVariants.{Memory, Write}
use Rattle.hose_outside.specs.declared.asked.Sizes.{Sizes}
use Rattle.hose_offline.specs.GenOutcome.{IsSummary}

module _ (sizes : Sizes) {O : Type 0} (sink : SinkGhosts O) (output output' : O) where
  -- what `gen` leaves, before the last line that tells its fault: the summary is out, or a part of
  -- it where the output failed
  abbrev pub GenLeaves : {T : Type 0} → Result T Fault → Type 0
  GenLeaves (Ok _) = (line : List ℕ) × IsSummary sizes line
      × Grows (sink.content output) (sink.content output') line × OutputWorked sink output output'
  GenLeaves (Err Write) = (line : List ℕ) × IsSummary sizes line
      × GrowsInPart (sink.content output) (sink.content output') line
      × Rose (sink.frame output) (sink.frame output')
  GenLeaves (Err Memory) = output' ≡ output
  GenLeaves (Err _) = ⊥
