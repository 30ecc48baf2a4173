-- How the program ends: its status, and the last line of its output.
use Rattle.std.specs.Prelude.{◌≡◌, ◌⊎◌, ◌↔◌, ℕ, ◌+◌, ◌<◌, ◌≤◌, List, ◌++◌, length, Option, Result, Ok, Err, ⊤}
use Rattle.hose_io.specs.Frame.{Rose}
use Rattle.hose_io.specs.Stream.{Gives, Grows, Stream}
use Rattle.hose_io.specs.Writing.{GrowsInPart}
use Rattle.hose_io.specs.declared.sink.Sink.{Ghosts}
use Rattle.hose_outside.specs.Fault.{status_of, last_line}
use Rattle.hose_outside.specs.OnDisk.{CabinetFailed}
use Rattle.hose_outside.specs.Parts.{Parts, Tellings}
use Rattle.hose_outside.specs.TopologyTold.{limit_of}
use Rattle.hose_outside.specs.declared.notation.Notation.{Notation}
use Rattle.hose_outside.specs.declared.fault.Fault.{Fault}

-- the status of what was done: 0, or that of its fault
abbrev pub status_of_done : {T : Type 0} → Result T Fault → ℕ
status_of_done (Ok _) = 0
status_of_done (Err fault) = status_of fault

-- the output did not fail
abbrev pub OutputWorked : {O : Type 0} → Ghosts O → O → O → Type 0
OutputWorked sink was now = sink.frame now ≡ sink.frame was

-- A text is all that was put out, and whole; or the sink failed, and a part of it is out.
abbrev pub IsOut : {O : Type 0} → Ghosts O → O → O → List ℕ → Type 0
IsOut sink was now text =
    (Grows (sink.content was) (sink.content now) text × OutputWorked sink was now)
    ⊎ (Rose (sink.frame was) (sink.frame now)
    × GrowsInPart (sink.content was) (sink.content now) text)

-- the last line tells the fault of what was done; there is none where all is well
abbrev pub IsLastLine : {T O : Type 0} → Ghosts O → O → O → Result T Fault → Type 0
IsLastLine sink was now (Ok _) = now ≡ was
IsLastLine sink was now (Err fault) = IsOut sink was now (last_line fault)

-- What was done, of which this holds, left the output so, and then the last line was put, which
-- tells the fault, if there is one.
pub record EndsAfter {O : Type 0} (sink : Ghosts O) (after : O) (status : ℕ)
    (Leaves : O → Result ⊤ Fault → Type 0) : Type 0 where
  pub left : O
  pub done : Result ⊤ Fault
  pub leaves : Leaves left done
  pub last_line : IsLastLine sink left after done
  pub is_status : status ≡ status_of_done done

-- How a text ends, by what was met before. Where all was well, the text is out, or the output
-- failed and a part of it is. Else the last line of the fault follows the text, or the output
-- failed and a part of both is out.
abbrev pub EndsTold : {O T : Type 0} → Ghosts O → O → O → ℕ → Result T Fault → List ℕ → Type 0
EndsTold sink output output' status (Ok _) text =
    ((status ≡ 0) × Grows (sink.content output) (sink.content output') text
    × OutputWorked sink output output')
    ⊎ ((status ≡ 4) × Rose (sink.frame output) (sink.frame output')
    × GrowsInPart (sink.content output) (sink.content output') text)
EndsTold sink output output' status (Err why) text =
    (status ≡ status_of why) × IsOut sink output output' (text ++ last_line why)

-- at most a byte past the limit is taken, and more than the limit exactly where the status is 8
abbrev pub TakesWithinLimit : Notation → Option Stream → Option Stream → ℕ → Type 0
TakesWithinLimit written old new status = (bytes : List ℕ) × Gives old new bytes
    × (length bytes ≤ limit_of written + 1) × ((status ≡ 8) ↔ (limit_of written < length bytes))

-- No call of the output and of the cabinet failed, and this held besides.
pub record NoneFailed {I O C E : Type 0} (tells : Tellings I O C E) (before after : Parts I O C)
    (OthersHeld : Type 0) : Type 0 where
  pub writing : ¬ Rose (tells.sink.frame before.output) (tells.sink.frame after.output)
  pub keeping_it : ¬ CabinetFailed tells.cabinet before.cabinet after.cabinet
  pub others : OthersHeld
