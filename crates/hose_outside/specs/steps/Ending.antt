-- How the program ends: its status, and the last line of its output: steps of proofs.
use Rattle.std.specs.Prelude.{◌≡◌, ◌⊎◌, Result, Ok, Err}
use Rattle.hose_io.specs.Frame.{Stays}
use Rattle.hose_io.specs.declared.sink.Sink.{Ghosts}
use Rattle.hose_outside.specs.Why.{IsTold}
use Rattle.hose_outside.specs.declared.fault.Fault.{Fault}
use Rattle.hose_outside.specs.declared.fault.Fault.TheVariants.{Write}
use Rattle.hose_outside.specs.declared.why.Why.{Why}
use Rattle.hose_outside.specs.declared.why.Why.TheVariants.{Done, Stopped}

-- what came of writing, on an output that is the one that it was
pub record Wrote {O : Type 0} (sink : Ghosts O) (was now : O) (Came : Type 0) : Type 0 where
  pub came : Came
  pub stays : Stays (sink.frame was) (sink.frame now)

-- what came of writing to the end, on an output that is the one that it was, and why it ended
pub record WroteEnd {O : Type 0} (sink : Ghosts O) (was now : O) (why : Why) (Came : Type 0) :
    Type 0 where
  pub came : Came
  pub told : IsTold sink now why
  pub stays : Stays (sink.frame was) (sink.frame now)

-- what came of writing to the end, and that this says why it ended
pub record WroteWhy {O : Type 0} (sink : Ghosts O) (was now : O) (why : Why) (Came Is : Type 0) :
    Type 0 where
  pub came : Came
  pub told : IsTold sink now why
  pub stays : Stays (sink.frame was) (sink.frame now)
  pub is : Is

-- why it ended to write a text, by what was met before: the fault that was; or all was done, or the
-- output failed
abbrev pub IsWhyAfter : {T : Type 0} → Result T Fault → Why → Type 0
IsWhyAfter (Ok _) why = (why ≡ Done) ⊎ (why ≡ Stopped Write)
IsWhyAfter (Err fault) why = why ≡ Stopped fault
