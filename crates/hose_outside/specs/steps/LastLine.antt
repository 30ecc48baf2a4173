-- What writing a last line leaves of the output.
use Rattle.std.specs.Prelude.{◌≡◌, Result, Ok, Err}
use Rattle.hose_io.specs.Frame.{Stays}
use Rattle.hose_io.specs.declared.sink.Sink.{Ghosts}
use Rattle.hose_outside.specs.Ending.{IsLastLine, status_of_done}
use Rattle.hose_outside.specs.Why.{IsTold, why_status}
use Rattle.hose_outside.specs.declared.fault.Fault.{Fault}
use Rattle.hose_outside.specs.declared.why.Why.{Why}
use Rattle.hose_outside.specs.declared.why.Why.TheVariants.{Done, Stopped}

-- why a command ends of which this was done
abbrev pub why_of : {T : Type 0} → Result T Fault → Why
why_of (Ok _) = Done
why_of (Err fault) = Stopped fault

module _ {T O : Type 0} (sink : Ghosts O) (was now : O) where
  -- Why it ends and the status are those of what was done, and its last line is out, if it has one,
  -- which tells why. The output is the object that it was.
  pub record EndsDone (done : Result T Fault) (why : Why) : Type 0 where
    pub is : why ≡ why_of done
    pub status : why_status why ≡ status_of_done done
    pub last_line : IsLastLine sink was now done
    pub told : IsTold sink now why
    pub output : Stays (sink.frame was) (sink.frame now)
