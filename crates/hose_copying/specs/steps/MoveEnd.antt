-- How a move ends: steps of proofs.
use Rattle.std.specs.Prelude.{◌≡◌, ◌⊎◌, Result, Ok, Err}
use Rattle.hose_outside.specs.declared.fault.Fault.TheVariants.{Write}
use Rattle.hose_outside.specs.declared.move_stop.MoveStop.{MoveStop}
use Rattle.hose_outside.specs.declared.why.Why.{Why}
use Rattle.hose_outside.specs.declared.why.Why.TheVariants.{Done, NotMoved, Stopped}

-- Why a move ended: it came to its end, and then its last line was put or the output failed; or it
-- ended early.
abbrev pub IsWhyOfMove : {T : Type 0} → Result T MoveStop → Why → Type 0
IsWhyOfMove (Ok _) why = (why ≡ Done) ⊎ (why ≡ Stopped Write)
IsWhyOfMove (Err stop) why = why ≡ NotMoved stop
