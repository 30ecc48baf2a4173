-- What writing a whole text leaves: steps of proofs.
use Rattle.std.specs.Prelude.{ℕ, List, Result, OnOk, OnErr}
use Rattle.hose_io.specs.Frame.{Met}
use Rattle.hose_io.specs.Stream.{Grows}
use Rattle.hose_io.specs.declared.Failed.{Failed}
use Rattle.hose_io.specs.declared.sink.Sink.{Ghosts}
use Rattle.hose_io.specs.Writing.{GrowsInPart}

-- All of a text was put; or the sink failed, and was given a part of it that is not the whole.
pub record IsPut {S T : Type 0} (sink : Ghosts S) (was now : S) (text : List ℕ)
    (result : Result T Failed) : Type 0 where
  pub ok : OnOk result (Grows (sink.content was) (sink.content now) text)
  pub err : OnErr result (GrowsInPart (sink.content was) (sink.content now) text)
  pub met : Met (sink.frame was) (sink.frame now) result
