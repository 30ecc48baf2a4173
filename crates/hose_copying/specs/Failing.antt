-- Which of the files that a command names is told as the one at which the cabinet failed.
use Rattle.std.specs.Prelude.{Err, ⊤}
use Rattle.hose_copying.specs.CutOutcome.{CutNames, CutsNamed}
use Rattle.hose_copying.specs.Moving.{MoveNames, MovesNamed}
use Rattle.hose_outside.specs.Parts.{Parts, Tellings}
use Rattle.hose_outside.specs.declared.fault.Fault.TheVariants.{Cabinet, Text}
use Rattle.hose_outside.specs.declared.why.Why.{Why}
use Rattle.hose_outside.specs.declared.why.Why.TheVariants.{NotMoved, Stopped}

module _ {I O C E : Type 0} (tells : Tellings I O C E) (names : MoveNames)
    (before after : Parts I O C) where
  -- Why a move ended early is what it came to, step by step: so at a file of which it is told that
  -- it failed, and at no other, a call failed.
  abbrev pub FailsMoved : Why → Type 0
  FailsMoved (NotMoved stop) =
      (left : O) × MovesNamed tells names before (record after { output = left }) (Err stop)
  FailsMoved (Stopped Text) = ⊥
  FailsMoved (Stopped Cabinet) = ⊥
  FailsMoved _ = ⊤

module _ {I O C E : Type 0} (tells : Tellings I O C E) (names : CutNames)
    (before after : Parts I O C) where
  -- so it is with a cut
  abbrev pub FailsCut : Why → Type 0
  FailsCut (NotMoved stop) =
      (left : O) × CutsNamed tells names before (record after { output = left }) (Err stop)
  FailsCut (Stopped Text) = ⊥
  FailsCut (Stopped Cabinet) = ⊥
  FailsCut _ = ⊤
