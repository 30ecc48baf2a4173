-- What answering the lines of a run keeps: steps of proofs.
use Rattle.std.specs.Prelude.{◌≡◌, ◌↔◌, ℕ, ◌+◌, ◌<◌, ◌≤◌, List, Option, Some, None, Result, Err, ⊤}
use Rattle.hose_words.specs.steps.Lines.{Reader}
use Rattle.hose_words.specs.steps.Reading.{ReadsOn}
use Rattle.hose_words.specs.declared.lines.TheConstants.{INPUT_LIMIT}
use Rattle.hose_outside.specs.OnDisk.{OthersStay}
use Rattle.hose_outside.specs.Parts.{AllStay, Parts, Tellings, parts}
use Rattle.hose_outside.specs.declared.fault.Fault.{Fault}
use Rattle.hose_outside.specs.declared.fault.Fault.TheVariants.{TooLong}

-- What a run, up to its last line, keeps, whatever it comes to. Lines are read on, and given up
-- exactly where they are too long. The disks of other names than the journal's, if there is one,
-- are as they were, no text was asked for, no disk is out, and each part is the object that it was.
pub record KeepsRun {S O C E : Type 0} (tells : Tellings S O C E) (journal : Option (List ℕ))
    (before after : Parts (Reader S) O C) (done : Result ⊤ Fault) : Type 0 where
  pub reads_on : ReadsOn tells.source before.input after.input
  pub too_long : (done ≡ Err TooLong) ↔ (INPUT_LIMIT < after.input.taken)
  pub limit : after.input.taken ≤ INPUT_LIMIT + 1
  pub others : (name : List ℕ) → journal ≡ Some name
      → OthersStay tells.cabinet name before.cabinet after.cabinet
  pub absent :
      (tells.cabinet.frame after.cabinet).absent ≡ (tells.cabinet.frame before.cabinet).absent
  pub back : (tells.cabinet.frame after.cabinet).out ≡ None
  pub stay : AllStay tells (parts before.input.source before.output before.cabinet)
      (parts after.input.source after.output after.cabinet)
