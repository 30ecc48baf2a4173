-- No disk is out between two words.
use Rattle.std.proofs.Common.{◌≡◌, None}
use Rattle.hose_disk.specs.steps.CabinetState.{cabinet_frame}
use Rattle.cases_disks.proofs.cabinets.tell_words.Given as goal

abbrev pub invariant-loop-word : goal.invariant-loop-word
invariant-loop-word l = (cabinet_frame l.cabinet).out ≡ None
