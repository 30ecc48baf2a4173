use Rattle.hose_outside.proofs.Told.{told_done, told_failed}
use Rattle.hosed_program.proofs.choice.tell.Goals as goal

pub returns-in-Ok-clause-told : goal.returns-in-Ok-clause-told
returns-in-Ok-clause-told g c = told_done g.O.Sink _

pub returns-in-Err-clause-told : goal.returns-in-Err-clause-told
returns-in-Err-clause-told g c = told_failed g.O.Sink _
