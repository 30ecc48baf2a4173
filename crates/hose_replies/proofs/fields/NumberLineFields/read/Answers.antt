use Rattle.std.proofs.Common.{refl}
use Rattle.hose_words.proofs.Forms.{wrong_place, wrong_later}
use Rattle.hose_proto.proofs.Faults.{handed}
use Rattle.hose_replies.proofs.Failing.{failed, failed_later}
use Rattle.hose_replies.proofs.fields.NumberLineFields.read.Goals as goal

pub returns-in_err-number-clause-fault : goal.returns-in_err-number-clause-fault
returns-in_err-number-clause-fault g c = handed _ c.from_residual.result c.from_residual.ensures.1 (failed (wrong_place c.in_err-number.ensures.wrong))

pub returns-in_err-rest-clause-fault : goal.returns-in_err-rest-clause-fault
returns-in_err-rest-clause-fault g c =
    handed _ c.from_residual-in_err-rest.result c.from_residual-in_err-rest.ensures.1
    (failed_later (λ n wrong. wrong_later c.in_ok-number.ensures.ok (c.in_ok-number.number, refl, c.in_ok-number.ensures.small) wrong) (λ lists. lists) c.in_err-rest.ensures.fault)
