use Rattle.std.proofs.Common.{refl}
use Rattle.hose_words.proofs.Forms.{wrong_later}
use Rattle.hose_proto.proofs.Faults.{handed}
use Rattle.hose_replies.proofs.Failing.{failed_later}
use Rattle.hose_replies.proofs.fields.WordLineFields.read.Goals as goal

pub returns-in_err-rest-clause-fault : goal.returns-in_err-rest-clause-fault
returns-in_err-rest-clause-fault g c =
    let took = rw c.word.ensures at c.in_ok-expect.ensures.ok in
    handed _ c.from_residual-in_err-rest.result c.from_residual-in_err-rest.ensures.1 (failed_later (λ n wrong. wrong_later took refl wrong) (λ lists. lists) c.in_err-rest.ensures.fault)
