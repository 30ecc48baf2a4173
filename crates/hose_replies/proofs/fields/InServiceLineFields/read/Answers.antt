use Rattle.std.proofs.Common.{rules}
use Rattle.hose_replies.specs.steps.Fields.{service_word}
use Rattle.hose_words.proofs.Forms.{wrong_choice, wrong_chosen}
use Rattle.hose_proto.proofs.Faults.{handed}
use Rattle.hose_replies.specs.declared.head.Service.TheVariants.{At, Out}
use Rattle.hose_replies.proofs.Failing.{failed, failed_later}
use Rattle.hose_replies.proofs.Words.{services_apart, services_told}
use Rattle.hose_replies.proofs.fields.InServiceLineFields.read.Goals as goal

pub returns-in_err-service-clause-fault : goal.returns-in_err-service-clause-fault
returns-in_err-service-clause-fault g c = handed _ c.from_residual.result c.from_residual.ensures.1 (failed (wrong_choice (c.in_err-service.ensures.wrong service_word services_told)))

pub returns-in_err-rest-in-Out-clause-fault : goal.returns-in_err-rest-in-Out-clause-fault
returns-in_err-rest-in-Out-clause-fault g c =
    handed _ c.from_residual-in_err-rest-in-Out.result c.from_residual-in_err-rest-in-Out.ensures.1
    (failed_later (λ n wrong. wrong_chosen Out tt services_apart (rw c.in-Out.is at (c.in_ok-service.ensures.ok service_word services_told)) wrong) (λ lists. lists) c.in_err-rest-in-Out.ensures.fault)

pub returns-in_err-rest-in-At-clause-fault : goal.returns-in_err-rest-in-At-clause-fault
returns-in_err-rest-in-At-clause-fault g c =
    handed _ c.from_residual-in_err-rest-in-At.result c.from_residual-in_err-rest-in-At.ensures.1
    (failed_later (λ n wrong. wrong_chosen At tt services_apart (rw c.in-At.is at (c.in_ok-service.ensures.ok service_word services_told)) wrong) (λ lists. lists) c.in_err-rest-in-At.ensures.fault)

pub returns-in_ok-rest-in-Out-clause-ok : goal.returns-in_ok-rest-in-Out-clause-ok
returns-in_ok-rest-in-Out-clause-ok g c = let took = c.in_ok-service.ensures.ok service_word services_told in search rules

pub returns-in_ok-rest-in-At-clause-ok : goal.returns-in_ok-rest-in-At-clause-ok
returns-in_ok-rest-in-At-clause-ok g c = let took = c.in_ok-service.ensures.ok service_word services_told in search rules
