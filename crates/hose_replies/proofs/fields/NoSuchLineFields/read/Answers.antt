use Rattle.std.proofs.Common.{rules}
use Rattle.hose_replies.specs.steps.Fields.{missing_word}
use Rattle.hose_words.proofs.Forms.{wrong_choice, wrong_chosen}
use Rattle.hose_proto.proofs.Faults.{handed}
use Rattle.hose_replies.proofs.Failing.{failed, failed_later}
use Rattle.hose_replies.proofs.Words.{missing_apart, missing_told}
use Rattle.hose_replies.proofs.fields.NoSuchLineFields.read.Goals as goal

pub returns-in_err-missing-clause-fault : goal.returns-in_err-missing-clause-fault
returns-in_err-missing-clause-fault g c = handed _ c.from_residual.result c.from_residual.ensures.1 (failed (wrong_choice (c.in_err-missing.ensures.wrong missing_word missing_told)))

pub returns-in_err-rest-clause-fault : goal.returns-in_err-rest-clause-fault
returns-in_err-rest-clause-fault g c =
    handed _ c.from_residual-in_err-rest.result c.from_residual-in_err-rest.ensures.1
    (failed_later (λ n wrong. wrong_chosen c.in_ok-missing.missing tt missing_apart (c.in_ok-missing.ensures.ok missing_word missing_told) wrong) (λ lists. lists) c.in_err-rest.ensures.fault)

pub returns-clause-ok : goal.returns-clause-ok
returns-clause-ok g c = let took = c.in_ok-missing.ensures.ok missing_word missing_told in search rules
