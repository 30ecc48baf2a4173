use Rattle.std.proofs.Common.{slice_get}
use Rattle.hose_words.proofs.Forms.{wrong_choice, wrong_chosen}
use Rattle.hose_proto.proofs.Faults.{handed}
use Rattle.hose_proto.specs.ReplyWords.{words_of_link}
use Rattle.hose_replies.proofs.Failing.{failed, failed_later, these_later, these_wrong}
use Rattle.hose_proto.proofs.Words.{links_apart}
use Rattle.hose_replies.proofs.fields.LinkToldLineFields.read.Goals as goal

pub returns-in_err-link-clause-fault : goal.returns-in_err-link-clause-fault
returns-in_err-link-clause-fault g c = handed _ c.from_residual.result c.from_residual.ensures.1 (failed (wrong_choice c.in_err-link.ensures.wrong))

pub returns-in_err-expect_link-clause-fault : goal.returns-in_err-expect_link-clause-fault
returns-in_err-expect_link-clause-fault g c =
    handed _ c.from_residual-in_err-expect_link.result c.from_residual-in_err-expect_link.ensures.1
    (failed (wrong_chosen c.in_ok-link.link c.in_ok-link.ensures.is_link (links_apart c.args.top.now c.requires) c.in_ok-link.ensures.ok
    (these_wrong (words_of_link c.args.top.now (slice_get c.args.top.now.links c.in_ok-link.link)) _ c.in_err-expect_link.ensures.wrong)))

pub returns-in_err-rest-clause-fault : goal.returns-in_err-rest-clause-fault
returns-in_err-rest-clause-fault g c =
    handed _ c.from_residual-in_err-rest.result c.from_residual-in_err-rest.ensures.1
    (failed_later (λ n wrong. wrong_chosen c.in_ok-link.link c.in_ok-link.ensures.is_link (links_apart c.args.top.now c.requires) c.in_ok-link.ensures.ok
    (these_later (words_of_link c.args.top.now (slice_get c.args.top.now.links c.in_ok-link.link)) c.in_ok-expect_link.ensures.ok wrong)) (λ lists. lists) c.in_err-rest.ensures.fault)
