use Rattle.hose_words.proofs.Exits.{still_wrong}
use Rattle.hose_words.proofs.Forms.{wrong_choice, wrong_chosen}
use Rattle.hose_proto.proofs.Words.{links_apart}
use Rattle.hose_proto.proofs.verb.read_link.Goals as goal

pub returns-in_err-link-clause-wrong : goal.returns-in_err-link-clause-wrong
returns-in_err-link-clause-wrong c = still_wrong c.from_residual.result c.from_residual.ensures.1 (wrong_choice c.in_err-link.ensures.wrong)

pub returns-in_err-finish-clause-wrong : goal.returns-in_err-finish-clause-wrong
returns-in_err-finish-clause-wrong c =
    still_wrong c.from_residual-in_err-finish.result c.from_residual-in_err-finish.ensures.1
    (wrong_chosen c.in_ok-link.link c.in_ok-link.ensures.is_link (links_apart c.args.top.now c.requires) c.in_ok-link.ensures.ok c.in_err-finish.ensures.wrong)
