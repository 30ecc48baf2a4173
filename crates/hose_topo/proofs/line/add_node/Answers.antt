use Rattle.hose_words.proofs.Exits.{still_wrong}
use Rattle.hose_words.proofs.Forms.{wrong_later, wrong_place}
use Rattle.hose_topo.proofs.line.add_node.Goals as goal

pub returns-in_err-name-clause-wrong : goal.returns-in_err-name-clause-wrong
returns-in_err-name-clause-wrong c =
    still_wrong c.from_residual.result c.from_residual.ensures.1
    (wrong_place c.in_err-name.ensures.wrong)

pub returns-in_err-finish-clause-wrong : goal.returns-in_err-finish-clause-wrong
returns-in_err-finish-clause-wrong c =
    still_wrong c.from_residual-in_err-finish.result c.from_residual-in_err-finish.ensures.1
    (wrong_later c.in_ok-name.ensures.ok c.in_ok-name.ensures.is_new c.in_err-finish.ensures.wrong)
