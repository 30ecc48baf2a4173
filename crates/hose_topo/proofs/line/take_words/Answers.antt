use Rattle.std.proofs.Common.{sym, subst}
use Rattle.hose_words.specs.steps.Cursor.{IsWrong}
use Rattle.hose_words.proofs.Exits.{still_wrong}
use Rattle.hose_words.proofs.Forms.{wrong_choice, wrong_chosen}
use Rattle.hose_topo.specs.steps.TopologyText.{kind_form}
use Rattle.hose_topo.proofs.WrongWord.{kinds_apart}
use Rattle.hose_topo.proofs.line.take_words.Goals as goal

pub returns-in_err-kind-clause-wrong : goal.returns-in_err-kind-clause-wrong
returns-in_err-kind-clause-wrong c =
    still_wrong c.from_residual.result c.from_residual.ensures.1
    (wrong_choice c.in_err-kind.ensures.wrong)

pub returns-in_err-add_node-in-Node-clause-wrong : goal.returns-in_err-add_node-in-Node-clause-wrong
returns-in_err-add_node-in-Node-clause-wrong c =
    still_wrong c.from_residual-in_err-add_node-in-Node.result c.from_residual-in_err-add_node-in-Node.ensures.1
    (wrong_chosen c.in_ok-kind.kind c.in_ok-kind.ensures.may (kinds_apart c.args.top.now) c.in_ok-kind.ensures.ok
    (subst (λ kind. IsWrong (kind_form c.args.top.now kind) c.next_kind.new.words c.in_err-add_node-in-Node.field-0.0.number) (sym c.in-Node.is) c.in_err-add_node-in-Node.ensures.wrong))

pub returns-in_err-add_link-in-Link-clause-wrong : goal.returns-in_err-add_link-in-Link-clause-wrong
returns-in_err-add_link-in-Link-clause-wrong c =
    still_wrong c.from_residual-in_err-add_link-in-Link.result c.from_residual-in_err-add_link-in-Link.ensures.1
    (wrong_chosen c.in_ok-kind.kind c.in_ok-kind.ensures.may (kinds_apart c.args.top.now) c.in_ok-kind.ensures.ok
    (subst (λ kind. IsWrong (kind_form c.args.top.now kind) c.next_kind.new.words c.in_err-add_link-in-Link.field-0.0.number) (sym c.in-Link.is) c.in_err-add_link-in-Link.ensures.wrong))

pub returns-in_err-finish-in-End-clause-wrong : goal.returns-in_err-finish-in-End-clause-wrong
returns-in_err-finish-in-End-clause-wrong c =
    still_wrong c.from_residual-in_err-finish-in-End.result c.from_residual-in_err-finish-in-End.ensures.1
    (wrong_chosen c.in_ok-kind.kind c.in_ok-kind.ensures.may (kinds_apart c.args.top.now) c.in_ok-kind.ensures.ok
    (subst (λ kind. IsWrong (kind_form c.args.top.now kind) c.next_kind.new.words c.in_err-finish-in-End.field-0.0.number) (sym c.in-End.is) c.in_err-finish-in-End.ensures.wrong))
