use Rattle.std.proofs.Common.{refl}
use Rattle.hose_words.proofs.Exits.{still_wrong}
use Rattle.hose_words.proofs.Forms.{wrong_choice, wrong_chosen, wrong_later, wrong_place}
use Rattle.hose_topo.proofs.WrongWord.{nodes_apart, past_nodes}
use Rattle.hose_topo.proofs.line.read_link.Goals as goal

pub returns-in_err-a-clause-wrong : goal.returns-in_err-a-clause-wrong
returns-in_err-a-clause-wrong c =
    still_wrong c.from_residual.result c.from_residual.ensures.1
    (wrong_choice c.in_err-a.ensures.wrong)

pub returns-in_err-b-clause-wrong : goal.returns-in_err-b-clause-wrong
returns-in_err-b-clause-wrong c =
    still_wrong c.from_residual-in_err-b.result c.from_residual-in_err-b.ensures.1
    (wrong_chosen c.in_ok-a.a c.in_ok-a.ensures.is_node (nodes_apart c.args.top.now c.requires) c.in_ok-a.ensures.ok
    (wrong_choice c.in_err-b.ensures.wrong))

pub returns-in_err-capacity-clause-wrong : goal.returns-in_err-capacity-clause-wrong
returns-in_err-capacity-clause-wrong c =
    still_wrong c.from_residual-in_err-capacity.result c.from_residual-in_err-capacity.ensures.1
    (past_nodes c.args.top.now c.requires c.in_ok-a.ensures.ok c.in_ok-a.ensures.is_node c.in_ok-b.ensures.ok c.in_ok-b.ensures.other
    (wrong_place c.in_err-capacity.ensures.wrong))

pub returns-in_err-length-clause-wrong : goal.returns-in_err-length-clause-wrong
returns-in_err-length-clause-wrong c =
    still_wrong c.from_residual-in_err-length.result c.from_residual-in_err-length.ensures.1
    (past_nodes c.args.top.now c.requires c.in_ok-a.ensures.ok c.in_ok-a.ensures.is_node c.in_ok-b.ensures.ok c.in_ok-b.ensures.other
    (wrong_later c.in_ok-capacity.ensures.ok (c.in_ok-capacity.capacity, refl, c.in_ok-capacity.ensures.within)
    (wrong_place c.in_err-length.ensures.wrong)))

pub returns-in_err-cost-clause-wrong : goal.returns-in_err-cost-clause-wrong
returns-in_err-cost-clause-wrong c =
    still_wrong c.from_residual-in_err-cost.result c.from_residual-in_err-cost.ensures.1
    (past_nodes c.args.top.now c.requires c.in_ok-a.ensures.ok c.in_ok-a.ensures.is_node c.in_ok-b.ensures.ok c.in_ok-b.ensures.other
    (wrong_later c.in_ok-capacity.ensures.ok (c.in_ok-capacity.capacity, refl, c.in_ok-capacity.ensures.within)
    (wrong_later c.in_ok-length.ensures.ok (c.in_ok-length.length, refl, c.in_ok-length.ensures.within)
    c.in_err-cost.ensures.wrong)))
