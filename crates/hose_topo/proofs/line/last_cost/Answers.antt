use Rattle.std.proofs.Common.{◌≡◌, refl}
use Rattle.hose_words.proofs.Exits.{still_wrong}
use Rattle.hose_words.proofs.Forms.{some_word, wrong_later, wrong_maybe, wrong_place}
use Rattle.hose_topo.proofs.line.last_cost.Goals as goal

pub returns-in_err-cost-clause-wrong : goal.returns-in_err-cost-clause-wrong
returns-in_err-cost-clause-wrong c =
    still_wrong c.from_residual.result c.from_residual.ensures.1
    (wrong_maybe (some_word (λ first. first ≡ c.in-Some.field-0.now) c.args.words.now.left c.in-Some.ensures.some) (wrong_place c.in_err-cost.ensures.wrong))

pub returns-in_err-finish-clause-wrong : goal.returns-in_err-finish-clause-wrong
returns-in_err-finish-clause-wrong c =
    still_wrong c.from_residual-in_err-finish.result c.from_residual-in_err-finish.ensures.1
    (wrong_maybe (some_word (λ first. first ≡ c.in-Some.field-0.now) c.args.words.now.left c.in-Some.ensures.some) (wrong_later c.in_ok-cost.ensures.ok (c.in_ok-cost.cost, refl, c.in_ok-cost.ensures.within) c.in_err-finish.ensures.wrong))
