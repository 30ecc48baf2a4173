use Rattle.std.proofs.Common.{refl}
use Rattle.hose_words.proofs.Exits.{still_wrong}
use Rattle.hose_words.proofs.Forms.{wrong_place, wrong_later}
use Rattle.hose_replies.proofs.fields.expect_link.Goals as goal

pub returns-in_err-expect_node-2-clause-wrong : goal.returns-in_err-expect_node-2-clause-wrong
returns-in_err-expect_node-2-clause-wrong c = rw c.link-link.ensures.value (still_wrong c.from_residual-in_err-expect_node-2.result c.from_residual-in_err-expect_node-2.ensures.1 (wrong_later c.in_ok-expect_node.ensures.ok refl (wrong_place c.in_err-expect_node-2.ensures.wrong)))

pub returns-in_err-expect-clause-wrong : goal.returns-in_err-expect-clause-wrong
returns-in_err-expect-clause-wrong c = rw c.link-link.ensures.value (still_wrong c.from_residual-in_err-expect.result c.from_residual-in_err-expect.ensures.1 (wrong_later c.in_ok-expect_node.ensures.ok refl (wrong_later c.in_ok-expect_node-2.ensures.ok refl (wrong_place c.in_err-expect.ensures.wrong))))

pub returns-in_err-expect_number-clause-wrong : goal.returns-in_err-expect_number-clause-wrong
returns-in_err-expect_number-clause-wrong c = rw c.link-link.ensures.value (still_wrong c.from_residual-in_err-expect_number.result c.from_residual-in_err-expect_number.ensures.1 (wrong_later c.in_ok-expect_node.ensures.ok refl (wrong_later c.in_ok-expect_node-2.ensures.ok refl (wrong_later c.in_ok-expect.ensures.ok refl (wrong_place c.in_err-expect_number.ensures.wrong)))))

pub returns-in_err-expect-2-clause-wrong : goal.returns-in_err-expect-2-clause-wrong
returns-in_err-expect-2-clause-wrong c = rw c.link-link.ensures.value (still_wrong c.from_residual-in_err-expect-2.result c.from_residual-in_err-expect-2.ensures.1 (wrong_later c.in_ok-expect_node.ensures.ok refl (wrong_later c.in_ok-expect_node-2.ensures.ok refl (wrong_later c.in_ok-expect.ensures.ok refl (wrong_later c.in_ok-expect_number.ensures.ok refl (wrong_place c.in_err-expect-2.ensures.wrong))))))

pub returns-in_err-expect_number-2-clause-wrong : goal.returns-in_err-expect_number-2-clause-wrong
returns-in_err-expect_number-2-clause-wrong c = rw c.link-link.ensures.value (still_wrong c.from_residual-in_err-expect_number-2.result c.from_residual-in_err-expect_number-2.ensures.1 (wrong_later c.in_ok-expect_node.ensures.ok refl (wrong_later c.in_ok-expect_node-2.ensures.ok refl (wrong_later c.in_ok-expect.ensures.ok refl (wrong_later c.in_ok-expect_number.ensures.ok refl (wrong_later c.in_ok-expect-2.ensures.ok refl (wrong_place c.in_err-expect_number-2.ensures.wrong)))))))
