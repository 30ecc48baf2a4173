use Rattle.std.proofs.Common.{arith}
use Rattle.std.proofs.lemmas.Fmt.{decimal_injective}
use Rattle.hose_words.proofs.Forms.{misses_word}
use Rattle.hose_words.proofs.cursor.Cursor.expect_number.Goals as goal

pub returns-else-branch-value-clause-wrong : goal.returns-else-branch-value-clause-wrong
returns-else-branch-value-clause-wrong c =
    misses_word c.in_ok-number.ensures.ok
    (λ same. c.if-branch-value.false (decimal_injective c.in_ok-number.field-0 c.args.value c.in_ok-number.ensures.small (omega (arith, c.ranges.value.fits)) same))
    c.wrong-wrong.ensures
