use Rattle.std.proofs.Common.{◌≡◌, arith}
use Rattle.std.proofs.lemmas.Fmt.{decimal_injective}
use Rattle.hose_words.proofs.Forms.{misses_word}
use Rattle.hose_words.proofs.cursor.Cursor.number_within.Goals as goal
use Rattle.hose_words.proofs.cursor.Cursor.number_within.Goals.{else-least-value-via-then-least-value+else-value-most, else-least-value-via-else-least-value}

pub returns-else-least-value-clause-wrong : goal.returns-else-least-value-clause-wrong
returns-else-least-value-clause-wrong c =
    misses_word c.in_ok-value.ensures.ok
    (λ tells.
    let same : c.in_ok-value.value ≡ tells.0 = decimal_injective c.in_ok-value.value tells.0 c.in_ok-value.ensures.small (omega (arith, tells.2, c.ranges.most.fits)) tells.1 in
    elim c.else-least-value.branch [
      | else-least-value-via-then-least-value+else-value-most w ↦ omega (arith, same, tells.2)
      | else-least-value-via-else-least-value w ↦ omega (arith, same, tells.2)
    ])
    c.wrong-wrong.ensures
