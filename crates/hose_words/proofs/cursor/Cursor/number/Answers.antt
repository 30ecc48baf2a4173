use Rattle.std.proofs.Common.{◌∙◌, ◌∷◌, ap, arith}
use Rattle.hose_words.proofs.DecimalLemmas.{told_decimal, decimal_told}
use Rattle.hose_words.proofs.Forms.{misses_word}
use Rattle.hose_words.proofs.cursor.Cursor.number.Goals as goal

pub returns-in_default-number-clause-wrong : goal.returns-in_default-number-clause-wrong
returns-in_default-number-clause-wrong c =
    misses_word c.in-Some.ensures.some
    (λ tells. c.in_default-number.ensures.none tells.0 (omega (arith, tells.2)) (decimal_told c.in-Some.word.now tells.0 tells.1 tells.2))
    c.wrong-wrong.ensures

pub returns-clause-ok : goal.returns-clause-ok
returns-clause-ok c = record {
  cut = c.in-Some.ensures.some.cut ∙ ap (λ w. w ∷ c.next.new.self.left) (told_decimal c.in-Some.word.now c.in-Some-number.value c.in-Some-number.ensures.value.0 (omega (arith, c.in-Some-number.ensures.value.1)));
  counted = c.in-Some.ensures.some.counted;
}
