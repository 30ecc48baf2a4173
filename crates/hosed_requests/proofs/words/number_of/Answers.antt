use Rattle.std.proofs.Common.{◌≡◌, ◌∙◌, sym, arith}
use Rattle.std.proofs.lemmas.Fmt.{decimal_injective}
use Rattle.hose_words.proofs.DecimalLemmas.{decimal_told, told_decimal}
use Rattle.hosed_requests.proofs.words.number_of.Goals as goal

pub returns-in_default-clause-none : goal.returns-in_default-clause-none
returns-in_default-clause-none c = λ tells.
    c.in_default.ensures.none tells.0 (omega (arith, tells.2)) (decimal_told c.as_bytes.result.now tells.0 (c.as_bytes.ensures.value ∙ tells.1) (omega (arith, tells.2, c.ranges.most.fits)))

pub returns-then-value-least-clause-none : goal.returns-then-value-least-clause-none
returns-then-value-least-clause-none c = λ tells.
    let told = c.in-Some.ensures.value in
    let is = told_decimal c.as_bytes.result.now c.in-Some.value told.0 (omega (arith, told.1, c.ranges.most.fits)) in
    let same : c.in-Some.value ≡ tells.0 = decimal_injective c.in-Some.value tells.0 (omega (arith, told.1, c.ranges.most.fits)) (omega (arith, tells.2, c.ranges.most.fits)) (sym is ∙ (c.as_bytes.ensures.value ∙ tells.1)) in
    omega (arith, same, tells.2)

pub returns-else-value-least-clause-some : goal.returns-else-value-least-clause-some
returns-else-value-least-clause-some c =
    let told = c.in-Some.ensures.value in (
      sym c.as_bytes.ensures.value ∙ told_decimal c.as_bytes.result.now c.in-Some.value told.0 (omega (arith, told.1, c.ranges.most.fits)),
      (omega arith, omega (arith, told.1)),
    )
