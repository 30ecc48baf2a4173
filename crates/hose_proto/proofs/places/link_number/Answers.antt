use Rattle.std.proofs.Common.{◌≡◌, ◌∙◌, sym, arith}
use Rattle.hose_words.proofs.DecimalLemmas.{decimal_told, told_decimal}
use Rattle.hose_proto.proofs.places.link_number.Goals as goal

pub returns-in_default-clause-none : goal.returns-in_default-clause-none
returns-in_default-clause-none c = λ link told is.
    c.in_default.ensures.none link (omega (arith, is, c.links.ensures.network.few_links)) (decimal_told c.args.word.now link told (omega (arith, is, c.links.ensures.network.few_links)))

pub returns-then-link-links-clause-told : goal.returns-then-link-links-clause-told
returns-then-link-links-clause-told c = told_decimal c.args.word.now c.in-Some.link c.in-Some.ensures.value.0 (omega (arith, c.in-Some.ensures.value.1))

pub returns-else-link-links-clause-none : goal.returns-else-link-links-clause-none
returns-else-link-links-clause-none c = λ link told is.
    let same : c.in-Some.link ≡ link = sym c.in-Some.ensures.value.0.value ∙ (decimal_told c.args.word.now link told (omega (arith, is, c.links.ensures.network.few_links))).value in
    omega (arith, same, is, c.if-link-links.false, c.from-links.ensures, c.links.ensures.count)
