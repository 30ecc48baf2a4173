use Rattle.std.proofs.Common.{◌≡◌, ◌∙◌, ◌<◌, ◌^◌, decimal, sym, arith}
use Rattle.std.proofs.lemmas.Bool.{false≢true}
use Rattle.std.proofs.lemmas.Fmt.{decimal_injective}
use Rattle.hose_words.proofs.DecimalLemmas.{decimal_told, told_decimal}
use Rattle.hose_proto.proofs.Colons.{named_parts, named_told, no_colon_decimal}
use Rattle.hose_replies.proofs.Rising.{same_first}
use Rattle.hose_replies.proofs.lists.AscendingPairsItems.next.Goals as goal

pub returns-in_default : goal.returns-in_default
returns-in_default c = record {
  some = tt;
  none = λ pair told next.
      let small : pair.0 < 2 ^ 64 = omega (arith, next.here.link, c.requires.network.few_links) in
      let parts = named_parts c.args.word.now c.in_ok-link.link.now c.in_ok-link.amount.now (decimal pair.0) pair.1 c.in_ok-link.ensures.spelled c.in_ok-link.ensures.first told (no_colon_decimal pair.0 small) in
      c.in_default.ensures.none pair.0 parts.0 next.here.link;
}

pub returns-in_default-number : goal.returns-in_default-number
returns-in_default-number c = record {
  some = tt;
  none = λ pair told next.
      let small : pair.0 < 2 ^ 64 = omega (arith, next.here.link, c.requires.network.few_links) in
      let parts = named_parts c.args.word.now c.in_ok-link.link.now c.in_ok-link.amount.now (decimal pair.0) pair.1 c.in_ok-link.ensures.spelled c.in_ok-link.ensures.first told (no_colon_decimal pair.0 small) in
      c.in_default-number.ensures.none pair.1 (omega (arith, next.here.fits)) (decimal_told c.in_ok-link.amount.now pair.1 parts.1 next.here.fits);
}

pub returns-then-comes_after : goal.returns-then-comes_after
returns-then-comes_after c =
    let link = c.in-Some.link in
    let amount = c.in-Some-number.amount in
    let fits : amount < 2 ^ 64 = omega (arith, c.in-Some-number.ensures.value.1) in
    let spelled = named_told c.args.word.now c.in_ok-link.link.now c.in_ok-link.amount.now (decimal link) amount c.in_ok-link.ensures.spelled c.in-Some.ensures.told (told_decimal c.in_ok-link.amount.now amount c.in-Some-number.ensures.value.0 fits) in
    record {
      some = (spelled, record { here = record { link = c.in-Some.ensures.is_link; fits = fits }; ascending = c.comes_after.ensures.0 c.if-comes_after.true });
      none = tt;
    }

pub returns-else-comes_after : goal.returns-else-comes_after
returns-else-comes_after c = record {
  some = tt;
  none = λ pair told next.
      let link = c.in-Some.link in
      let small : pair.0 < 2 ^ 64 = omega (arith, next.here.link, c.requires.network.few_links) in
      let fits : link < 2 ^ 64 = omega (arith, c.in-Some.ensures.is_link, c.requires.network.few_links) in
      let parts = named_parts c.args.word.now c.in_ok-link.link.now c.in_ok-link.amount.now (decimal pair.0) pair.1 c.in_ok-link.ensures.spelled c.in_ok-link.ensures.first told (no_colon_decimal pair.0 small) in
      let same : link ≡ pair.0 = decimal_injective link pair.0 fits small (sym c.in-Some.ensures.told ∙ parts.0) in
      let rises = same_first c.args.pairs.now (link, c.in-Some-number.amount) pair same next.ascending in
      false≢true (sym c.if-comes_after.false ∙ c.comes_after.ensures.1 rises);
}
