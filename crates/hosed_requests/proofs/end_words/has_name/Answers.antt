use Rattle.std.proofs.Common.{◌≡◌, ◌≤◌, ◌∙◌, length, refl, sym, ap, arith}
use Rattle.std.specs.String.{string_bytes}
use Rattle.hose_proto.specs.EndWords.{name_in}
use Rattle.hosed_requests.proofs.EndsSeen.{none_seen}
use Rattle.hosed_requests.proofs.end_words.has_name.Goals as goal

pub returns-then-is_named : goal.returns-then-is_named
returns-then-is_named c =
    let named : name_in (string_bytes c.index-ends-place.result) ≡ c.args.name.now = ap name_in (sym c.deref.ensures) ∙ c.if-is_named.ensures.0 refl in
    ((λ _. (c.loop-place.place, c.index-ends-place.result, c.loop-place-test.true, sym c.index-ends-place.is, named)), λ _. refl)

pub returns : goal.returns
returns c =
    let all : length c.args.ends.now ≤ c.loop-place.place = omega arith in (
      (λ found. cc found),
      λ any. absurd (none_seen _ c.args.ends.now (λ k d below. c.loop-place.invariant k d (omega (arith, below, all))) any),
    )
