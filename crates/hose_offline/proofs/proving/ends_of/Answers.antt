use Rattle.std.proofs.Common.{◌≡◌, ◌∙◌, ◌+◌, ◌<◌, ◌∷◌, [], get_or, length, map, ap, arith, length-append}
use Rattle.std.specs.String.{string_bytes}
use Rattle.std.proofs.lemmas.List.{length-map}
use Rattle.hose_offline.proofs.EndsFound.{first_unknown, one_end_more, spells_known, word_at}
use Rattle.hose_offline.proofs.proving.ends_of.Goals as goal

pub returns-in_default-clause-none : goal.returns-in_default-clause-none
returns-in_default-clause-none c =
    let words = map string_bytes c.args.ends.now in
    let found = c.loop-found.found.items in
    let below : length found < length words = omega (arith, length-map c.args.ends.now string_bytes) in
    let word : get_or words (length found) [] ≡ c.as_bytes.result.now = word_at string_bytes c.args.ends.now c.index-ends-len.result _ (length found) _ c.index-ends-len.is (omega arith) (omega arith) c.as_bytes.ensures.value in
    let none = spells_known c.args.top.now (get_or words (length found) []) c.requires.network (c.requires.ends.are.ends (length found) [] below) (rw word c.in_default.ensures.none) in
    let is = first_unknown c.args.top.now words found c.loop-found.invariant.are c.requires.network below none in
    let long : c.len-in_default.result ≡ length found = omega arith in
    (length found, ap (λ n. c.args.first + n) long, is)

pub loop-found-preserved : goal.loop-found-preserved
loop-found-preserved c =
    let words = map string_bytes c.args.ends.now in
    let found = c.loop-found.found.items in
    let below : length found < length words = omega (arith, length-map c.args.ends.now string_bytes) in
    let word : get_or words (length found) [] ≡ c.as_bytes.result.now = word_at string_bytes c.args.ends.now c.index-ends-len.result _ (length found) _ c.index-ends-len.is (omega arith) (omega arith) c.as_bytes.ensures.value in
    let are = one_end_more c.args.top.now words found c.loop-found.invariant.are c.in-Some.end below (word ∙ c.in-Some.ensures.spelled) c.in-Some.ensures.is_end in
    rw c.in_ok-push.ensures.items (record {
      within = omega (arith, below, length-append found (c.in-Some.end ∷ []), length-map c.args.ends.now string_bytes);
      are = rw (length-append found (c.in-Some.end ∷ [])) are;
    })
