use Rattle.std.proofs.Common.{◌≡◌, ◌∙◌, List, ℕ, [], get_or, map, rules, take, sym, ap, subst, arith}
use Rattle.std.specs.List.{take-map}
use Rattle.std.specs.String.{string_bytes}
use Rattle.std.proofs.lemmas.List.{get_or-map, length-map}
use Rattle.hose_proto.specs.steps.EndWords.{IsNewEndWord}
use Rattle.hosed_requests.proofs.EndsSeen.{few_wrong, seen_more, word_wrong}
use Rattle.hosed_requests.proofs.end_words.wrong_end.Goals as goal

pub returns-then-not-is_new_end-clause-some : goal.returns-then-not-is_new_end-clause-some
returns-then-not-is_new_end-clause-some c =
    let words = map string_bytes c.args.ends.now in
    let place = c.loop-place.place in
    let one = c.index-ends-place.result in
    let word : get_or words place [] ≡ c.deref.result.now = get_or-map string_bytes c.args.ends.now place one [] (omega arith) ∙ ap string_bytes (sym c.index-ends-place.is) ∙ sym c.deref.ensures in
    let never : IsNewEndWord (map string_bytes (take place c.args.ends.now)) c.deref.result.now → ⊥ = search rules in
    word_wrong words place c.loop-place.invariant c.deref.result.now (omega (arith, length-map c.args.ends.now string_bytes)) word
    (λ new. never (subst (λ (front : List (List ℕ)). IsNewEndWord front c.deref.result.now) (take-map string_bytes place c.args.ends.now) new))

pub loop-place-preserved : goal.loop-place-preserved
loop-place-preserved c =
    let words = map string_bytes c.args.ends.now in
    let place = c.loop-place.place in
    let one = c.index-ends-place.result in
    let word : get_or words place [] ≡ c.deref.result.now = get_or-map string_bytes c.args.ends.now place one [] (omega arith) ∙ ap string_bytes (sym c.index-ends-place.is) ∙ sym c.deref.ensures in
    let new : IsNewEndWord (map string_bytes (take place c.args.ends.now)) c.deref.result.now = search rules in
    seen_more words place c.loop-place.invariant c.deref.result.now (omega (arith, length-map c.args.ends.now string_bytes)) word
    (subst (λ (front : List (List ℕ)). IsNewEndWord front c.deref.result.now) (sym (take-map string_bytes place c.args.ends.now)) new)

pub returns-then-place-lt-LEAST_ENDS-clause-some : goal.returns-then-place-lt-LEAST_ENDS-clause-some
returns-then-place-lt-LEAST_ENDS-clause-some c =
    few_wrong (map string_bytes c.args.ends.now) c.loop-place.place c.loop-place.invariant (omega (arith, length-map c.args.ends.now string_bytes)) (omega arith)
