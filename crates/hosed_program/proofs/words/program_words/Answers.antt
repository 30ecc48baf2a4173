use Rattle.std.proofs.Common.{◌≡◌, ◌∙◌, ◌∷◌, ◌++◌, [], List, ℕ, ◌+◌, length, map, ap, subst, sym, rules, arith}
use Rattle.std.proofs.lemmas.List.{map-append}
use Rattle.std.specs.String.{string_bytes}
use Rattle.hosed_program.proofs.WordsTaken.{AreTakenWhereTold, IsTakenAs, all_taken, one_taken, too_many}
use Rattle.hosed_program.proofs.words.program_words.Goals as goal

pub loop-place-preserved : goal.loop-place-preserved
loop-place-preserved g c =
    let told = g.G.Given.words c.args.given.now in
    let words = c.loop-place.words in
    let place = c.loop-place.place in
    let filled = c.word-filled in
    let text = c.in-Some.word.now in
    let is = c.in-Some.ensures in
    let room : length c.loop-place.bytes ≡ 4096 = search rules in
    let long : length filled.new.into ≡ length c.loop-place.bytes = search rules in
    let took : IsTakenAs filled.result filled.new.into text = record { whole = is.text; none = is.no_text; too_long = is.too_long; present = λ none. absurd (cc (is.none none)) } in
    let made : string_bytes c.in_ok-from_str.field-0 ≡ text = search rules in
    let more : map string_bytes c.push.new.self.items ≡ map string_bytes words.items ++ text ∷ [] =
    ap (map string_bytes) c.in_ok-push.ensures.items ∙ (map-append string_bytes words.items (c.in_ok-from_str.field-0 ∷ []) ∙ ap (λ (one : List ℕ). map string_bytes words.items ++ one ∷ []) made) in
    subst (AreTakenWhereTold told (place + 1)) (sym more) (one_taken (length c.loop-place.bytes) room told place (map string_bytes words.items) filled.result filled.new.into text long c.loop-place.invariant filled.ensures.told took)

pub returns-in_default : goal.returns-in_default
returns-in_default g c =
    let room : length c.loop-place.bytes ≡ 4096 = search rules in
    all_taken (length c.loop-place.bytes) room (g.G.Given.words c.args.given.now) c.loop-place.place (map string_bytes c.loop-place.words.items) c.word-filled.result c.word-filled.new.into c.loop-place.invariant c.word-filled.ensures.told c.in_default.ensures.ends _

pub returns : goal.returns
returns g c = too_many (g.G.Given.words c.args.given.now) c.loop-place.place (map string_bytes c.loop-place.words.items) c.loop-place.invariant _ (omega arith)
