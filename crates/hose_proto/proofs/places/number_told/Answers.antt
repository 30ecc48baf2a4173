use Rattle.std.proofs.Common.{◌≡◌, ◌∙◌, ℕ, ◌^◌, ◌+◌, ◌-◌, ◌<◌, ◌≤◌, List, Option, None, Some, IfNone, IfSome, decimal, ap, arith, sym}
use Rattle.std.proofs.lemmas.Fmt.{decimal_injective}
use Rattle.hose_words.specs.Numbers.{Fits64}
use Rattle.hose_words.specs.steps.Number.{IsNumber}
use Rattle.hose_words.proofs.DecimalLemmas.{decimal_told, told_decimal}
use Rattle.hose_proto.proofs.places.number_told.Goals as goal

-- what is read of a word is the number whose decimal the word is
read : (most : ℕ) (word : List ℕ) (told : Option ℕ) → most < 2 ^ 64 → IfSome told (λ n. IsNumber word n × n ≤ most) → IfSome told (λ n. (word ≡ decimal n) × Fits64 n)
read most word None small value = tt
read most word (Some n) small value = let fits : n < 2 ^ 64 = omega (arith, value.1, small) in (told_decimal word n value.0 fits, fits)

-- and so it is whatever number that is
found : (most : ℕ) (word : List ℕ) (told : Option ℕ) (n : ℕ) → most + 1 ≡ 2 ^ 64 → IfSome told (λ m. IsNumber word m × m ≤ most) → IfNone told ((m : ℕ) → m ≤ most → IsNumber word m → ⊥) → word ≡ decimal n → Fits64 n
    → told ≡ Some n
found most word None n all value none same fits = absurd (none n (omega (arith, fits, all)) (decimal_told word n same fits))
found most word (Some m) n all value none same fits =
    let small : m < 2 ^ 64 = omega (arith, value.1, all) in
    ap Some (decimal_injective m n small fits (sym (told_decimal word m value.0 small) ∙ same))

pub returns-clause-told : goal.returns-clause-told
returns-clause-told c = read (2 ^ 64 - 1) c.args.word.now c.number.result (omega arith) c.number.ensures.value

pub returns-clause-only : goal.returns-clause-only
returns-clause-only c n same fits = found (2 ^ 64 - 1) c.args.word.now c.number.result n (omega arith) c.number.ensures.value c.number.ensures.none same fits
