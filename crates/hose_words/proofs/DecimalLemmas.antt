-- Decimals: a word that tells a number is its decimal.
use Rattle.std.proofs.Common.{◌≡◌, ◌≢◌, ◌∙◌, ℕ, zero, suc, ◌<◌, ◌^◌, List, [], ◌∷◌, length, get_or, decimal, refl, sym, ap, subst, arith}
use Rattle.std.specs.Str.{IsUtf8}
use Rattle.std.specs.Str.Parse.{AllDigits}
use Rattle.std.proofs.lemmas.Str.{IsUtf8-from_ascii}
use Rattle.std.proofs.lemmas.Fmt.{IsAscii-from_digits, decimal_is_IsNumeral, decimal-digits_value, decimal_digit, first_decimal}
use Rattle.std.proofs.lemmas.Str.Parse.{numerals_by_value, tells_digits}
use Rattle.hose_words.specs.steps.Number.{IsNumber}

-- a decimal is a text
pub is_text : (bytes : List ℕ) (n : ℕ) → IsNumber bytes n → IsUtf8 bytes
is_text bytes n is = IsUtf8-from_ascii bytes (IsAscii-from_digits bytes is.digits)

-- a zero that stands before no other digit stands alone
alone : (word : List ℕ) → 0 < length word → (1 < length word → get_or word 0 0 ≢ 48) → get_or word 0 0 ≡ 48 → length word ≡ 1
alone [] some none is = absurd (omega (arith, some))
alone (digit ∷ []) some none is = refl
alone (digit ∷ next ∷ more) some none is = absurd (none (omega arith) is)

-- a word that tells a number is its decimal
pub told_decimal : (word : List ℕ) (n : ℕ) → IsNumber word n → n < 2 ^ 64 → word ≡ decimal n
told_decimal word n is small =
    let lead : get_or word 0 0 ≡ 48 → length word ≡ 1 = alone word is.some is.no_zero_in_front in
    sym (decimal-digits_value (numerals_by_value (AllDigits 10) tells_digits) word is.digits is.some lead (omega (arith, is.value))) ∙ ap decimal is.value

-- no zero stands in front of another digit
no_zero : (n : ℕ) → n < 2 ^ 64 → 1 < length (decimal n) → get_or (decimal n) 0 0 ≡ 48 → ⊥
no_zero zero small long is = omega (arith, long, ap length (decimal_digit 0 (omega arith)))
no_zero (suc n) small long is = omega (arith, first_decimal (suc n) (omega arith) small, is)

-- a decimal tells its number
pub decimal_tells : (n : ℕ) → n < 2 ^ 64 → IsNumber (decimal n) n
decimal_tells n small =
    let numeral = decimal_is_IsNumeral n small in
    record { digits = numeral.0.1; some = numeral.0.0; no_zero_in_front = no_zero n small; value = numeral.1 }

-- and so does a word that is the decimal
pub decimal_told : (word : List ℕ) (n : ℕ) → word ≡ decimal n → n < 2 ^ 64 → IsNumber word n
decimal_told word n is small = subst (λ w. IsNumber w n) (sym is) (decimal_tells n small)
