-- Parts of a line that was read.
use Rattle.std.proofs.Common.{◌≡◌, ◌∙◌, ℕ, ◌≤◌, List, ◌++◌, Option, Some, None, take, drop, sym, ap, arith, codes, decimal, append_assoc, take-append-drop}
use Rattle.std.specs.Prelude.{IfSome}
use Rattle.hex.specs.Hex.{encode_lower}
use Rattle.hose_words.specs.steps.Number.{IsNumber}
use Rattle.hose_words.proofs.DecimalLemmas.{told_decimal}
use Rattle.hose_follow.specs.Answers.{offered_text}
use Rattle.hose_follow.specs.declared.answers.Offered.TheVariants.{Differs}

-- a part, and what is behind it
pub parts : (n : ℕ) (xs front back : List ℕ) → front ≡ take n xs → back ≡ drop n xs → xs ≡ front ++ back
parts n xs front back is_front is_back =
    sym (take-append-drop n xs) ∙ ap (λ (l : List ℕ). l ++ drop n xs) (sym is_front) ∙ ap (λ (l : List ℕ). front ++ l) (sym is_back)

-- the number of what follows words
pub number_told : (told : Option ℕ) (line words rest : List ℕ) → line ≡ words ++ rest → IfSome told (λ n. IsNumber rest n × (n ≤ 18446744073709551615)) → IfSome told (λ n. line ≡ words ++ decimal n)
number_told None line words rest is number = tt
number_told (Some n) line words rest is number = is ∙ ap (λ (l : List ℕ). words ++ l) (told_decimal rest n number.0 (omega (arith, number.1)))

-- the words of an answer with two chain values, of their parts
pub differs_told : (n : ℕ) (own given rest word values first second : List ℕ) → rest ≡ word ++ values → values ≡ first ++ second → IsNumber word n × (n ≤ 18446744073709551615)
    → first ≡ codes " " ++ encode_lower own → second ≡ codes " " ++ encode_lower given → codes "differs at " ++ rest ≡ offered_text (Differs n own given)
differs_told n own given rest word values first second is cut number one other =
    let whole : rest ≡ decimal n ++ ((codes " " ++ encode_lower own) ++ (codes " " ++ encode_lower given)) =
    is ∙ ap (λ (l : List ℕ). l ++ values) (told_decimal word n number.0 (omega (arith, number.1)))
    ∙ ap (λ (l : List ℕ). decimal n ++ l) (cut ∙ ap (λ (l : List ℕ). l ++ second) one ∙ ap (λ (l : List ℕ). (codes " " ++ encode_lower own) ++ l) other) in
    ap (λ (l : List ℕ). codes "differs at " ++ l) whole ∙ grouped (codes "differs at ") (decimal n) (codes " ") (encode_lower own) (encode_lower given)
  where
    grouped : (a b c d e : List ℕ) → a ++ (b ++ ((c ++ d) ++ (c ++ e))) ≡ ((((a ++ b) ++ c) ++ d) ++ c) ++ e
    grouped a b c d e = simp append_assoc
