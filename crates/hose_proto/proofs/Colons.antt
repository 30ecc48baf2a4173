-- Words of two parts with a colon between them.
use Rattle.std.proofs.Common.{◌≡◌, ◌∙◌, ℕ, ◌<◌, ◌^◌, true, List, [], ◌∷◌, ◌++◌, codes, decimal, refl, sym, arith, append_assoc}
use Rattle.std.specs.List.{Contains}
use Rattle.std.proofs.lemmas.Bool.{false≢true}
use Rattle.std.proofs.lemmas.Fmt.{decimal_injective, decimal_is_IsNumeral}
use Rattle.std.proofs.lemmas.List.{get_or_default}
use Rattle.std.proofs.lemmas.List.Elements.{All-contains, Contains-append_right}
use Rattle.std.proofs.lemmas.Str.Parse.{digit_at}
use Rattle.hose_words.specs.Numbers.{Fits64}
use Rattle.hose_graph.specs.Name.{IsName, is_name_byte}
use Rattle.hose_proto.specs.EndWords.{named_rate}

-- a name has no colon
pub no_colon : (name : List ℕ) → IsName name → ¬ Contains name 58
no_colon name is there = false≢true (All-contains (λ byte. is_name_byte byte ≡ true) name 58 is.allowed there)

-- neither has a decimal
pub no_colon_decimal : (n : ℕ) → n < 2 ^ 64 → ¬ Contains (decimal n) 58
no_colon_decimal n small there =
    let numeral = decimal_is_IsNumeral n small in
    omega (arith, digit_at (decimal n) there.0 numeral.0.1 there.1, get_or_default (decimal n) there.0 58 0 there.1, there.2)

-- where no colon stands before it, a colon divides a text in one way
pub same_parts : (a b c d : List ℕ) → (¬ Contains a 58) → (¬ Contains c 58) → a ++ 58 ∷ b ≡ c ++ 58 ∷ d → (a ≡ c) × (b ≡ d)
same_parts [] b [] d free free' same = (refl, cc)
same_parts [] b (x ∷ c) d free free' same = absurd (free' (0, omega arith, cc))
same_parts (x ∷ a) b [] d free free' same = absurd (free (0, omega arith, cc))
same_parts (x ∷ a) b (y ∷ c) d free free' same =
    let first : x ≡ y = cc in
    let others : a ++ 58 ∷ b ≡ c ++ 58 ∷ d = cc in
    let rest = same_parts a b c d (λ there. free (Contains-append_right (x ∷ []) a 58 there)) (λ there. free' (Contains-append_right (y ∷ []) c 58 there)) others in
    (λ i. first i ∷ rest.0 i, rest.1)

-- ---- a text and a number

-- what stands round the colon
pub named_cut : (front : List ℕ) (number : ℕ) → named_rate front number ≡ front ++ 58 ∷ decimal number
named_cut front number = append_assoc front (codes ":") (decimal number)

-- what stands round the first colon are the text and the number
pub named_parts : (word front back name : List ℕ) (number : ℕ) → word ≡ front ++ 58 ∷ back → (¬ Contains front 58) → word ≡ named_rate name number → (¬ Contains name 58) → (front ≡ name) × (back ≡ decimal number)
named_parts word front back name number spelled free is free' = same_parts front back name (decimal number) free free' (sym spelled ∙ is ∙ named_cut name number)

pub named_told : (word front back name : List ℕ) (number : ℕ) → word ≡ front ++ 58 ∷ back → front ≡ name → back ≡ decimal number → word ≡ named_rate name number
named_told word front back name number spelled is is' = spelled ∙ (λ i. is i ++ 58 ∷ is' i) ∙ sym (named_cut name number)

-- one word has one text and one number
pub named_same : (one other : List ℕ) (n m : ℕ) → (¬ Contains one 58) → (¬ Contains other 58) → Fits64 n → Fits64 m → named_rate one n ≡ named_rate other m → (one ≡ other) × (n ≡ m)
named_same one other n m free free' small small' same =
    let parts = same_parts one (decimal n) other (decimal m) free free' (sym (named_cut one n) ∙ same ∙ named_cut other m) in
    (parts.0, decimal_injective n m small small' parts.1)
