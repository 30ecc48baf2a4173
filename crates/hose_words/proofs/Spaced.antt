-- Words with a space before each: they are the words of their text, which has no line feed.
use Rattle.std.proofs.Common.{suc, ◌≡◌, ◌∙◌, ℕ, ◌<◌, ◌^◌, Bool, true, false, cond, eqb, nat_lt, List, [], ◌∷◌, ◌++◌, length, get_or, map, decimal, filter, refl, sym, ap, subst, arith, append-nil, length-append}
use Rattle.std.specs.Bool.{⊤}
use Rattle.std.specs.List.{All, flat_map, slice_split}
use Rattle.std.proofs.lemmas.Bool.{cond-true, lt-ltb, ne_eqb, false≢true}
use Rattle.std.proofs.lemmas.Fmt.{decimal_is_IsNumeral}
use Rattle.std.proofs.lemmas.List.{get_or_default}
use Rattle.std.proofs.lemmas.List.Elements.{All-append, All-cons, All-nil}
use Rattle.std.proofs.lemmas.List.Splits.{slice_split_none, slice_split_at}
use Rattle.std.proofs.lemmas.Str.Parse.{digit_at}
use Rattle.hose_words.specs.Words.{words_of}

-- ---- one word

-- the byte stands nowhere in the bytes
abbrev pub IsWithout : ℕ → List ℕ → Type 0
IsWithout byte bytes = All (λ other. eqb other byte ≡ false) bytes

-- bytes that are one word of a line
pub record IsWord (bytes : List ℕ) : Type 0 where
  pub some : 0 < length bytes
  pub no_space : IsWithout 32 bytes
  pub no_feed : IsWithout 10 bytes

-- bytes that each pass a test which neither a space nor a line feed passes
pub IsWord-allowed : (allows : ℕ → Bool) (bytes : List ℕ) → allows 32 ≡ false → allows 10 ≡ false → All (λ byte. allows byte ≡ true) bytes → 0 < length bytes → IsWord bytes
IsWord-allowed allows bytes no_space no_feed all some = record { some = some; no_space = without 32 no_space; no_feed = without 10 no_feed }
  where
    without : (byte : ℕ) → allows byte ≡ false → IsWithout byte bytes
    without byte other = λ k d below. ne_eqb (get_or bytes k d) byte (λ same. false≢true (sym other ∙ ap allows (sym same) ∙ all k d below))

-- whether neither a space nor a line feed stands in bytes that are known
abbrev pub is_plain : List ℕ → Bool
is_plain [] = true
is_plain (byte ∷ bytes) = cond (eqb byte 32) false (cond (eqb byte 10) false (is_plain bytes))

plain_one : (byte : ℕ) (bytes : List ℕ) (space feed : Bool) → eqb byte 32 ≡ space → eqb byte 10 ≡ feed → (is_plain bytes ≡ true → IsWithout 32 bytes × IsWithout 10 bytes)
    → cond space false (cond feed false (is_plain bytes)) ≡ true → IsWithout 32 (byte ∷ bytes) × IsWithout 10 (byte ∷ bytes)
plain_one byte bytes true feed is at more plain = absurd (false≢true plain)
plain_one byte bytes false true is at more plain = absurd (false≢true plain)
plain_one byte bytes false false is at more plain =
    let both = more plain in
    (All-cons (λ other. eqb other 32 ≡ false) byte bytes is both.0, All-cons (λ other. eqb other 10 ≡ false) byte bytes at both.1)

without_known : (bytes : List ℕ) → is_plain bytes ≡ true → IsWithout 32 bytes × IsWithout 10 bytes
without_known [] plain = (All-nil (λ byte. eqb byte 32 ≡ false), All-nil (λ byte. eqb byte 10 ≡ false))
without_known (byte ∷ bytes) plain = plain_one byte bytes (eqb byte 32) (eqb byte 10) refl refl (without_known bytes) plain

-- a word that is known
pub IsWord-known : (bytes : List ℕ) → is_plain bytes ≡ true → 0 < length bytes → IsWord bytes
IsWord-known bytes plain some = let both = without_known bytes plain in record { some = some; no_space = both.0; no_feed = both.1 }

-- a decimal
pub IsWord-decimal : (n : ℕ) → n < 2 ^ 64 → IsWord (decimal n)
IsWord-decimal n small =
    let numeral = decimal_is_IsNumeral n small in
    let without = λ (byte : ℕ) (other : byte < 48) (k : ℕ) (d : ℕ) (below : k < length (decimal n)).
    ne_eqb (get_or (decimal n) k d) byte (λ same. absurd (omega (arith, digit_at (decimal n) k numeral.0.1 below, get_or_default (decimal n) k d 0 below))) in
    record { some = numeral.0.0; no_space = without 32 (omega arith); no_feed = without 10 (omega arith) }

-- two words with a colon between them
pub IsWord-colon : (first second : List ℕ) → IsWord first → IsWord second → IsWord (first ++ 58 ∷ second)
IsWord-colon first second is more = record {
  some = omega (arith, is.some, length-append first (58 ∷ second));
  no_space = All-append (λ byte. eqb byte 32 ≡ false) first (58 ∷ second) is.no_space (All-cons (λ byte. eqb byte 32 ≡ false) 58 second refl more.no_space);
  no_feed = All-append (λ byte. eqb byte 10 ≡ false) first (58 ∷ second) is.no_feed (All-cons (λ byte. eqb byte 10 ≡ false) 58 second refl more.no_feed);
}

-- ---- words one after the other

-- each is one word
abbrev pub AreWords : List (List ℕ) → Type 0
AreWords [] = ⊤
AreWords (word ∷ words) = IsWord word × AreWords words

-- what each element is spelled by is one word
pub AreWords-map : {X : Type 0} {P : X → Type 0} (f : X → List ℕ) (xs : List X) → ((x : X) → P x → IsWord (f x)) → All P xs → AreWords (map f xs)
AreWords-map f [] each all = tt
AreWords-map f (x ∷ xs) each all = (each x (all 0 x (omega arith)), AreWords-map f xs each (λ k d below. all (suc k) d (omega arith)))

-- words after others
pub AreWords-append : (words more : List (List ℕ)) → AreWords words → AreWords more → AreWords (words ++ more)
AreWords-append [] more are others = others
AreWords-append (word ∷ words) more are others = (are.0, AreWords-append words more are.1 others)

-- words with a space before each
abbrev pub spaced : List (List ℕ) → List ℕ
spaced words = flat_map (λ word. 32 ∷ word) words

filter_word : (word : List ℕ) (parts : List (List ℕ)) → 0 < length word → filter (λ part. nat_lt 0 (length part)) (word ∷ parts) ≡ word ∷ filter (λ part. nat_lt 0 (length part)) parts
filter_word word parts some = cond-true (nat_lt 0 (length word)) _ _ (lt-ltb 0 (length word) some)

-- a word and those after it
words_of-first : (word : List ℕ) (words : List (List ℕ)) → IsWord word → words_of (word ++ spaced words) ≡ word ∷ words_of (spaced words)
words_of-first word [] is =
    ap words_of (append-nil word) ∙ ap (filter (λ part. nat_lt 0 (length part))) (slice_split_none (λ byte. eqb byte 32) word is.no_space) ∙ filter_word word [] is.some
words_of-first word (next ∷ words) is =
    ap (filter (λ part. nat_lt 0 (length part))) (slice_split_at (λ byte. eqb byte 32) word 32 (next ++ spaced words) is.no_space refl)
    ∙ filter_word word (slice_split (λ byte. eqb byte 32) (next ++ spaced words)) is.some

pub words_of-spaced : (words : List (List ℕ)) → AreWords words → words_of (spaced words) ≡ words
words_of-spaced [] are = refl
words_of-spaced (word ∷ words) are = words_of-first word words are.0 ∙ ap (λ ws. word ∷ ws) (words_of-spaced words are.1)

-- no line feed stands among them
spaced-no_feed : (words : List (List ℕ)) → AreWords words → IsWithout 10 (spaced words)
spaced-no_feed [] are = All-nil (λ byte. eqb byte 10 ≡ false)
spaced-no_feed (word ∷ words) are =
    All-cons (λ byte. eqb byte 10 ≡ false) 32 (word ++ spaced words) refl
    (All-append (λ byte. eqb byte 10 ≡ false) word (spaced words) (are.0).no_feed (spaced-no_feed words are.1))

-- ---- a line of words, with a space between each two

-- the words of a line, of which a space before it makes words with a space before each
pub words_of-line : (line : List ℕ) (words : List (List ℕ)) → 32 ∷ line ≡ spaced words → AreWords words → words_of line ≡ words
words_of-line line words is are = ap words_of is ∙ words_of-spaced words are

-- such a line has no line feed
pub line_no_feed : (line : List ℕ) (words : List (List ℕ)) → 32 ∷ line ≡ spaced words → AreWords words → IsWithout 10 line
line_no_feed line words is are =
    let all : IsWithout 10 (32 ∷ line) = subst (IsWithout 10) (sym is) (spaced-no_feed words are) in
    λ k d below. all (suc k) d (omega arith)
