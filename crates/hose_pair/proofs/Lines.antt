-- Answers as lines, which are read in one way.
use Rattle.std.proofs.Common.{◌≡◌, ◌≢◌, ◌∙◌, ℕ, zero, suc, ◌<◌, ◌^◌, ◌/◌, ◌%◌, Bool, false, true, cond, eqb, List, [], ◌∷◌, ◌++◌, Result, Ok, length, get_or, take, drop, decimal, codes, refl, sym, ap, subst, arith, All, Contains, append_assoc, length-append, take-append-drop}
use Rattle.std.specs.List.{flat_map, slice_index}
use Rattle.std.proofs.lemmas.Bool.{eq-eqb, false≢true}
use Rattle.std.proofs.lemmas.Fmt.{decimal_injective}
use Rattle.std.proofs.lemmas.List.Elements.{All-append, All-cons, All-head, All-nil, All-contains, All-tail, All-weaker, All-drop, Contains-append_right}
use Rattle.hex.specs.Hex.{IsBytes, decode_of, encode_lower, encode_with, lower_digits}
use Rattle.hex.specs.declared.error.FromHexError.{FromHexError}
use Rattle.hex.proofs.HexLemmas.{decode_of-encode_lower, length-encode_with}
use Rattle.hose_codec.proofs.Numbers.{same_parts}
use Rattle.hose_words.proofs.Spaced.{IsWithout, IsWord-decimal}
use Rattle.hose_follow.specs.Answers.{offered_text, offered_texts}
use Rattle.hose_follow.specs.declared.answers.Offered.{Offered}
use Rattle.hose_follow.specs.declared.answers.Offered.TheVariants.{Have, Want, Differs, Memory, Unsound, Disk}
use Rattle.hose_follow.specs.steps.Lines.{HasLine}
use Rattle.hose_pair.specs.steps.Written.{IsWritten}

abbrev pub NoFeed : List ℕ → Type 0
NoFeed bytes = All (λ byte. byte ≢ 10) bytes

-- ---- no answer has a line feed

not_feed : (byte : ℕ) → eqb byte 10 ≡ false → byte ≢ 10
not_feed byte other same = false≢true (sym other ∙ eq-eqb byte 10 same)

without : (bytes : List ℕ) → IsWithout 10 bytes → NoFeed bytes
without bytes all = All-weaker (λ byte. eqb byte 10 ≡ false) (λ byte. byte ≢ 10) not_feed bytes all

number : (n : ℕ) → n < 2 ^ 64 → NoFeed (decimal n)
number n small = without (decimal n) (IsWord-decimal n small).no_feed

both : (one other : List ℕ) → NoFeed one → NoFeed other → NoFeed (one ++ other)
both one other = All-append (λ byte. byte ≢ 10) one other

-- whether no line feed stands in bytes that are known
abbrev pub is_plain_of : List ℕ → Bool
is_plain_of [] = true
is_plain_of (byte ∷ bytes) = cond (eqb byte 10) false (is_plain_of bytes)

known_one : (byte : ℕ) (more : Bool) → cond (eqb byte 10) false more ≡ true → (byte ≢ 10) × (more ≡ true)
known_one byte more plain = by (eqb byte 10) refl plain
  where
    by : (feed : Bool) → eqb byte 10 ≡ feed → cond feed false more ≡ true → (byte ≢ 10) × (more ≡ true)
    by true is at = absurd (false≢true at)
    by false is at = (not_feed byte is, at)

pub known : (bytes : List ℕ) → is_plain_of bytes ≡ true → NoFeed bytes
known [] plain = All-nil (λ byte. byte ≢ 10)
known (byte ∷ bytes) plain = All-cons (λ byte. byte ≢ 10) byte bytes (known_one byte (is_plain_of bytes) plain).0 (known bytes (known_one byte (is_plain_of bytes) plain).1)

digit : (k : ℕ) → k < 16 → slice_index lower_digits k ≢ 10
digit k low = known lower_digits refl k 0 low

digits : (bytes : List ℕ) → All (λ byte. byte < 256) bytes → NoFeed (encode_lower bytes)
unfolding encode_with
digits [] all = All-nil (λ byte. byte ≢ 10)
digits (b ∷ bytes) all =
    let small : b < 256 = All-head (λ byte. byte < 256) b bytes all in
    All-cons (λ byte. byte ≢ 10) (slice_index lower_digits (b / 16)) (slice_index lower_digits (b % 16) ∷ encode_lower bytes) (digit (b / 16) (omega (arith, small)))
    (All-cons (λ byte. byte ≢ 10) (slice_index lower_digits (b % 16)) (encode_lower bytes) (digit (b % 16) (omega arith)) (digits bytes (All-tail (λ byte. byte < 256) b bytes all)))

pub no_feed : (answer : Offered) → IsWritten answer → NoFeed (offered_text answer)
no_feed (Have n) small = both (codes "have ") (decimal n) (known (codes "have ") refl) (number n small)
no_feed (Want n) small = both (codes "want ") (decimal n) (known (codes "want ") refl) (number n small)
no_feed (Differs at own given) (small, (_, bytes), (_, more)) =
    let one = both (codes "differs at ") (decimal at) (known (codes "differs at ") refl) (number at small) in
    let two = both (codes "differs at " ++ decimal at) (codes " ") one (known (codes " ") refl) in
    let three = both (codes "differs at " ++ decimal at ++ codes " ") (encode_lower own) two (digits own bytes) in
    let four = both (codes "differs at " ++ decimal at ++ codes " " ++ encode_lower own) (codes " ") three (known (codes " ") refl) in
    both (codes "differs at " ++ decimal at ++ codes " " ++ encode_lower own ++ codes " ") (encode_lower given) four (digits given more)
no_feed Memory small = known (codes "memory") refl
no_feed (Unsound epoch) small = both (codes "unsound ") (decimal epoch) (known (codes "unsound ") refl) (number epoch small)
no_feed (Disk at) small = both (codes "disk at ") (decimal at) (known (codes "disk at ") refl) (number at small)

-- ---- lines are read in one way

pub first_line : (one other more rest : List ℕ) → NoFeed one → NoFeed other → one ++ 10 ∷ more ≡ other ++ 10 ∷ rest → (one ≡ other) × (more ≡ rest)
first_line [] [] more rest p q same = (refl, cc same)
first_line [] (y ∷ other) more rest p q same = let first : 10 ≡ y = cc same in absurd (All-head (λ byte. byte ≢ 10) y other q (sym first))
first_line (x ∷ one) [] more rest p q same = let first : x ≡ 10 = cc same in absurd (All-head (λ byte. byte ≢ 10) x one p first)
first_line (x ∷ one) (y ∷ other) more rest p q same =
    let first : x ≡ y = cc same in
    let others : one ++ 10 ∷ more ≡ other ++ 10 ∷ rest = cc same in
    let next = first_line one other more rest (All-tail (λ byte. byte ≢ 10) x one p) (All-tail (λ byte. byte ≢ 10) y other q) others in
    (ap (λ (b : ℕ). b ∷ one) first ∙ ap (λ (l : List ℕ). y ∷ l) next.0, next.1)

abbrev line_of : List ℕ → List ℕ
line_of line = line ++ 10 ∷ []

abbrev Answered : List Offered → List ℕ → Type 0
Answered said text = (answer : Offered) × Contains said answer × (offered_text answer ≡ text)

later : (first answer : Offered) (said : List Offered) → Contains said answer → Contains (first ∷ said) answer
later first answer said (k, below, is) = (suc k, omega (arith, below), is)

heard_line : (said : List Offered) (lines : List (List ℕ)) (rest text : List ℕ) (k : ℕ) → All IsWritten said → All (All (λ byte. byte ≢ 10)) lines → offered_texts said ≡ flat_map line_of lines ++ rest → k < length lines → get_or lines k text ≡ text → Answered said text
heard_line said [] rest text k written plain same below is = absurd (omega (arith, below))
heard_line [] (line ∷ lines) rest text k written plain same below is =
    absurd (omega (arith, ap length same, length-append (line_of line ++ flat_map line_of lines) rest, length-append (line_of line) (flat_map line_of lines), length-append line (10 ∷ [])))
heard_line (answer ∷ said) (line ∷ lines) rest text k written plain same below is =
    let cut : offered_text answer ++ 10 ∷ offered_texts said ≡ line ++ 10 ∷ (flat_map line_of lines ++ rest) =
    sym (append_assoc (offered_text answer) (10 ∷ []) (offered_texts said)) ∙ same
    ∙ append_assoc (line_of line) (flat_map line_of lines) rest ∙ append_assoc line (10 ∷ []) (flat_map line_of lines ++ rest) in
    let first = first_line (offered_text answer) line (offered_texts said) (flat_map line_of lines ++ rest) (no_feed answer (All-head IsWritten answer said written)) (All-head (All (λ byte. byte ≢ 10)) line lines plain) cut in
    by_place k below is first.0 first.1 (λ place low at. heard_line said lines rest text place (All-tail IsWritten answer said written) (All-tail (All (λ byte. byte ≢ 10)) line lines plain) first.1 low at)
  where
    by_place : (place : ℕ) → place < length (line ∷ lines) → get_or (line ∷ lines) place text ≡ text → offered_text answer ≡ line → offered_texts said ≡ flat_map line_of lines ++ rest
        → ((place : ℕ) → place < length lines → get_or lines place text ≡ text → Answered said text) → Answered (answer ∷ said) text
    by_place zero low at one others next = (answer, (0, omega arith, refl), one ∙ at)
    by_place (suc place) low at one others next =
        let more = next place (omega (arith, low)) at in
        (more.0, later answer more.0 said more.1, more.2)

-- ---- a text is that of one answer

bytes_are : (bytes : List ℕ) → All (λ byte. byte < 256) bytes → IsBytes bytes
bytes_are [] all zero = omega arith
bytes_are [] all (suc i) = omega arith
bytes_are (b ∷ bytes) all zero = All-head (λ byte. byte < 256) b bytes all
bytes_are (b ∷ bytes) all (suc i) = bytes_are bytes (All-tail (λ byte. byte < 256) b bytes all) i

ok_same : (one other : List ℕ) (result : Result (List ℕ) FromHexError) → result ≡ Ok one → result ≡ Ok other → one ≡ other
ok_same one other result is also = cc (sym is ∙ also)

one_value : (one other : List ℕ) → All (λ byte. byte < 256) one → All (λ byte. byte < 256) other → encode_lower one ≡ encode_lower other → one ≡ other
one_value one other is also same =
    ok_same one other (decode_of (encode_lower one)) (decode_of-encode_lower one (bytes_are one is))
    (ap decode_of same ∙ decode_of-encode_lower other (bytes_are other also))

-- the same bytes with ends of one length
same_ends : (front other end also : List ℕ) → length end ≡ length also → front ++ end ≡ other ++ also → (front ≡ other) × (end ≡ also)
same_ends front other end also size same =
    let long : length front ≡ length other = omega (arith, size, ap length same, length-append front end, length-append other also) in
    same_parts front other end also long same

same_differs : (at on : ℕ) (own mine given theirs : List ℕ) → at ≡ on → own ≡ mine → given ≡ theirs → Differs at own given ≡ Differs on mine theirs
same_differs at on own mine given theirs one two three =
    ap (λ (n : ℕ). Differs n own given) one ∙ ap (λ (l : List ℕ). Differs on l given) two ∙ ap (λ (l : List ℕ). Differs on mine l) three

differs_alone : (at on : ℕ) (own mine given theirs : List ℕ) → IsWritten (Differs at own given) → IsWritten (Differs on mine theirs) → offered_text (Differs at own given) ≡ offered_text (Differs on mine theirs) → Differs at own given ≡ Differs on mine theirs
differs_alone at on own mine given theirs (small, is_own, is_given) (low, is_mine, is_theirs) same =
    let words = codes "differs at " in
    let space = codes " " in
    let last = same_ends (words ++ decimal at ++ space ++ encode_lower own ++ space) (words ++ decimal on ++ space ++ encode_lower mine ++ space) (encode_lower given) (encode_lower theirs)
    (omega (arith, length-encode_with lower_digits given, length-encode_with lower_digits theirs, is_given.0, is_theirs.0)) same in
    let before = same_ends (words ++ decimal at ++ space ++ encode_lower own) (words ++ decimal on ++ space ++ encode_lower mine) space space refl last.0 in
    let second = same_ends (words ++ decimal at ++ space) (words ++ decimal on ++ space) (encode_lower own) (encode_lower mine)
    (omega (arith, length-encode_with lower_digits own, length-encode_with lower_digits mine, is_own.0, is_mine.0)) before.0 in
    let first = same_ends (words ++ decimal at) (words ++ decimal on) space space refl second.0 in
    let numbers : decimal at ≡ decimal on = ap (λ (l : List ℕ). drop 11 l) first.0 in
    same_differs at on own mine given theirs (decimal_injective at on small low numbers) (one_value own mine is_own.1 is_mine.1 second.1) (one_value given theirs is_given.1 is_theirs.1 last.1)

byte_at : (place : ℕ) (one other : List ℕ) → one ≡ other → get_or one place 0 ≡ get_or other place 0
byte_at place one other same = ap (λ (l : List ℕ). get_or l place 0) same

alone : (one other : Offered) → IsWritten one → IsWritten other → offered_text one ≡ offered_text other → one ≡ other
alone (Have n) (Have m) small low same = ap Have (decimal_injective n m small low (ap (λ (l : List ℕ). drop 5 l) same))
alone (Want n) (Want m) small low same = ap Want (decimal_injective n m small low (ap (λ (l : List ℕ). drop 5 l) same))
alone (Differs at own given) (Differs on mine theirs) written also same = differs_alone at on own mine given theirs written also same
alone Memory Memory written also same = refl
alone (Unsound n) (Unsound m) small low same = ap Unsound (decimal_injective n m small low (ap (λ (l : List ℕ). drop 8 l) same))
alone (Disk n) (Disk m) small low same = ap Disk (decimal_injective n m small low (ap (λ (l : List ℕ). drop 8 l) same))
alone one other written also same =
    absurd (omega (arith, byte_at 0 (offered_text one) (offered_text other) same, byte_at 2 (offered_text one) (offered_text other) same))

heard_in_all : (said : List Offered) (got unread rest : List ℕ) (lines : List (List ℕ)) (answer : Offered) → All IsWritten said → IsWritten answer → got ++ unread ≡ offered_texts said → got ≡ flat_map line_of lines ++ rest → All (All (λ byte. byte ≢ 10)) lines → Contains lines (offered_text answer) → Contains said answer
heard_in_all said got unread rest lines answer written small all cut plain (k, below, is) =
    let whole : offered_texts said ≡ flat_map line_of lines ++ (rest ++ unread) =
    sym all ∙ ap (λ (l : List ℕ). l ++ unread) cut ∙ append_assoc (flat_map line_of lines) rest unread in
    let found = heard_line said lines (rest ++ unread) (offered_text answer) k written plain whole below is in
    subst (Contains said) (alone found.0 answer (All-contains IsWritten said found.0 written found.1) small found.2) found.1

pub heard : (said : List Offered) (from : ℕ) (got unread : List ℕ) (answer : Offered) → All IsWritten said → IsWritten answer → got ++ unread ≡ offered_texts (drop from said) → HasLine got (offered_text answer) → Contains said answer
heard said from got unread answer written small all has =
    subst (λ (l : List Offered). Contains l answer) (take-append-drop from said)
    (Contains-append_right (take from said) (drop from said) answer
    (heard_in_all (drop from said) got unread has.rest has.lines answer (All-drop IsWritten from said written) small all has.cut has.plain has.there))
