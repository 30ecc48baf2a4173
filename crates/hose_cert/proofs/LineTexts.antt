-- The text of a line is read as the line, and the text of lines as these lines.
use Rattle.std.proofs.Common.{suc, ◌≡◌, ◌≢◌, ◌∙◌, ℕ, ◌+◌, ◌*◌, ◌^◌, ◌<◌, ◌≤◌, List, [], ◌∷◌, ◌++◌, length, le_refl, mul-le-mul, map, drop, codes, decimal, eqb, filter, nat_lt, refl, sym, ap, subst, arith, append_assoc, append-nil, length-append}
use Rattle.std.specs.Prelude.{⊤}
use Rattle.std.specs.List.{All, after_first, before_first, flat_map, join_with_byte, slice_split}
use Rattle.std.specs.List.Sorted.{IsPermutation}
use Rattle.std.proofs.lemmas.Fmt.{length-decimal-le}
use Rattle.std.proofs.lemmas.List.{length-map}
use Rattle.std.proofs.lemmas.Bool.{cond-true, lt-ltb}
use Rattle.std.proofs.lemmas.List.Elements.{All-cons, All-nil, All-tail}
use Rattle.std.proofs.lemmas.List.Folds.{flat_map-map}
use Rattle.std.proofs.lemmas.List.Sorted.{All-permutation, IsPermutation-refl, IsPermutation-sym}
use Rattle.std.proofs.lemmas.List.Splits.{join_with_byte-slice_split, slice_split_at, slice_split_none}
use Rattle.std.proofs.lemmas.List.Sums.{position_or_len_is}
use Rattle.hose_words.specs.Limits.{line_limit}
use Rattle.hose_words.specs.Lines.{is_line_feed}
use Rattle.hose_words.specs.Words.{words_of}
use Rattle.hose_io.specs.declared.sink.Sink.{Ghosts}
use Rattle.hose_io.specs.steps.Gather.{Gathered, IsAdded}
use Rattle.hose_words.proofs.FirstLine.{IsPlain, after_first-found, before_first-found}
use Rattle.hose_words.proofs.Spaced.{AreWords, AreWords-map, IsWithout, IsWord, IsWord-allowed, IsWord-colon, IsWord-decimal, IsWord-known, line_no_feed, spaced, words_of-line}
use Rattle.hose_graph.specs.Amounts.{amount_of, link_of}
use Rattle.hose_graph.specs.Hose.{IsEnd}
use Rattle.hose_graph.specs.Name.{is_name_byte}
use Rattle.hose_graph.specs.Network.{Network, IsNetwork, name_of}
use Rattle.hose_proto.specs.Places.{IsHoseOf, end_word}
use Rattle.hose_proto.specs.ReplyText.{end_text, joined, line_of}
use Rattle.hose_cert.specs.CertLine.{CertLine, IsLine, IsSpelled, MayBeSaid, cost_line, end_line, hose_line, line_text, line_words, pot_line, use_line, without_line}
use Rattle.hose_cert.specs.Certificate.{AreLines}
use Rattle.hose_cert.specs.Written.{certificate_text}
use Rattle.hose_cert.specs.steps.CertLine.{AreWordsOf, IsSpaced, SaysLine}
use Rattle.hose_cert.specs.steps.Written.{number_text, pieces_of}
use Rattle.hose_cert.specs.declared.statement.TheConstants.{MOST_NUMBER}

-- ---- words

-- each word has so many bytes at most
abbrev AreShort : ℕ → List (List ℕ) → Type 0
AreShort most words = All (λ (word : List ℕ). length word ≤ most) words

-- so a text of few words is short
spaced_short : (most : ℕ) (words : List (List ℕ)) → AreShort most words → length (spaced words) ≤ length words * (most + 1)
spaced_short most [] short = omega arith
spaced_short most (word ∷ words) short =
    let rest = spaced_short most words (λ k d below. short (suc k) d (omega (arith, below))) in
    omega (arith, rest, short 0 word (omega arith), length-append word (spaced words))

-- no part between its spaces is empty
split_words : (word : List ℕ) (words : List (List ℕ)) → AreWords (word ∷ words) → slice_split (λ byte. eqb byte 32) (word ++ spaced words) ≡ word ∷ words
split_words word [] are = ap (slice_split (λ byte. eqb byte 32)) (append-nil word) ∙ slice_split_none (λ byte. eqb byte 32) word (are.0).no_space
split_words word (next ∷ words) are =
    slice_split_at (λ byte. eqb byte 32) word 32 (next ++ spaced words) (are.0).no_space refl ∙ ap (λ (parts : List (List ℕ)). word ∷ parts) (split_words next words are.1)

all_some : (words : List (List ℕ)) → AreWords words → All (λ (part : List ℕ). 0 < length part) words
all_some [] are = All-nil (λ (part : List ℕ). 0 < length part)
all_some (word ∷ words) are = All-cons (λ (part : List ℕ). 0 < length part) word words (are.0).some (all_some words are.1)

-- a text that is words with spaces between them
module _ (text word : List ℕ) (words : List (List ℕ)) (is : 32 ∷ text ≡ spaced (word ∷ words)) (are : AreWords (word ∷ words)) where
  is_spaced : IsSpaced text
  is_spaced =
      let parts : slice_split (λ byte. eqb byte 32) text ≡ word ∷ words = ap (λ (bytes : List ℕ). slice_split (λ byte. eqb byte 32) (drop 1 bytes)) is ∙ split_words word words are in
      subst (λ (ps : List (List ℕ)). All (λ (part : List ℕ). 0 < length part) ps) (sym parts) (all_some (word ∷ words) are)

-- and a text of which no part between its spaces is empty is its words with spaces between them
all_words : (parts : List (List ℕ)) → All (λ (part : List ℕ). 0 < length part) parts → filter (λ (part : List ℕ). nat_lt 0 (length part)) parts ≡ parts
all_words [] some = refl
all_words (part ∷ parts) some =
    cond-true (nat_lt 0 (length part)) _ _ (lt-ltb 0 (length part) (some 0 part (omega arith)))
    ∙ ap (λ (ps : List (List ℕ)). part ∷ ps) (all_words parts (All-tail (λ (p : List ℕ). 0 < length p) part parts some))

joined_bytes : (parts : List (List ℕ)) → join_with_byte 32 parts ≡ joined parts
joined_bytes [] = refl
joined_bytes (part ∷ []) = sym (append-nil part)
joined_bytes (part ∷ next ∷ parts) = ap (λ (bytes : List ℕ). part ++ 32 ∷ bytes) (joined_bytes (next ∷ parts))

joined_back : (bytes : List ℕ) → IsSpaced bytes → bytes ≡ joined (words_of bytes)
joined_back bytes some =
    let parts = slice_split (λ byte. eqb byte 32) bytes in
    sym (join_with_byte-slice_split 32 bytes) ∙ joined_bytes parts ∙ ap joined (sym (all_words parts some))

-- ---- the words of a line

abbrev first_word : CertLine → List ℕ
first_word (cost_line cost) = codes "cost"
first_word (hose_line hose) = codes "hose"
first_word (use_line pair) = codes "use"
first_word (without_line link) = codes "without"
first_word (pot_line root from numbers) = codes "pot"
first_word end_line = codes "end"

abbrev more_words : Network → CertLine → List (List ℕ)
more_words network (cost_line cost) = decimal cost ∷ []
more_words network (hose_line hose) = map (end_word network) hose
more_words network (use_line pair) = decimal (link_of pair) ∷ decimal (amount_of pair) ∷ []
more_words network (without_line link) = decimal link ∷ []
more_words network (pot_line root from numbers) = decimal root ∷ decimal from ∷ map decimal numbers
more_words network end_line = []

spaced-ends : (network : Network) (hose : List (ℕ × ℕ)) → flat_map (end_text network) hose ≡ spaced (map (end_word network) hose)
spaced-ends network hose = sym (flat_map-map (λ (word : List ℕ). 32 ∷ word) (end_word network) hose)

spaced-numbers : (numbers : List ℕ) → flat_map number_text numbers ≡ spaced (map decimal numbers)
spaced-numbers numbers = sym (flat_map-map (λ (word : List ℕ). 32 ∷ word) decimal numbers)

words_cut : (network : Network) (line : CertLine) → line_words network line ≡ first_word line ∷ more_words network line
words_cut network (cost_line cost) = refl
words_cut network (hose_line hose) = refl
words_cut network (use_line pair) = refl
words_cut network (without_line link) = refl
words_cut network (pot_line root from numbers) = refl
words_cut network end_line = refl

-- a line's text with a space before it
spaced-line : (network : Network) (line : CertLine) → 32 ∷ line_text network line ≡ spaced (first_word line ∷ more_words network line)
spaced-line network line = ap (λ (words : List (List ℕ)). 32 ∷ joined words) (words_cut network line)

-- the same, in the pieces in which it is added
spaced-pieces : (network : Network) (line : CertLine) → 32 ∷ pieces_of network line ≡ spaced (first_word line ∷ more_words network line)
spaced-pieces network (cost_line cost) = simp append-nil
spaced-pieces network (hose_line hose) = rw (spaced-ends network hose) refl
spaced-pieces network (use_line pair) = rw (append_assoc, append-nil) refl
spaced-pieces network (without_line link) = simp append-nil
spaced-pieces network (pot_line root from numbers) = rw (append_assoc, append_assoc, append_assoc, spaced-numbers numbers) refl
spaced-pieces network end_line = refl

pieces_same : (network : Network) (line : CertLine) → pieces_of network line ≡ line_text network line
pieces_same network line = ap (drop 1) (spaced-pieces network line ∙ sym (spaced-line network line))

-- lines that were added in pieces
pub added_pieces : {S : Type 0} {sink : Ghosts S} {g0 g1 : Gathered} {s0 s1 : S} (network : Network) (lines : List CertLine) → IsAdded sink g0 s0 g1 s1 (flat_map (λ line. line_of (pieces_of network line)) lines)
    → IsAdded sink g0 s0 g1 s1 (certificate_text network lines)
added_pieces {sink = sink} {g0 = g0} {g1 = g1} {s0 = s0} {s1 = s1} network lines =
    subst (IsAdded sink g0 s0 g1 s1) (λ i. flat_map (λ line. line_of (pieces_same network line i)) lines)

-- a number within the limit is one word, of 20 digits at most
fits : (number : ℕ) → number ≤ MOST_NUMBER → number < 2 ^ 64
fits number few = omega (arith, few)

short : (number : ℕ) → number ≤ MOST_NUMBER → length (decimal number) ≤ 20
short number few = length-decimal-le 20 number (omega arith) (omega (arith, few)) (fits number few)

module _ (network : Network) (is : IsNetwork network) where
  IsWord-end : (end : ℕ × ℕ) → (end.0 < length network.nodes) × IsEnd end → IsWord (end_word network end)
  IsWord-end end within =
      let name = is.names end.0 [] within.0 in
      subst IsWord (sym (append_assoc (name_of network end.0) (codes ":") (decimal end.1)))
      (IsWord-colon (name_of network end.0) (decimal end.1) (IsWord-allowed is_name_byte (name_of network end.0) refl refl name.allowed (omega (arith, name.some))) (IsWord-decimal end.1 (omega (arith, within.1.rate))))

  end_short : (end : ℕ × ℕ) → (end.0 < length network.nodes) × IsEnd end → length (end_word network end) ≤ 40
  end_short end within =
      let name = is.names end.0 [] within.0 in
      omega (
        arith,
        name.short,
        short end.1 (omega (arith, within.1.rate)),
        length-append (name_of network end.0 ++ codes ":") (decimal end.1),
        length-append (name_of network end.0) (codes ":"),
      )

  are_words : (line : CertLine) → MayBeSaid network line → AreWords (first_word line ∷ more_words network line)
  are_words (cost_line cost) fine = (IsWord-known (codes "cost") refl (omega arith), (IsWord-decimal cost (fits cost fine), tt))
  are_words (hose_line hose) fine =
      (IsWord-known (codes "hose") refl (omega arith), AreWords-map (end_word network) hose IsWord-end (λ k d below. (fine.nodes k d below, fine.is_hose.within k d below)))
  are_words (use_line pair) fine =
      (IsWord-known (codes "use") refl (omega arith), (IsWord-decimal pair.0 (omega (arith, fine.0, is.few_links)), (IsWord-decimal pair.1 (omega (arith, fine.1)), tt)))
  are_words (without_line link) fine = (IsWord-known (codes "without") refl (omega arith), (IsWord-decimal link (omega (arith, fine, is.few_links)), tt))
  are_words (pot_line root from numbers) fine =
      (IsWord-known (codes "pot") refl (omega arith), (IsWord-decimal root (omega (arith, fine.0, is.few_nodes)), (IsWord-decimal from (omega (arith, fine.1, is.few_nodes)), AreWords-map decimal numbers (λ n few. IsWord-decimal n (fits n few)) fine.3)))
  are_words end_line fine = (IsWord-known (codes "end") refl (omega arith), tt)

  is_spelled : (line : CertLine) → MayBeSaid network line → AreWordsOf network (first_word line ∷ more_words network line) line
  is_spelled (cost_line cost) fine = (refl, fine)
  is_spelled (hose_line hose) fine = (map (end_word network) hose, refl, record { ends = hose; spelled = refl; same_ends = IsPermutation-refl hose; is_hose = fine })
  is_spelled (use_line pair) fine = (refl, fine.0, fine.1)
  is_spelled (without_line link) fine = (refl, fine)
  is_spelled (pot_line root from numbers) fine = (refl, fine.0, fine.1, fine.2, fine.3)
  is_spelled end_line fine = refl

  -- no more than 66 words, each of 40 bytes at most, stand after the first
  few_words : (line : CertLine) → MayBeSaid network line → length (more_words network line) ≤ 66
  few_words (cost_line cost) fine = omega arith
  few_words (hose_line hose) fine = omega (arith, length-map hose (end_word network), fine.is_hose.counted.few)
  few_words (use_line pair) fine = omega arith
  few_words (without_line link) fine = omega arith
  few_words (pot_line root from numbers) fine = omega (arith, length-map numbers decimal, fine.2)
  few_words end_line fine = omega arith

  All-shorter : {X : Type 0} (P : X → Type 0) (f : X → List ℕ) (xs : List X) → ((x : X) → P x → length (f x) ≤ 40) → All P xs → AreShort 40 (map f xs)
  All-shorter P f [] each all = All-nil (λ (word : List ℕ). length word ≤ 40)
  All-shorter P f (x ∷ xs) each all =
      All-cons (λ (word : List ℕ). length word ≤ 40) (f x) (map f xs) (each x (all 0 x (omega arith))) (All-shorter P f xs each (λ k d below. all (suc k) d (omega (arith, below))))

  number_short : (number : ℕ) (words : List (List ℕ)) → number ≤ MOST_NUMBER → AreShort 40 words → AreShort 40 (decimal number ∷ words)
  number_short number words few all = All-cons (λ (word : List ℕ). length word ≤ 40) (decimal number) words (omega (arith, short number few)) all

  none_short : AreShort 40 []
  none_short = All-nil (λ (word : List ℕ). length word ≤ 40)

  short_words : (line : CertLine) → MayBeSaid network line → AreShort 40 (more_words network line)
  short_words (cost_line cost) fine = number_short cost [] fine none_short
  short_words (hose_line hose) fine =
      All-shorter (λ (end : ℕ × ℕ). (end.0 < length network.nodes) × IsEnd end) (end_word network) hose end_short (λ k d below. (fine.nodes k d below, fine.is_hose.within k d below))
  short_words (use_line pair) fine = number_short pair.0 (decimal pair.1 ∷ []) (omega (arith, fine.0, is.few_links)) (number_short pair.1 [] (omega (arith, fine.1)) none_short)
  short_words (without_line link) fine = number_short link [] (omega (arith, fine, is.few_links)) none_short
  short_words (pot_line root from numbers) fine =
      number_short root (decimal from ∷ map decimal numbers) (omega (arith, fine.0, is.few_nodes)) (number_short from (map decimal numbers) (omega (arith, fine.1, is.few_nodes))
      (All-shorter (λ (n : ℕ). n ≤ MOST_NUMBER) decimal numbers (λ n few. omega (arith, short n few)) fine.3))
  short_words end_line fine = none_short

  first_short : (line : CertLine) → length (first_word line) ≤ 7
  first_short (cost_line cost) = omega arith
  first_short (hose_line hose) = omega arith
  first_short (use_line pair) = omega arith
  first_short (without_line link) = omega arith
  first_short (pot_line root from numbers) = omega arith
  first_short end_line = omega arith

  -- ---- lines

  -- a line's text says it
  says_text : (line : CertLine) → MayBeSaid network line → SaysLine network (line_text network line) line
  says_text line fine =
      let text = line_text network line in
      let words = first_word line ∷ more_words network line in
      let spells = spaced-line network line in
      let are = are_words line fine in
      record {
        spaced = is_spaced text (first_word line) (more_words network line) spells are;
        spelled = subst (λ (ws : List (List ℕ)). AreWordsOf network ws line) (sym (words_of-line text words spells are)) (is_spelled line fine);
      }

  -- and so does the text with the endpoints in another order
  says_ends : (hose ends : List (ℕ × ℕ)) → IsHoseOf network hose → IsPermutation ends hose → SaysLine network (line_text network (hose_line ends)) (hose_line hose)
  says_ends hose ends fine moved =
      let text = line_text network (hose_line ends) in
      let words = map (end_word network) ends in
      let within : All (λ (end : ℕ × ℕ). (end.0 < length network.nodes) × IsEnd end) ends =
      All-permutation (λ (end : ℕ × ℕ). (end.0 < length network.nodes) × IsEnd end) hose ends (IsPermutation-sym ends hose moved) (λ k d below. (fine.nodes k d below, fine.is_hose.within k d below)) in
      let are : AreWords (codes "hose" ∷ words) = (IsWord-known (codes "hose") refl (omega arith), AreWords-map (end_word network) ends IsWord-end within) in
      record {
        spaced = is_spaced text (codes "hose") words refl are;
        spelled =
            subst (λ (ws : List (List ℕ)). AreWordsOf network ws (hose_line hose)) (sym (words_of-line text (codes "hose" ∷ words) refl are))
            (words, refl, record { ends = ends; spelled = refl; same_ends = moved; is_hose = fine });
      }

  says_as : (bytes : List ℕ) (line : CertLine) → MayBeSaid network line → bytes ≡ line_text network line → SaysLine network bytes line
  says_as bytes line fine same = subst (λ (bs : List ℕ). SaysLine network bs line) (sym same) (says_text line fine)

  says_spelled : (bytes : List ℕ) (line : CertLine) → MayBeSaid network line → IsSpelled network bytes line → SaysLine network bytes line
  says_spelled bytes (cost_line cost) fine same = says_as bytes (cost_line cost) fine same
  says_spelled bytes (hose_line hose) fine (ends, moved, same) = subst (λ (bs : List ℕ). SaysLine network bs (hose_line hose)) (sym same) (says_ends hose ends fine moved)
  says_spelled bytes (use_line pair) fine same = says_as bytes (use_line pair) fine same
  says_spelled bytes (without_line link) fine same = says_as bytes (without_line link) fine same
  says_spelled bytes (pot_line root from numbers) fine same = says_as bytes (pot_line root from numbers) fine same
  says_spelled bytes end_line fine same = says_as bytes end_line fine same

  may_be : (words : List (List ℕ)) (line : CertLine) → AreWordsOf network words line → MayBeSaid network line
  may_be words (cost_line cost) are = are.1
  may_be words (hose_line hose) are = are.2.is_hose
  may_be words (use_line pair) are = (are.1, are.2)
  may_be words (without_line link) are = are.1
  may_be words (pot_line root from numbers) are = (are.1, are.2, are.3, are.4)
  may_be words end_line are = tt

  spelled_by : (bytes : List ℕ) (line : CertLine) → bytes ≡ joined (words_of bytes) → AreWordsOf network (words_of bytes) line → IsSpelled network bytes line
  spelled_by bytes (cost_line cost) same are = same ∙ ap joined are.0
  spelled_by bytes (hose_line hose) same (words, cut, are) =
      (are.ends, are.same_ends, same ∙ ap joined cut ∙ ap (λ (ws : List (List ℕ)). joined (codes "hose" ∷ ws)) are.spelled)
  spelled_by bytes (use_line pair) same are = same ∙ ap joined are.0
  spelled_by bytes (without_line link) same are = same ∙ ap joined are.0
  spelled_by bytes (pot_line root from numbers) same are = same ∙ ap joined are.0
  spelled_by bytes end_line same are = same ∙ ap joined are

  -- a line by its text and by its words: the same bytes say the same
  pub said_line : (bytes : List ℕ) (line : CertLine) → IsLine network bytes line → SaysLine network bytes line
  said_line bytes line there = says_spelled bytes line there.may there.spelled

  pub line_said : (bytes : List ℕ) (line : CertLine) → length bytes ≤ line_limit → SaysLine network bytes line → IsLine network bytes line
  line_said bytes line short says = record {
    short = short;
    may = may_be (words_of bytes) line says.spelled;
    spelled = spelled_by bytes line (joined_back bytes says.spaced) says.spelled;
  }

  spelled_so : (line : CertLine) → IsSpelled network (line_text network line) line
  spelled_so (cost_line cost) = refl
  spelled_so (hose_line hose) = (hose, IsPermutation-refl hose, refl)
  spelled_so (use_line pair) = refl
  spelled_so (without_line link) = refl
  spelled_so (pot_line root from numbers) = refl
  spelled_so end_line = refl

  -- a line's text is the line
  is_line : (line : CertLine) → MayBeSaid network line → IsLine network (line_text network line) line
  is_line line fine =
      let first = first_word line in
      let more = more_words network line in
      record {
        short =
            omega (
              arith,
              ap (λ (bytes : List ℕ). length bytes) (spaced-line network line),
              length-append first (spaced more),
              first_short line,
              spaced_short 40 more (short_words line fine),
              few_words line fine,
              mul-le-mul (few_words line fine) (le_refl 41),
            );
        may = fine;
        spelled = spelled_so line;
      }

  -- no line feed stands in it
  is_plain : (line : CertLine) → MayBeSaid network line → IsPlain (line_text network line)
  is_plain line fine =
      let text = line_text network line in
      let none : IsWithout 10 text = line_no_feed text (first_word line ∷ more_words network line) (spaced-line network line) (are_words line fine) in
      position_or_len_is is_line_feed text (length text) 0 (omega arith) (λ k below. none k 0 below) (λ below. absurd (omega (arith, below)))

  abbrev pub AreFine : List CertLine → Type 0
  AreFine [] = ⊤
  AreFine (line ∷ lines) = MayBeSaid network line × AreFine lines

  pub fine_both : (lines more : List CertLine) → AreFine lines → AreFine more → AreFine (lines ++ more)
  fine_both [] more fine others = others
  fine_both (line ∷ lines) more fine others = (fine.0, fine_both lines more fine.1 others)

  -- the text of lines is these lines
  pub are_lines : (lines : List CertLine) → AreFine lines → AreLines network (certificate_text network lines) lines
  are_lines [] fine = refl
  are_lines (line ∷ lines) fine = (some, first, rest (are_lines lines fine.1))
    where
      text : List ℕ
      text = line_text network line

      cut : certificate_text network (line ∷ lines) ≡ text ++ (10 ∷ [] ++ certificate_text network lines)
      cut = append_assoc text (10 ∷ []) (certificate_text network lines)

      some : certificate_text network (line ∷ lines) ≢ []
      some none = absurd (omega (arith, ap (λ (bytes : List ℕ). length bytes) (sym cut ∙ none), length-append text (10 ∷ [] ++ certificate_text network lines)))

      before : before_first is_line_feed (certificate_text network (line ∷ lines)) ≡ text
      before = ap (before_first is_line_feed) cut ∙ before_first-found text (10 ∷ []) (certificate_text network lines) (is_plain line fine.0) (omega arith) ∙ append-nil text

      after : after_first is_line_feed (certificate_text network (line ∷ lines)) ≡ certificate_text network lines
      after = ap (after_first is_line_feed) cut ∙ after_first-found text (10 ∷ []) (certificate_text network lines) (is_plain line fine.0) (omega arith)

      first : IsLine network (before_first is_line_feed (certificate_text network (line ∷ lines))) line
      first = subst (λ (bytes : List ℕ). IsLine network bytes line) (sym before) (is_line line fine.0)

      rest : AreLines network (certificate_text network lines) lines → AreLines network (after_first is_line_feed (certificate_text network (line ∷ lines))) lines
      rest = subst (λ (bytes : List ℕ). AreLines network bytes lines) (sym after)
