-- The first line of a text of which a front was dropped.
use Rattle.std.proofs.Common.{◌≡◌, ◌≢◌, ℕ, ◌+◌, ◌<◌, Bool, true, false, not, cond, eqb, nat_lt, List, [], ◌∷◌, ◌++◌, length, get_or, take, drop, ap, ◌∙◌, refl, arith, All, Option, None, Some, MatchBool}
use Rattle.std.proofs.Math.Seq.{take-append-add, drop-append-add}
use Rattle.std.specs.List.{position_or_len, before_first, after_first}
use Rattle.std.specs.Option.{IsSomeAnd}
use Rattle.std.proofs.lemmas.List.{length-append, take-append-le, drop-append-le, take_all, drop_all}
use Rattle.std.proofs.lemmas.List.Folds.{prefix_len-append}
use Rattle.std.proofs.lemmas.List.Sums.{fails_before_first, passes_at_first, split_at_first}
use Rattle.std.proofs.lemmas.Bool.{cond-true, cond-false, eq-eqb, ne_eqb, eqb-false, eqb-true, ltb-true, ltb-false}
use Rattle.hose_words.specs.Lines.{is_line_feed}
use Rattle.hose_words.specs.steps.Lines.{Shows, GivesLine}
use Rattle.hose_words.specs.steps.Intake.{found_of, ShowsFound}
use Rattle.hose_words.specs.declared.intake.FoundLine.TheVariants as found
use Rattle.hose_words.specs.declared.lines.Line.{Line}
use Rattle.hose_words.specs.declared.lines.Line.TheVariants.{Text, Long}

-- no line feed stands in the bytes
abbrev pub IsPlain : List ℕ → Type 0
IsPlain bytes = position_or_len is_line_feed bytes ≡ length bytes

module _ (p : ℕ → Bool) (front bytes : List ℕ) where
  position_or_len-behind : position_or_len p front ≡ length front → position_or_len p (front ++ bytes) ≡ length front + position_or_len p bytes
  position_or_len-behind none =
      prefix_len-append (λ x. not (p x)) front bytes
      ∙ cond-true (eqb (position_or_len p front) (length front)) (length front + position_or_len p bytes) (position_or_len p front) (eq-eqb _ _ none)

  position_or_len-in_front : position_or_len p front < length front → position_or_len p (front ++ bytes) ≡ position_or_len p front
  position_or_len-in_front found =
      prefix_len-append (λ x. not (p x)) front bytes
      ∙ cond-false (eqb (position_or_len p front) (length front)) (length front + position_or_len p bytes) (position_or_len p front) (ne_eqb _ _ (λ e. absurd (omega arith)))

pub IsPlain-append : (front bytes : List ℕ) → IsPlain front → IsPlain bytes → IsPlain (front ++ bytes)
IsPlain-append front bytes plain more =
    omega (arith, position_or_len-behind is_line_feed front bytes plain, length-append front bytes)

-- no byte of such bytes is a line feed
pub All-from_IsPlain : (bytes : List ℕ) → IsPlain bytes → All (λ byte. byte ≢ 10) bytes
All-from_IsPlain bytes plain = λ k d inside. eqb-false (get_or bytes k d) 10 (fails_before_first is_line_feed bytes k d (omega arith))

module _ (dropped pending rest : List ℕ) (plain : IsPlain dropped) where
  module _ (found : position_or_len is_line_feed pending < length pending) where
    place : position_or_len is_line_feed (dropped ++ (pending ++ rest)) ≡ length dropped + position_or_len is_line_feed pending
    place =
        position_or_len-behind is_line_feed dropped (pending ++ rest) plain
        ∙ ap (λ k. length dropped + k) (position_or_len-in_front is_line_feed pending rest found)

    pub before_first-found : before_first is_line_feed (dropped ++ (pending ++ rest)) ≡ dropped ++ before_first is_line_feed pending
    before_first-found =
        let n = position_or_len is_line_feed pending in
        ap (λ k. take k (dropped ++ (pending ++ rest))) place
        ∙ (take-append-add dropped (pending ++ rest) n ∙ ap (λ part. dropped ++ part) (take-append-le n pending rest (omega arith)))

    pub after_first-found : after_first is_line_feed (dropped ++ (pending ++ rest)) ≡ after_first is_line_feed pending ++ rest
    after_first-found =
        let n = position_or_len is_line_feed pending in
        let here : position_or_len is_line_feed (dropped ++ (pending ++ rest)) + 1 ≡ length dropped + (n + 1) = omega (arith, place) in
        ap (λ k. drop k (dropped ++ (pending ++ rest))) here
        ∙ (drop-append-add dropped (pending ++ rest) (n + 1) ∙ drop-append-le (n + 1) pending rest (omega arith))

-- the first line of a text ends with its line feed, where it has one
pub line_feed_found : (text : List ℕ) → position_or_len is_line_feed text < length text → text ≡ before_first is_line_feed text ++ 10 ∷ after_first is_line_feed text
line_feed_found text found =
    let is : get_or text (position_or_len is_line_feed text) 0 ≡ 10 = eqb-true _ 10 (passes_at_first is_line_feed text 0 found) in
    split_at_first is_line_feed text 0 found ∙ ap (λ byte. before_first is_line_feed text ++ byte ∷ after_first is_line_feed text) is

-- a text with no line feed is its last line
pub before_first-plain : (text : List ℕ) → IsPlain text → before_first is_line_feed text ≡ text
before_first-plain text plain = take_all (position_or_len is_line_feed text) text (omega arith)

pub after_first-plain : (text : List ℕ) → IsPlain text → after_first is_line_feed text ≡ []
after_first-plain text plain = drop_all (position_or_len is_line_feed text + 1) text (omega arith)

-- what is shown of a line none of which was dropped
shows_whole : (is_over : Bool) (line : List ℕ) (shown : Option Line) → nat_lt 4096 (length line) ≡ is_over → ShowsFound (cond is_over found.Long found.Text) line shown → IsSomeAnd shown (λ l. Shows l line)
shows_whole true line None over shows = absurd shows
shows_whole true line (Some Long) over shows = ltb-true 4096 (length line) over
shows_whole true line (Some (Text bytes)) over shows = absurd shows
shows_whole false line None over shows = absurd shows
shows_whole false line (Some Long) over shows = absurd shows
shows_whole false line (Some (Text bytes)) over shows = (ltb-false 4096 (length line) over, shows)

-- what is shown of a line whose front was dropped, or was not
pub shows_found : (is_long : Bool) (dropped line : List ℕ) (shown : Option Line) → MatchBool is_long (4096 < length dropped) (dropped ≡ []) → ShowsFound (found_of is_long line) line shown → IsSomeAnd shown (λ l. Shows l (dropped ++ line))
shows_found true dropped line None long shows = absurd shows
shows_found true dropped line (Some Long) long shows = omega (arith, length-append dropped line)
shows_found true dropped line (Some (Text bytes)) long shows = absurd shows
shows_found false dropped line shown none shows = rw none (shows_whole (nat_lt 4096 (length line)) line shown refl shows)

pub GivesLine-shown : (shown : Option Line) (text rest line : List ℕ) → IsSomeAnd shown (λ l. Shows l line) → 0 < length text → before_first is_line_feed text ≡ line → rest ≡ after_first is_line_feed text → GivesLine shown text rest
GivesLine-shown None text rest line shows some before after = absurd shows
GivesLine-shown (Some l) text rest line shows some before after =
    (λ none. absurd (omega (arith, ap length none)), rw before shows, after)
