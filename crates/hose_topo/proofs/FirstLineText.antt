-- A line and its line feed at the front of a text.
use Rattle.std.proofs.Common.{◌≡◌, ◌∙◌, ℕ, ◌+◌, ◌≤◌, List, ◌∷◌, ◌++◌, length, take, drop, refl, sym, ap, arith, append-nil}
use Rattle.std.proofs.Math.Seq.{take-append-add, drop-append-add}
use Rattle.std.specs.List.{position_or_len, before_first, after_first}
use Rattle.std.proofs.lemmas.List.{length-append, get_or_append_left, get_or_at}
use Rattle.std.proofs.lemmas.List.Sums.{position_or_len_is}
use Rattle.hose_words.specs.Words.{words_of}
use Rattle.hose_words.specs.Lines.{is_line_feed}
use Rattle.hose_words.specs.declared.lines.TheConstants.{LINE_LIMIT}
use Rattle.hose_words.proofs.Spaced.{AreWords, IsWithout, line_no_feed, spaced, words_of-line}
use Rattle.hose_topo.specs.TopologyText.{HasLine}

module _ (line rest : List ℕ) (plain : IsWithout 10 line) where
  feed_at : position_or_len is_line_feed (line ++ 10 ∷ rest) ≡ length line
  feed_at =
      position_or_len_is is_line_feed (line ++ 10 ∷ rest) (length line) 0 (omega (arith, length-append line (10 ∷ rest)))
      (λ k below. ap is_line_feed (get_or_append_left line (10 ∷ rest) 0 k below) ∙ plain k 0 below)
      (λ _. ap is_line_feed (get_or_at line 10 rest 0 (length line) refl))

  before_feed : before_first is_line_feed (line ++ 10 ∷ rest) ≡ line
  before_feed =
      let at : position_or_len is_line_feed (line ++ 10 ∷ rest) ≡ length line + 0 = omega (arith, feed_at) in
      ap (λ k. take k (line ++ 10 ∷ rest)) at ∙ take-append-add line (10 ∷ rest) 0 ∙ append-nil line

  pub after_feed : after_first is_line_feed (line ++ 10 ∷ rest) ≡ rest
  after_feed =
      ap (λ k. drop (k + 1) (line ++ 10 ∷ rest)) feed_at ∙ drop-append-add line (10 ∷ rest) 1

  -- a line that is short enough is the first of the text
  has_line : (words : List (List ℕ)) → words ≡ words_of line → length line ≤ LINE_LIMIT → HasLine (line ++ 10 ∷ rest) words
  has_line words split short = record {
    some = λ none. omega (arith, length-append line (10 ∷ rest), ap length none);
    short = rw before_feed short;
    is_split = rw before_feed split;
  }

-- a line of words, with a space between each two, is the first of the text
pub spelled_line : (line rest : List ℕ) (words : List (List ℕ)) → 32 ∷ line ≡ spaced words → AreWords words → length line ≤ LINE_LIMIT → HasLine (line ++ 10 ∷ rest) words
spelled_line line rest words is are short =
    has_line line rest (line_no_feed line words is are) words (sym (words_of-line line words is are)) short
