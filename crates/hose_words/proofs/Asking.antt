-- When the source of a reader was asked last, once a line more was taken.
use Rattle.std.proofs.Common.{◌≡◌, ◌≢◌, ◌⊎◌, ◌∙◌, ℕ, ◌+◌, ◌<◌, ◌≤◌, IsTrue, IsFalse, List, ◌++◌, length, Option, None, Some, IfSome, IsSomeAnd, drop, inl, inr, ⊎_elim, ap, arith, []}
use Rattle.std.proofs.lemmas.Bool.{cases_Bool, cases_lt}
use Rattle.std.specs.List.{position_or_len}
use Rattle.std.proofs.lemmas.List.{length-drop, nil_from_length}
use Rattle.hose_io.specs.Stream.{Gives, Stream}
use Rattle.hose_io.specs.declared.source.Source.{Ghosts}
use Rattle.hose_words.specs.Asking.{IsAskedBefore, IsWithinLines}
use Rattle.hose_words.specs.Lines.{IsAfterLines, PassesOver, is_line_feed}
use Rattle.hose_words.specs.Reading.{WhereTold}
use Rattle.hose_words.specs.steps.Lines.{IsAskedInLine, Reader, WhereAsked}
use Rattle.hose_words.specs.steps.Reading.{IsAskedAfterLines, ReadsOn}
use Rattle.hose_words.specs.steps.Saying.{TakesLine}
use Rattle.hose_words.proofs.OnReading.{WhereTold-map, WhereTold-then}

-- what is left of a text behind its first line is shorter
shorter_behind : (text : List ℕ) → text ≢ [] → length (drop (position_or_len is_line_feed text + 1) text) < length text
shorter_behind text some = ⊎_elim (λ more. omega (arith, more, length-drop (position_or_len is_line_feed text + 1) text)) (λ none. absurd (some (nil_from_length text (omega (arith, none))))) (cases_lt 0 (length text))

module _ {S : Type 0} (source : Ghosts S) (start now new : Reader S) (Is : List ℕ → Type 0) (reads : ReadsOn source start now) (line : TakesLine source now new Is) where
  -- a line more leaves less
  strictly : WhereTold (source.content now.source) (source.content new.source) (λ was left. length (new.pending ++ left) < length (now.pending ++ was))
  strictly = WhereTold-map (source.content now.source) (source.content new.source) _ _ line
      (λ was left takes. omega (arith, ap length takes.2, shorter_behind (now.pending ++ was) takes.0))

  -- the source was asked last before the line was looked for, or never
  asked_earlier : new.source ≡ now.source → (now.source ≡ start.source) ⊎ IsAskedAfterLines source start now
      → WhereTold (source.content start.source) (source.content new.source) (λ was left.
      ((new.source ≡ start.source) × (length (new.pending ++ left) < length (start.pending ++ was))) ⊎ IsAskedBefore source new.source (start.pending ++ was) (new.pending ++ left))
  asked_earlier same (inl before) = WhereTold-then (source.content start.source) (source.content now.source) (source.content new.source) reads.takes.0 _ _ _ reads.takes.1 reads.shorter strictly
      (λ a b c here there. inl (same ∙ before, omega (arith, here, there)))
  asked_earlier same (inr is) = WhereTold-map (source.content start.source) (source.content new.source) _ _
      (at (source.content start.source) (source.content is.asked) (source.content now.source) (source.content new.source) reads.takes.1 is.lines strictly)
      (λ was left told. inr (is.asked, rw same is.went, told))
    where
      at : (before then middle after : Option Stream) → Gives before middle reads.takes.0 → WhereAsked before then (λ was left. IfSome middle (λ mid. (first : List ℕ) × IsAfterLines (start.pending ++ was) first × PassesOver first left × (length (now.pending ++ mid.left) ≤ length first)))
          → WhereTold middle after (λ was left. length (new.pending ++ left) < length (now.pending ++ was)) → WhereTold before after (λ was left. IsSomeAnd then (λ stream. IsWithinLines (start.pending ++ was) (new.pending ++ left) stream.left))
      at None then middle after gives lines less = tt
      at (Some b) then middle None gives lines less = tt
      at (Some b) None middle (Some n) gives lines less = absurd lines
      at (Some b) (Some t) None (Some n) gives lines less = absurd gives
      at (Some b) (Some t) (Some m) (Some n) gives lines less = (lines.0, lines.1, lines.2, omega (arith, lines.3, less))

  -- the source was asked last while the line was looked for
  asked_within : now.fault ≡ None → IsFalse now.ended → IsAskedInLine source now new → WhereTold (source.content start.source) (source.content new.source) (λ was left.
      ((new.source ≡ start.source) × (length (new.pending ++ left) < length (start.pending ++ was))) ⊎ IsAskedBefore source new.source (start.pending ++ was) (new.pending ++ left))
  asked_within none before is = WhereTold-map (source.content start.source) (source.content new.source) _ _
      (at (source.content start.source) (source.content is.asked) (source.content now.source) (source.content new.source) reads.takes.1 (reads.whole none before) is.part strictly)
      (λ was left told. inr (is.asked, is.went, told))
    where
      at : (start_told then middle after : Option Stream) → Gives start_told middle reads.takes.0 → WhereTold start_told middle (λ was left. IsAfterLines (start.pending ++ was) (now.pending ++ left)) → WhereAsked middle then (λ was left. PassesOver (now.pending ++ was) left)
          → WhereTold middle after (λ was left. length (new.pending ++ left) < length (now.pending ++ was)) → WhereTold start_told after (λ was left. IsSomeAnd then (λ stream. IsWithinLines (start.pending ++ was) (new.pending ++ left) stream.left))
      at None then middle after gives whole part less = tt
      at (Some b) then middle None gives whole part less = tt
      at (Some b) None None (Some n) gives whole part less = absurd gives
      at (Some b) None (Some m) (Some n) gives whole part less = absurd part
      at (Some b) (Some t) None (Some n) gives whole part less = absurd gives
      at (Some b) (Some t) (Some m) (Some n) gives whole part less = (now.pending ++ m.left, whole, part, less)

  -- Once a line more was taken, the source was asked last before it had ended, or never.
  pub asked_before : now.fault ≡ None → (IsTrue now.ended → new.source ≡ now.source) → (new.source ≡ now.source) ⊎ IsAskedInLine source now new → WhereTold (source.content start.source) (source.content new.source) (λ was left.
      ((new.source ≡ start.source) × (length (new.pending ++ left) < length (start.pending ++ was))) ⊎ IsAskedBefore source new.source (start.pending ++ was) (new.pending ++ left))
  asked_before none over (inl same) = asked_earlier same reads.asked
  asked_before none over (inr is) = ⊎_elim (λ ended. asked_earlier (over ended) reads.asked) (λ before. asked_within none before is) (cases_Bool now.ended)
