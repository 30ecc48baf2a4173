-- Lines of a source, as a reader gives them: steps of proofs.
use Rattle.std.specs.Prelude.{◌≡◌, ◌≢◌, ◌⊎◌, ◌↔◌, ◌+◌, ◌<◌, ◌≤◌, ℕ, Bool, IsTrue, IsFalse, List, [], ◌∷◌, ◌++◌, length, Contains, ⊤, Option, None, Some, IfSome, IsSomeAnd, OnSome, Result, Err, IsErr, IfOk, MatchResult}
use Rattle.std.specs.List.{before_first, after_first}
use Rattle.hose_io.specs.steps.Calls.{HasGone}
use Rattle.hose_io.specs.Frame.{Rose, Stays}
use Rattle.hose_io.specs.Stream.{Gives, Stream}
use Rattle.hose_io.specs.declared.source.Source.{Ghosts}
use Rattle.hose_words.specs.Limits.{input_limit, line_limit}
use Rattle.hose_words.specs.declared.lines.Line.{Line}
use Rattle.hose_words.specs.declared.lines.Line.TheVariants.{Text, Long}
use Rattle.hose_words.specs.declared.lines.LineFault.{LineFault}
use Rattle.hose_words.specs.declared.lines.LineFault.TheVariants.{Read, TooLong}
use Rattle.hose_words.specs.Lines.{is_line_feed, IsAfterLines, PassesOver, StopsAt}

-- a reader of lines: its source, the bytes that it took and has not given in a line, how many it
-- took, the fault that it met, and whether it met the end of its source
pub record Reader (S : Type 0) : Type 0 where
  pub source : S
  pub pending : List ℕ
  pub taken : ℕ
  pub fault : Option LineFault
  pub ended : Bool

-- a line is shown by its bytes, where it is not too long for that
abbrev pub Shows : Line → List ℕ → Type 0
Shows (Text shown) line = (length line ≤ line_limit) × (shown.now ≡ line)
Shows Long line = line_limit < length line

-- the next line of a text, and the text that is left; none comes exactly at the end
abbrev pub GivesLine : Option Line → List ℕ → List ℕ → Type 0
GivesLine None text rest = (text ≡ []) × (rest ≡ [])
GivesLine (Some line) text rest = (text ≢ [])
    × Shows line (before_first is_line_feed text) × (rest ≡ after_first is_line_feed text)

-- a front of a line that was dropped, since the line is too long to be shown; or nothing
abbrev pub IsDropped : List ℕ → Type 0
IsDropped front = (front ≡ []) ⊎ (line_limit < length front)

-- What is pending after a fault is the line that was being read, but for a front that was dropped.
-- The byte past the limit is not pending.
abbrev pub KeepsLine : LineFault → List ℕ → List ℕ → Type 0
KeepsLine Read line pending = (front : List ℕ) × IsDropped front × (line ≡ front ++ pending)
KeepsLine TooLong line pending =
    (front : List ℕ) × (byte : ℕ) × IsDropped front × (line ≡ front ++ (pending ++ byte ∷ []))

-- what holds of the bytes that a source had left and of those that it had left when it was asked,
-- where it tells
abbrev pub WhereAsked : Option Stream → Option Stream → (List ℕ → List ℕ → Type 0) → Type 0
WhereAsked old asked P =
    IfSome old (λ before. IsSomeAnd asked (λ stream. P before.left stream.left))

-- A source of a reader was asked last where no line of what was to come had ended.
pub record IsAskedInLine {S : Type 0} (source : Ghosts S) (old new : Reader S) : Type 0 where
  pub asked : S
  pub went : source.went asked new.source
  pub part : WhereAsked (source.content old.source) (source.content asked) (λ before left.
      PassesOver (old.pending ++ before) left)

-- what a call of `next` does to a reader, and what it answers
pub record IsNext {S : Type 0} (source : Ghosts S) (old new : Reader S)
    (result : Result (Option Line) LineFault) : Type 0 where
  -- after a fault the reader stays as it is and answers the same
  pub after_fault : IfSome old.fault (λ fault. (result ≡ Err fault) × (new ≡ old))
  -- where the source tells, the text that is to come is what is pending and what the source has
  -- left
  pub answer : old.fault ≡ None
      → IfSome (source.content old.source) (λ before. IfSome (source.content new.source) (λ after.
      MatchResult result
      (λ line. GivesLine line (old.pending ++ before.left) (new.pending ++ after.left))
      (λ fault. StopsAt fault (old.pending ++ before.left) after.left)))
  -- until the source has met its end, each line that is given ended with a line feed
  pub whole : IfOk result (λ _. IsFalse new.ended
      → IfSome (source.content old.source) (λ before. IfSome (source.content new.source) (λ after.
      IsAfterLines (old.pending ++ before.left) (new.pending ++ after.left))))
  -- from then on no fault is met
  pub ended : IsFalse new.ended → IsFalse old.ended
  pub before_end : old.fault ≡ None → IsErr result → IsFalse old.ended
  -- the source gave these bytes in this call
  pub takes : (bytes : List ℕ) × Gives (source.content old.source) (source.content new.source) bytes
      × (new.taken ≡ old.taken + length bytes)
      × (old.fault ≡ None → MatchResult result (λ _. ⊤)
      (λ fault. KeepsLine fault (old.pending ++ bytes) new.pending))
  -- a source is asked only where no whole line is pending, and not again after its end
  pub whole_pending : Contains old.pending 10 → new.source ≡ old.source
  pub after_end : IsTrue old.ended → new.source ≡ old.source
  pub limit : new.taken ≤ input_limit + 1
  -- exactly where the source gave more than 1 GiB
  pub too_long : (result ≡ Err TooLong) ↔ (input_limit < new.taken)
  -- only where a call failed, now or before
  pub read : result ≡ Err Read
      → (old.fault ≡ Some Read) ⊎ Rose (source.frame old.source) (source.frame new.source)
  -- a fault is kept
  pub fault : MatchResult result (λ _. (old.fault ≡ None) × (new.fault ≡ None))
      (λ fault. new.fault ≡ Some fault)
  -- each line uses up at least one byte
  pub progress : IfOk result
      (λ line. OnSome line (length new.pending + old.taken < length old.pending + new.taken))
  pub stays : Stays (source.frame old.source) (source.frame new.source)
  -- only a call of the source that fails raises its count
  pub unfailed : result ≢ Err Read → source.frame new.source ≡ source.frame old.source
  pub gone : HasGone source old.source new.source
  pub asked : (new.source ≡ old.source) ⊎ IsAskedInLine source old new
