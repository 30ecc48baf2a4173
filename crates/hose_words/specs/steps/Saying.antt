-- What the lines of a source say, one after the other: steps of proofs.
use Rattle.std.specs.Prelude.{◌≡◌, ◌≢◌, ℕ, IsFalse, List, [], ◌++◌, Some}
use Rattle.std.specs.List.{before_first, after_first}
use Rattle.hose_io.specs.declared.source.Source.{Ghosts}
use Rattle.hose_words.specs.Lines.{StopsAt, is_line_feed}
use Rattle.hose_words.specs.steps.Lines.{Reader}
use Rattle.hose_words.specs.Reading.{WhereTold}
use Rattle.hose_words.specs.declared.lines.LineFault.{LineFault}
use Rattle.hose_words.specs.Saying.{SayLines}

module _ {S : Type 0} (source : Ghosts S) (old new : Reader S) where
  -- the first line that was to come was taken, and is so
  abbrev pub TakesLine : (List ℕ → Type 0) → Type 0
  TakesLine Is = WhereTold (source.content old.source) (source.content new.source) (λ was now.
      (old.pending ++ was ≢ []) × Is (before_first is_line_feed (old.pending ++ was))
      × (new.pending ++ now ≡ after_first is_line_feed (old.pending ++ was)))

  -- no line was to come
  pub record IsOver : Type 0 where
    pub ended : WhereTold (source.content old.source) (source.content new.source) (λ was now.
        (old.pending ++ was ≡ []) × (new.pending ++ now ≡ []))

  -- Reading met a fault before the next line ended and before the source did.
  pub record StopsReading (fault : LineFault) : Type 0 where
    pub stops : WhereTold (source.content old.source) (source.content new.source) (λ was left.
        StopsAt fault (old.pending ++ was) left)
    pub before_end : IsFalse old.ended
    pub kept : new.fault ≡ Some fault

  -- Lines that were to come said this, and `stops` says how all that was to come stands to what
  -- comes after them and to what the source has left.
  abbrev pub SaysUpTo : {L : Type 0} → (List L → List ℕ → L → Type 0) → List L
      → (List ℕ → List ℕ → List ℕ → Type 0) → Type 0
  SaysUpTo Says lines stops =
      WhereTold (source.content old.source) (source.content new.source) (λ was left.
      (rest : List ℕ) × SayLines Says (old.pending ++ was) lines rest
      × stops (old.pending ++ was) rest left)
