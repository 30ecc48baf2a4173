-- What a reader keeps beside its source, and what one turn of its loop does.
use Rattle.std.specs.Prelude.{◌≡◌, ◌⊎◌, ◌+◌, ◌<◌, ◌≤◌, ℕ, Bool, true, IsTrue, IsFalse, ◌||◌, not, ◌&&◌, ◌==◌, nat_lt, if◌then◌else◌, List, [], ◌∷◌, ◌++◌, length, Option, None, Some, Result, Ok, Err, MatchResult, ⊤}
use Rattle.std.specs.Bool.{MatchBool}
use Rattle.hose_io.specs.steps.Calls.{HasGone}
use Rattle.hose_io.specs.Frame.{Rose, Stays}
use Rattle.hose_io.specs.Stream.{Gives, IsAtEnd}
use Rattle.hose_io.specs.declared.source.Source.{Ghosts}
use Rattle.hose_words.specs.declared.intake.FoundLine.{FoundLine}
use Rattle.hose_words.specs.declared.intake.FoundLine.TheVariants as found
use Rattle.hose_words.specs.Limits.{input_limit, line_limit}
use Rattle.hose_words.specs.declared.lines.Line.{Line}
use Rattle.hose_words.specs.declared.lines.Line.TheVariants.{Text, Long}
use Rattle.hose_words.specs.declared.lines.LineFault.{LineFault}
use Rattle.hose_words.specs.declared.lines.LineFault.TheVariants.{Read, TooLong}
use Rattle.hose_words.specs.steps.Lines.{Reader, IsNext}
use Rattle.hose_words.specs.steps.Kept.{ReaderState}

-- a reader, by its source and what it keeps beside it
abbrev pub reader_of : {S : Type 0} → S → ReaderState → Reader S
reader_of source kept = record {
  source = source;
  pending = kept.pending;
  taken = kept.taken;
  fault = kept.fault;
  ended = kept.ended;
}

-- how a line is found, where its front was dropped already or not
abbrev pub found_of : Bool → List ℕ → FoundLine
found_of is_long line =
    if is_long || nat_lt line_limit (length line) then found.Long else found.Text

-- how a line is found at the end of the text, where no bytes are no line
abbrev pub found_at_end : Bool → List ℕ → FoundLine
found_at_end is_long line =
    if not is_long && (length line == 0) then found.End else found_of is_long line

-- what is shown of the line that was cut off last
abbrev pub ShowsFound : FoundLine → List ℕ → Option Line → Type 0
ShowsFound found.End line None = ⊤
ShowsFound found.End line (Some shown) = ⊥
ShowsFound found.Long line None = ⊥
ShowsFound found.Long line (Some Long) = ⊤
ShowsFound found.Long line (Some (Text bytes)) = ⊥
ShowsFound found.Text line None = ⊥
ShowsFound found.Text line (Some Long) = ⊥
ShowsFound found.Text line (Some (Text bytes)) = bytes.now ≡ line

-- whatever shows what was found answers a call of `next`
abbrev pub FindsNext : {S : Type 0} → Ghosts S → Reader S → Reader S → List ℕ
    → Result FoundLine LineFault → Type 0
FindsNext source old new line (Ok found) =
    (shown : Option Line) → ShowsFound found line shown → IsNext source old new (Ok shown)
FindsNext source old new line (Err fault) = IsNext source old new (Err fault)

-- what is pending was dropped, where it is more than a line shows
abbrev pub DropsLong : Bool → Bool → List ℕ → List ℕ → Type 0
DropsLong was is_long old new = MatchBool (nat_lt line_limit (length old))
    ((is_long ≡ true) × (new ≡ [])) ((is_long ≡ was) × (new ≡ old))

module _ {S : Type 0} (source : Ghosts S) (old new : Reader S) where
  -- the source has not met its end
  abbrev pub IsBeforeEnd : Type 0
  IsBeforeEnd = IsFalse old.ended × IsFalse new.ended

  -- one byte or more were taken, within the limit
  pub record TakesBytes : Type 0 where
    pub bytes : List ℕ
    pub some : 0 < length bytes
    pub gives : Gives (source.content old.source) (source.content new.source) bytes
    pub pending : new.pending ≡ old.pending ++ bytes
    pub taken : new.taken ≡ old.taken + length bytes
    pub limit : new.taken ≤ input_limit
    pub fault : new.fault ≡ None
    pub before_end : IsBeforeEnd
    pub frame : source.frame new.source ≡ source.frame old.source
    pub went : source.went old.source new.source

  -- the source met its end, now or before; where it did before, it was not asked
  pub record MeetsEnd : Type 0 where
    pub content : source.content new.source ≡ source.content old.source
    pub at_end : IsAtEnd (source.content old.source)
    pub pending : new.pending ≡ old.pending
    pub taken : new.taken ≡ old.taken
    pub fault : new.fault ≡ None
    pub ended : IsTrue new.ended
    pub frame : source.frame new.source ≡ source.frame old.source
    pub gone : HasGone source old.source new.source
    pub asked : (new.source ≡ old.source) ⊎ source.went old.source new.source
    pub not_asked : IsTrue old.ended → new.source ≡ old.source

  -- a call failed, or the byte past the limit was taken
  abbrev pub MeetsFault : LineFault → Type 0
  MeetsFault Read = (source.content new.source ≡ source.content old.source)
      × (new.taken ≡ old.taken) × (new.fault ≡ Some Read) × (new.pending ≡ old.pending)
      × Stays (source.frame old.source) (source.frame new.source)
      × Rose (source.frame old.source) (source.frame new.source) × IsBeforeEnd
      × source.went old.source new.source
  MeetsFault TooLong =
      ((byte : ℕ) × Gives (source.content old.source) (source.content new.source) (byte ∷ []))
      × (old.taken ≡ input_limit) × (new.taken ≡ input_limit + 1) × (new.fault ≡ Some TooLong)
      × (new.pending ≡ old.pending) × (source.frame new.source ≡ source.frame old.source)
      × IsBeforeEnd × source.went old.source new.source

  -- a turn takes at least one byte, meets the end, or meets a fault
  abbrev pub IsIntake : Result Bool LineFault → Type 0
  IsIntake result = MatchResult result (λ more. MatchBool more TakesBytes MeetsEnd) MeetsFault
