-- What a talk comes to: steps of proofs.
use Rattle.std.specs.Prelude.{◌≡◌, ◌⊎◌, ℕ, ◌+◌, ◌<◌, ◌≤◌, Bool, true, false, IsFalse, List, [], ◌∷◌, ◌++◌, length, None, Some, Result, Ok, Err}
use Rattle.hose_io.specs.Frame.{Rose}
use Rattle.hose_io.specs.Stream.{Grows}
use Rattle.hose_io.specs.Writing.{GrowsInPart}
use Rattle.hose_io.specs.declared.sink.Sink.{Ghosts as SinkGhosts}
use Rattle.hose_io.specs.declared.source.Source.{Ghosts as SourceGhosts}
use Rattle.hose_words.specs.Asking.{IsAskedBefore}
use Rattle.hose_words.specs.steps.Lines.{IsAskedInLine, Reader}
use Rattle.hose_words.specs.Reading.{WhereTold}
use Rattle.hose_words.specs.Saying.{SayLines}
use Rattle.hose_words.specs.steps.Saying.{IsOver, SaysUpTo, StopsReading, TakesLine}
use Rattle.hose_words.specs.declared.lines.LineFault.TheVariants as line_fault
use Rattle.hose_talk.specs.declared.answers.Answers.{Ghosts}
use Rattle.hose_talk.specs.declared.talking.TalkEnd.{TalkEnd}
use Rattle.hose_talk.specs.declared.talking.TalkFault.{TalkFault}
use Rattle.hose_talk.specs.declared.talking.TalkFault.TheVariants as talk_fault
use Rattle.hose_talk.specs.Talk.{AllOut, IsCutNear, IsLeftNear, Talk, talk, TalksTo, Telling, TellsOf, Terms, most_ahead}

-- ---- where a talk is

-- a talk over the source of its reader
abbrev pub over_source : {S O A : Type 0} → Talk (Reader S) O A → Talk S O A
over_source held = talk held.lines.source held.output held.by

-- ---- a line

module _ {A R S O : Type 0} (by : Ghosts A R) (source : SourceGhosts S) (sink : SinkGhosts O)
    (old new : Talk (Reader S) O A) where
  -- The first line that was to come was taken and answered: whatever the lines before it had come
  -- to comes on by it. `puts` says how much is out of the text of its reply.
  pub record TakesReply (puts : List ℕ → Type 0) : Type 0 where
    pub reply : R
    pub answers : (from : by.origin) (lines : List by.said) (replies : List R)
        → by.comes from lines replies old.by → (said : by.said)
        × TakesLine source old.lines new.lines
        (λ bytes. by.says (by.about old.by) lines bytes said)
        × by.comes from (lines ++ said ∷ []) (replies ++ reply ∷ []) new.by
    pub out : puts (by.text (by.about old.by) reply)
    pub asked : (new.lines.source ≡ old.lines.source)
        ⊎ IsAskedInLine source old.lines new.lines
    pub progress : length new.lines.pending + old.lines.taken
        < length old.lines.pending + new.lines.taken

  -- What the next line comes to: it has its reply; or there is none; or reading met a fault, and
  -- nothing is out; or the output failed in the reply.
  abbrev pub Exchanges : Result Bool TalkFault → Type 0
  Exchanges (Ok true) = TakesReply (Grows (sink.content old.output) (sink.content new.output))
      × (new.lines.fault ≡ None) × (sink.frame new.output ≡ sink.frame old.output)
  Exchanges (Ok false) = IsOver source old.lines new.lines × (new.lines.fault ≡ None)
      × (new.output ≡ old.output) × (new.by ≡ old.by)
  Exchanges (Err talk_fault.Read) = StopsReading source old.lines new.lines line_fault.Read
      × Rose (source.frame old.lines.source) (source.frame new.lines.source)
      × (new.output ≡ old.output) × (new.by ≡ old.by)
  Exchanges (Err talk_fault.TooLong) = StopsReading source old.lines new.lines line_fault.TooLong
      × (new.output ≡ old.output) × (new.by ≡ old.by)
  Exchanges (Err talk_fault.Write) =
      TakesReply (GrowsInPart (sink.content old.output) (sink.content new.output))
      × (new.lines.fault ≡ None) × Rose (sink.frame old.output) (sink.frame new.output)
      × (length new.lines.pending ≤ most_ahead)

-- ---- all lines

-- A reply was cut off in a talk over a reader: the last line had not ended when the source was
-- asked last in it, or the source was not asked, and yet a line was taken.
abbrev pub IsCutByReader : {S : Type 0} → SourceGhosts S → Reader S → Reader S → List ℕ → List ℕ
    → List ℕ → Type 0
IsCutByReader source old new text rest left = IsLeftNear text rest left
    × (((new.source ≡ old.source) × (length rest < length text))
    ⊎ IsAskedBefore source new.source text rest)

-- the terms of who answers, from an origin on, as it was at first, where a text tells this, and
-- stands so to what is left where a reply is cut off
abbrev pub terms_of : {A R : Type 0} (by : Ghosts A R) → by.origin → A
    → (List ℕ → List ℕ → List ℕ → Type 0) → Telling by.said → Terms by.said A R
terms_of by from first cut tells = record {
  tells = tells;
  cut = cut;
  comes = by.comes from;
  over = by.over;
  text = by.text (by.about first);
}

module _ {A R S O : Type 0} (by : Ghosts A R) (source : SourceGhosts S) (sink : SinkGhosts O)
    (from : by.origin) where
  -- Lines that were to come were answered, and the replies are out.
  pub record HasTalked (old new : Talk (Reader S) O A) : Type 0 where
    pub lines : List by.said
    pub replies : List R
    pub said : WhereTold (source.content old.lines.source) (source.content new.lines.source)
        (λ was left. SayLines (by.says (by.about old.by)) (old.lines.pending ++ was) lines
        (new.lines.pending ++ left))
    pub comes : by.comes from lines replies new.by
    pub out : AllOut (by.text (by.about old.by)) sink old.output new.output replies

  -- what a talk comes to, from its origin on, over the lines that a reader is to give
  abbrev pub TalksByReader : Talk (Reader S) O A → Talk (Reader S) O A → Result TalkEnd TalkFault
      → Type 0
  TalksByReader old new = TalksTo source sink
      (terms_of by from old.by (IsCutByReader source old.lines new.lines)
      (λ stops lines. SaysUpTo source old.lines new.lines (by.says (by.about old.by)) lines stops))
      (over_source old) (over_source new)

  -- what a talk comes to, from its origin on, over all that an input is to give
  abbrev pub TalksByInput : Talk S O A → Talk S O A → Result TalkEnd TalkFault → Type 0
  TalksByInput old new = TalksTo source sink
      (terms_of by from old.by (IsCutNear source new.lines)
      (TellsOf (by.says (by.about old.by)) (source.content old.lines) (source.content new.lines)))
      old new

-- A reader has kept the fault of reading that ended a talk, if one did, and met it before the end
-- of its source.
abbrev pub KeepsFault : {S : Type 0} → Reader S → Reader S → Result TalkEnd TalkFault → Type 0
KeepsFault start now (Err talk_fault.Read) =
    (now.fault ≡ Some line_fault.Read) × IsFalse start.ended
KeepsFault start now (Err talk_fault.TooLong) =
    (now.fault ≡ Some line_fault.TooLong) × IsFalse start.ended
KeepsFault start now (Err talk_fault.Write) = now.fault ≡ None
KeepsFault start now (Ok end) = now.fault ≡ None
