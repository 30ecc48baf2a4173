-- What a talk comes to.
use Rattle.std.specs.Prelude.{◌≡◌, ℕ, ◌+◌, ◌<◌, ◌≤◌, Bool, true, false, List, [], ◌∷◌, ◌++◌, length, take, Option, Result, Ok, Err}
use Rattle.std.specs.List.{flat_map}
use Rattle.hose_io.specs.Frame.{Rose}
use Rattle.hose_io.specs.Stream.{Grows, Stream}
use Rattle.hose_io.specs.declared.sink.Sink.{Ghosts as SinkGhosts}
use Rattle.hose_io.specs.declared.source.Source.{Ghosts as SourceGhosts}
use Rattle.hose_words.specs.Asking.{IsAskedBefore}
use Rattle.hose_words.specs.Lines.{StopsAfterLines}
use Rattle.hose_words.specs.Reading.{WhereTold}
use Rattle.hose_words.specs.Saying.{IsAllTaken, IsLeftOver, SayLines}
use Rattle.hose_words.specs.declared.lines.LineFault.TheVariants as line_fault
use Rattle.hose_talk.specs.declared.talking.TalkEnd.{TalkEnd}
use Rattle.hose_talk.specs.declared.talking.TalkEnd.TheVariants as talk_end
use Rattle.hose_talk.specs.declared.talking.TalkFault.{TalkFault}
use Rattle.hose_talk.specs.declared.talking.TalkFault.TheVariants as talk_fault

-- ---- where a talk is

-- where a talk is: what is read, as an input or a reader of its lines, what is written, and what
-- the answers come from
pub record Talk (L O A : Type 0) : Type 0 where
  pub lines : L
  pub output : O
  pub by : A

-- what is read, what is written, and what the answers come from, as one
abbrev pub talk : {L O A : Type 0} → L → O → A → Talk L O A
talk lines output by = record { lines = lines; output = output; by = by }

-- ---- all lines

-- what a text says, as far as its lines are answered: these lines; the relation says how the text
-- stands to what comes after them and to what is left of it
abbrev pub Telling : Type 0 → Type 1
Telling L = (List ℕ → List ℕ → List ℕ → Type 0) → List L → Type 0

-- what a source gave says, which told this before and after
abbrev pub TellsOf : {L : Type 0} → (List L → List ℕ → L → Type 0) → Option Stream → Option Stream
    → Telling L
TellsOf Says old new stops lines = WhereTold old new (λ text left.
    (rest : List ℕ) × SayLines Says text lines rest × stops text rest left)

-- how many bytes are taken ahead of the lines at most: what one look at an input may give
abbrev pub most_ahead : ℕ
most_ahead = 8192

-- What is left is the end of what comes after the lines of a text, but for what was taken ahead.
-- So no more than that is taken while the reply to a line is not out.
abbrev pub IsLeftNear : List ℕ → List ℕ → List ℕ → Type 0
IsLeftNear text rest left =
    IsLeftOver text rest left × (length rest ≤ length left + most_ahead)

-- The reply to the last line was cut off, and the source, which is so now, was asked last before
-- that line had ended: so no reply is kept back for more of the source.
abbrev pub IsCutNear : {S : Type 0} → SourceGhosts S → S → List ℕ → List ℕ → List ℕ → Type 0
IsCutNear source now text rest left =
    IsLeftNear text rest left × IsAskedBefore source now text rest

-- the terms of a talk: what its text tells, how that stands to what is left where a reply is cut
-- off, what lines and their replies come to, whether no line is answered any more, and the text of
-- a reply
pub record Terms (L A R : Type 0) : Type 1 where
  pub tells : Telling L
  pub cut : List ℕ → List ℕ → List ℕ → Type 0
  pub comes : List L → List R → A → Type 0
  pub over : A → Bool
  pub text : R → List ℕ

-- Lines were answered, as far as `stops` says, and they and their replies have come to this. `puts`
-- says how much is out of the replies.
pub record TalksUpTo {L A R : Type 0} (terms : Terms L A R) (last : A)
    (stops : List ℕ → List ℕ → List ℕ → Type 0) (puts : List R → Type 0) : Type 0 where
  pub lines : List L
  pub replies : List R
  pub said : terms.tells stops lines
  pub comes : terms.comes lines replies last
  pub out : puts replies

module _ {R O : Type 0} (text : R → List ℕ) (sink : SinkGhosts O) (output output' : O) where
  -- all replies are out
  abbrev pub AllOut : List R → Type 0
  AllOut replies = Grows (sink.content output) (sink.content output') (flat_map text replies)

  -- all replies but the last one are out, and a part of that one
  abbrev pub LastCut : List R → Type 0
  LastCut replies = (whole : List R) × (last : R) × (replies ≡ whole ++ last ∷ [])
      × (count : ℕ) × (count < length (text last))
      × Grows (sink.content output) (sink.content output')
      (flat_map text whole ++ take count (text last))

-- A talk over an input, on these terms.
module _ {L A R S O : Type 0} (source : SourceGhosts S) (sink : SinkGhosts O)
    (terms : Terms L A R) (old new : Talk S O A) where
  -- the input did not fail
  abbrev pub ReadingWorked : Type 0
  ReadingWorked = source.frame new.lines ≡ source.frame old.lines

  -- the output did not fail
  abbrev pub WritingWorked : Type 0
  WritingWorked = sink.frame new.output ≡ sink.frame old.output

  -- all replies to the lines before this end are out, and another line would be answered or not
  abbrev pub TalksOut : (List ℕ → List ℕ → List ℕ → Type 0) → Bool → Type 0
  TalksOut stops no_more =
      TalksUpTo terms new.by stops (AllOut terms.text sink old.output new.output)
      × (terms.over new.by ≡ no_more)

  -- What a talk comes to: each line has its reply, and no more is to come; or no line is answered
  -- any more; or reading met a fault, or the output failed in a reply.
  abbrev pub TalksTo : Result TalkEnd TalkFault → Type 0
  TalksTo (Ok talk_end.Input) = TalksOut IsAllTaken false × ReadingWorked × WritingWorked
  TalksTo (Ok talk_end.Over) = TalksOut IsLeftNear true × ReadingWorked × WritingWorked
  TalksTo (Err talk_fault.Read) = TalksOut (StopsAfterLines line_fault.Read) false
      × Rose (source.frame old.lines) (source.frame new.lines) × WritingWorked
  TalksTo (Err talk_fault.TooLong) = TalksOut (StopsAfterLines line_fault.TooLong) false
      × ReadingWorked × WritingWorked
  TalksTo (Err talk_fault.Write) =
      TalksUpTo terms new.by terms.cut (LastCut terms.text sink old.output new.output)
      × ReadingWorked × Rose (sink.frame old.output) (sink.frame new.output)
