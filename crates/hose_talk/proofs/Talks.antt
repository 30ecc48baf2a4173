-- Lines of a talk, one after another.
use Rattle.std.proofs.Common.{◌≡◌, ◌≢◌, ◌⊎◌, ◌∙◌, ◌↔◌, length, length-append, ℕ, ◌≤◌, ◌<◌, ◌+◌, arith, List, [], ◌∷◌, ◌++◌, None, Some, Result, Ok, Err, true, false, refl, sym, ap, subst, take}
use Rattle.std.specs.List.{flat_map}
use Rattle.hose_io.specs.Stream.{Grows}
use Rattle.hose_io.specs.Writing.{GrowsInPart}
use Rattle.hose_io.proofs.Streams.{Grows-nil, Grows-append}
use Rattle.hose_io.specs.declared.sink.Sink.{Ghosts as SinkGhosts}
use Rattle.hose_io.specs.declared.source.Source.{Ghosts as SourceGhosts}
use Rattle.hose_words.specs.Lines.{StopsAfterLines}
use Rattle.hose_words.specs.steps.Lines.{IsNext, Reader}
use Rattle.hose_words.specs.steps.Reading.{ReadsOn}
use Rattle.hose_words.specs.Reading.{WhereTold}
use Rattle.hose_words.specs.Saying.{IsAllTaken, SayLines}
use Rattle.hose_words.proofs.OnReading.{WhereTold-both, WhereTold-map}
use Rattle.hose_words.proofs.Asking.{asked_before}
use Rattle.hose_words.specs.Asking.{IsAskedBefore}
use Rattle.hose_words.specs.steps.Saying.{SaysUpTo, StopsReading}
use Rattle.hose_words.specs.declared.lines.TheConstants.{INPUT_LIMIT}
use Rattle.hose_words.specs.declared.lines.Line.{Line}
use Rattle.hose_words.specs.declared.lines.LineFault.{LineFault}
use Rattle.hose_words.specs.declared.lines.LineFault.TheVariants as line_fault
use Rattle.hose_words.proofs.Saying.{flat_map-last, met_fault, rose_now, said_all, said_more, said_none, said_until, takes_line}
use Rattle.hose_talk.specs.steps.Said.{ComesOn}
use Rattle.hose_talk.specs.Talk.{AllOut, IsLeftNear, LastCut, Talk, TalksUpTo, most_ahead, talk}
use Rattle.hose_talk.specs.steps.Talk.{Exchanges, HasTalked, IsCutByReader, KeepsFault, TakesReply, TalksByReader, terms_of}
use Rattle.hose_talk.specs.steps.TalkFaults.{of_line}
use Rattle.hose_talk.specs.declared.answers.Answers.{Ghosts}
use Rattle.hose_talk.specs.declared.talking.TalkEnd.TheVariants as talk_end
use Rattle.hose_talk.specs.declared.talking.TalkFault.{TalkFault}
use Rattle.hose_talk.specs.declared.talking.TalkFault.TheVariants as talk_fault
use Rattle.hose_talk.proofs.StillReading.{IsStillReading, source_held}

-- what did not end at the limit is within it
pub within_limit : {T F : Type 0} (value : T) (fault : F) (taken : ℕ) → (◌≡◌ {A = Result T F} (Ok value) (Err fault)) ↔ (INPUT_LIMIT < taken) → taken ≤ INPUT_LIMIT
within_limit value fault taken is = let less : ¬ (INPUT_LIMIT < taken) = λ more. cc (is.1 more) in omega (arith, less)

pub one_past : (taken : ℕ) → taken ≤ INPUT_LIMIT → taken ≤ INPUT_LIMIT + 1
one_past taken below = omega (arith, below)

pub not_past : {T : Type 0} (value : T) (taken : ℕ) → taken ≤ INPUT_LIMIT → (◌≡◌ {A = Result T TalkFault} (Ok value) (Err talk_fault.TooLong)) ↔ (INPUT_LIMIT < taken)
not_past value taken below = ((λ is. absurd (cc is)), (λ more. absurd (omega (arith, below, more))))

-- no more lines are read, and what was taken ahead is left
said_near : {S L : Type 0} (source : SourceGhosts S) (Says : List L → List ℕ → L → Type 0) (start now : Reader S) (lines : List L) → length now.pending ≤ most_ahead
    → WhereTold (source.content start.source) (source.content now.source) (λ was left. SayLines Says (start.pending ++ was) lines (now.pending ++ left)) → SaysUpTo source start now Says lines IsLeftNear
said_near source Says start now lines near said = WhereTold-map (source.content start.source) (source.content now.source) _ _ said (λ was left says. (now.pending ++ left, says, ((now.pending, refl), omega (arith, near, length-append now.pending left))))

-- the reply to the last of the lines is cut off
said_cut : {S L : Type 0} (source : SourceGhosts S) (Says : List L → List ℕ → L → Type 0) (start now : Reader S) (lines : List L) → length now.pending ≤ most_ahead
    → WhereTold (source.content start.source) (source.content now.source) (λ was left.
    ((now.source ≡ start.source) × (length (now.pending ++ left) < length (start.pending ++ was))) ⊎ IsAskedBefore source now.source (start.pending ++ was) (now.pending ++ left))
    → WhereTold (source.content start.source) (source.content now.source) (λ was left. SayLines Says (start.pending ++ was) lines (now.pending ++ left)) → SaysUpTo source start now Says lines (IsCutByReader source start now)
said_cut source Says start now lines near asked said = WhereTold-map (source.content start.source) (source.content now.source) _ _ (WhereTold-both (source.content start.source) (source.content now.source) _ _ asked said)
    (λ was left both. (now.pending ++ left, both.1, (((now.pending, refl), omega (arith, near, length-append now.pending left)), both.0)))

module _ {A R S O : Type 0} (by : Ghosts A R) (source : SourceGhosts S) (sink : SinkGhosts O) where
  -- a line that was read was answered
  pub answered_line : (old new : Talk (Reader S) O A) (shown : Line) (reply : R) (puts : List ℕ → Type 0) → IsNext source old.lines new.lines (Ok (Some shown)) → ((from : by.origin) → ComesOn (by.says (by.about old.by)) (by.comes from) shown old.by new.by reply)
      → by.about new.by ≡ by.about old.by → puts (by.text (by.about new.by) reply) → TakesReply by source sink old new puts
  answered_line old new shown reply puts next answers about out = record {
    reply = reply;
    answers = λ from lines replies came.
        let more = answers from lines replies came in
        (more.0, takes_line source old.lines new.lines shown (λ bytes. by.says (by.about old.by) lines bytes more.0) next more.1, more.2);
    out = subst (λ (subject : by.subject). puts (by.text subject reply)) about out;
    asked = next.asked;
    progress = next.progress;
  }

  -- reading met a fault
  pub exchanges_read : (old : Talk (Reader S) O A) (new : Reader S) (met : LineFault) → old.lines.fault ≡ None → IsNext source old.lines new (Err met) → Exchanges by source sink old (talk new old.output old.by) (Err (of_line met))
  exchanges_read old new line_fault.Read none next = (met_fault source old.lines new line_fault.Read none next, rose_now source old.lines new none (next.read refl), refl, refl)
  exchanges_read old new line_fault.TooLong none next = (met_fault source old.lines new line_fault.TooLong none next, refl, refl)

  -- ---- line after line

  module _ (from : by.origin) where
    pub nothing_talked : (start : Talk (Reader S) O A) → by.comes from [] [] start.by → HasTalked by source sink from start start
    nothing_talked start begins = record {
      lines = [];
      replies = [];
      said = said_none (by.says (by.about start.by)) start.lines.pending (source.content start.lines.source);
      comes = begins;
      out = Grows-nil (sink.content start.output);
    }

    module _ (start now new : Talk (Reader S) O A) (about : by.about now.by ≡ by.about start.by) (talked : HasTalked by source sink from start now) (still : IsStillReading source sink start.lines now.lines start.output now.output) (goes_on : by.over now.by ≡ false) where
      abbrev Taken : (List ℕ → Type 0) → Type 0
      Taken puts = TakesReply by source sink now new puts

      abbrev Says : List by.said → List ℕ → by.said → Type 0
      Says = by.says (by.about start.by)

      abbrev text : R → List ℕ
      text = by.text (by.about start.by)

      abbrev UpTo : (List ℕ → List ℕ → List ℕ → Type 0) → (List R → Type 0) → Type 0
      UpTo = TalksUpTo (terms_of by from start.by (IsCutByReader source start.lines new.lines) (λ stops lines. SaysUpTo source start.lines new.lines Says lines stops)) new.by

      -- a line more is answered
      pub talked_more : Taken (Grows (sink.content now.output) (sink.content new.output)) → HasTalked by source sink from start new
      talked_more taken =
          let more = taken.answers from talked.lines talked.replies talked.comes in
          record {
            lines = talked.lines ++ more.0 ∷ [];
            replies = talked.replies ++ taken.reply ∷ [];
            said = said_more source Says start.lines now.lines new.lines talked.lines talked.said still.reads more.0 (λ bytes. by.says (by.about now.by) talked.lines bytes more.0) more.1 (λ bytes is. subst (λ (subject : by.subject). by.says subject talked.lines bytes more.0) about is);
            comes = more.2;
            out = subst (Grows (sink.content start.output) (sink.content new.output)) (sym (flat_map-last text talked.replies taken.reply))
                (Grows-append (sink.content start.output) (sink.content now.output) (sink.content new.output) (flat_map text talked.replies) (text taken.reply) talked.out
                (subst (λ (subject : by.subject). Grows (sink.content now.output) (sink.content new.output) (by.text subject taken.reply)) about taken.out));
          }

      -- a line more is taken, and its reply is cut off
      talked_cut : ReadsOn source now.lines new.lines → Taken (GrowsInPart (sink.content now.output) (sink.content new.output)) → length new.lines.pending ≤ most_ahead → UpTo (IsCutByReader source start.lines new.lines) (LastCut text sink start.output new.output)
      talked_cut reads taken near =
          let more = taken.answers from talked.lines talked.replies talked.comes in
          let out = subst (λ (subject : by.subject). GrowsInPart (sink.content now.output) (sink.content new.output) (by.text subject taken.reply)) about taken.out in
          record {
            lines = talked.lines ++ more.0 ∷ [];
            replies = talked.replies ++ taken.reply ∷ [];
            said = said_cut source Says start.lines new.lines _ near (asked_before source start.lines now.lines new.lines (λ bytes. by.says (by.about now.by) talked.lines bytes more.0) still.reads more.1 still.none reads.after_end taken.asked)
                (said_more source Says start.lines now.lines new.lines talked.lines talked.said still.reads more.0 (λ bytes. by.says (by.about now.by) talked.lines bytes more.0) more.1 (λ bytes is. subst (λ (subject : by.subject). by.says subject talked.lines bytes more.0) about is));
            comes = more.2;
            out = (
              talked.replies,
              taken.reply,
              refl,
              out.0,
              out.1,
              Grows-append (sink.content start.output) (sink.content now.output) (sink.content new.output) (flat_map text talked.replies) (take out.0 (text taken.reply)) talked.out out.2,
            );
          }

      -- no line more is taken
      talked_up_to : (stops : List ℕ → List ℕ → List ℕ → Type 0) → SaysUpTo source start.lines new.lines Says talked.lines stops → new.output ≡ now.output → new.by ≡ now.by → UpTo stops (AllOut text sink start.output new.output)
      talked_up_to stops said same stays = record {
        lines = talked.lines;
        replies = talked.replies;
        said = said;
        comes = subst (by.comes from talked.lines talked.replies) (sym stays) talked.comes;
        out = subst (λ (o : O). Grows (sink.content start.output) (sink.content o) (flat_map text talked.replies)) (sym same) talked.out;
      }

      held_on : ReadsOn source now.lines new.lines → new.lines.fault ≢ Some line_fault.Read → source.frame new.lines.source ≡ source.frame start.lines.source
      held_on reads unread = reads.unfailed unread ∙ source_held source sink start.lines now.lines start.output now.output still

      still_open : new.by ≡ now.by → by.over new.by ≡ false
      still_open stays = ap by.over stays ∙ goes_on

      -- reading met a fault, and nothing more is out
      until : (met : LineFault) → StopsReading source now.lines new.lines met → new.output ≡ now.output → new.by ≡ now.by → UpTo (StopsAfterLines met) (AllOut text sink start.output new.output)
      until met stops same stays = talked_up_to (StopsAfterLines met) (said_until source Says start.lines now.lines new.lines talked.lines talked.said still.reads met still.none stops) same stays

      -- a fault ends it
      pub talks_fault : (why : TalkFault) → ReadsOn source now.lines new.lines → Exchanges by source sink now new (Err why) → TalksByReader by source sink from start new (Err why)
      talks_fault talk_fault.Read reads line = ((until line_fault.Read line.0 line.2 line.3, still_open line.3), rw (source_held source sink start.lines now.lines start.output now.output still) at line.1, ap sink.frame line.2 ∙ still.held)
      talks_fault talk_fault.TooLong reads line = ((until line_fault.TooLong line.0 line.1 line.2, still_open line.2), held_on reads (λ read. cc (line.0.kept, read)), ap sink.frame line.1 ∙ still.held)
      talks_fault talk_fault.Write reads line = (talked_cut reads line.0 line.3, held_on reads (λ read. cc (line.1, read)), rw still.held at line.2)

      -- no line is left
      pub talks_all : ReadsOn source now.lines new.lines → Exchanges by source sink now new (Ok false) → TalksByReader by source sink from start new (Ok talk_end.Input)
      talks_all reads line = (
        (talked_up_to IsAllTaken (said_all source Says start.lines now.lines new.lines talked.lines talked.said still.reads line.0) line.2 line.3, still_open line.3),
        held_on reads (λ read. cc (line.1, read)),
        ap sink.frame line.2 ∙ still.held,
      )

    -- no line is answered any more
    pub talks_over : (start now : Talk (Reader S) O A) → HasTalked by source sink from start now → IsStillReading source sink start.lines now.lines start.output now.output → by.over now.by ≡ true → length now.lines.pending ≤ most_ahead → TalksByReader by source sink from start now (Ok talk_end.Over)
    talks_over start now talked still over near = (
      (
        record {
          lines = talked.lines;
          replies = talked.replies;
          said = said_near source (by.says (by.about start.by)) start.lines now.lines talked.lines near talked.said;
          comes = talked.comes;
          out = talked.out;
        },
        over,
      ),
      source_held source sink start.lines now.lines start.output now.output still,
      still.held,
    )

  -- the fault that ended it is kept
  pub keeps_fault : (start now new : Talk (Reader S) O A) → IsStillReading source sink start.lines now.lines start.output now.output → (why : TalkFault) → Exchanges by source sink now new (Err why) → KeepsFault start.lines new.lines (Err why)
  keeps_fault start now new still talk_fault.Read line = (line.0.kept, still.reads.ended line.0.before_end)
  keeps_fault start now new still talk_fault.TooLong line = (line.0.kept, still.reads.ended line.0.before_end)
  keeps_fault start now new still talk_fault.Write line = line.1
