-- What a talk comes to, in the words of who answered its lines.
use Rattle.std.proofs.Common.{◌≡◌, ◌∙◌, ℕ, Bool, List, Result, Ok, Err, sym}
use Rattle.hose_io.specs.declared.sink.Sink.{Ghosts as SinkGhosts}
use Rattle.hose_io.specs.declared.source.Source.{Ghosts as SourceGhosts}
use Rattle.hose_talk.specs.Talk.{TalksTo, TalksUpTo, Telling, Terms, talk}
use Rattle.hose_talk.specs.declared.talking.TalkEnd.{TalkEnd}
use Rattle.hose_talk.specs.declared.talking.TalkEnd.TheVariants as talk_end
use Rattle.hose_talk.specs.declared.talking.TalkFault.{TalkFault}
use Rattle.hose_talk.specs.declared.talking.TalkFault.TheVariants as talk_fault

-- What follows from the lines and from what they came to may stand in its place.
module _ {L A B R S O : Type 0} (source : SourceGhosts S) (sink : SinkGhosts O) (terms : Terms L A R) (tells : Telling L) (comes : List L → List R → B → Type 0) (over : B → Bool) (input input' : S) (output output' : O) (first last : A) (first' last' : B)
    (says : (stops : List ℕ → List ℕ → List ℕ → Type 0) (lines : List L) → terms.tells stops lines → tells stops lines) (follows : (lines : List L) (replies : List R) → terms.comes lines replies last → comes lines replies last') (same : terms.over last ≡ over last') where
  -- the same replies on other terms
  abbrev other : Terms L B R
  other = record { tells = tells; cut = terms.cut; comes = comes; over = over; text = terms.text }

  up_to : (stops : List ℕ → List ℕ → List ℕ → Type 0) (puts : List R → Type 0) → TalksUpTo terms last stops puts → TalksUpTo other last' stops puts
  up_to stops puts talks = record { lines = talks.lines; replies = talks.replies; said = says stops talks.lines talks.said; comes = follows talks.lines talks.replies talks.comes; out = talks.out }

  pub talks_as : (result : Result TalkEnd TalkFault) → TalksTo source sink terms (talk input output first) (talk input' output' last) result → TalksTo source sink other (talk input output first') (talk input' output' last') result
  talks_as (Ok talk_end.Input) talks = ((up_to _ _ talks.0.0, sym same ∙ talks.0.1), talks.1, talks.2)
  talks_as (Ok talk_end.Over) talks = ((up_to _ _ talks.0.0, sym same ∙ talks.0.1), talks.1, talks.2)
  talks_as (Err talk_fault.Read) talks = ((up_to _ _ talks.0.0, sym same ∙ talks.0.1), talks.1, talks.2)
  talks_as (Err talk_fault.TooLong) talks = ((up_to _ _ talks.0.0, sym same ∙ talks.0.1), talks.1, talks.2)
  talks_as (Err talk_fault.Write) talks = (up_to _ _ talks.0, talks.1, talks.2)
