-- A talk over a whole input, which stands behind the borrow that its reader holds.
use Rattle.std.proofs.Common.{◌≡◌, ℕ, ◌∷◌, Bool, List, [], ◌++◌, MutBor, None, Ok, Err, Option, Result, Some, ap, arith, drop, inl, inr, length, length-append, subst}
use Rattle.std.specs.Borrow.{GName}
use Rattle.hose_io.specs.steps.Borrowed.{borrowed}
use Rattle.hose_io.specs.Frame.{Frame, Rose}
use Rattle.hose_io.specs.Stream.{Stream}
use Rattle.hose_io.specs.declared.sink.Sink.{Ghosts as SinkGhosts}
use Rattle.hose_io.specs.declared.source.Source.{Ghosts as SourceGhosts}
use Rattle.hose_words.specs.steps.Lines.{Reader}
use Rattle.hose_words.specs.Reading.{WhereTold}
use Rattle.hose_words.specs.Saying.{SayLines}
use Rattle.hose_words.specs.steps.Saying.{SaysUpTo}
use Rattle.hose_talk.specs.Talk.{IsCutNear, TalksTo, TalksUpTo, TellsOf, Terms, talk}
use Rattle.hose_talk.specs.steps.Talk.{IsCutByReader}
use Rattle.hose_talk.specs.declared.talking.TalkEnd.{TalkEnd}
use Rattle.hose_talk.specs.declared.talking.TalkEnd.TheVariants as talk_end
use Rattle.hose_talk.specs.declared.talking.TalkFault.{TalkFault}
use Rattle.hose_talk.specs.declared.talking.TalkFault.TheVariants as talk_fault

frame_behind : (frame other : Frame) (name one : GName) → record frame { loan = name ∷ frame.loan } ≡ record other { loan = one ∷ other.loan } → frame ≡ other
frame_behind frame other name one same = ap (λ (f : Frame). record { faults = f.faults; number = f.number; loan = drop 1 f.loan }) same

module _ {L A R S O : Type 0} (source : SourceGhosts S) (sink : SinkGhosts O) (Says : List L → List ℕ → L → Type 0) (text : R → List ℕ) (last : A) (comes : List L → List R → A → Type 0) (over : A → Bool) (output output' : O) where
  -- on the terms of a reader over a borrow, and on those of what is behind it
  abbrev by_reader : Reader (MutBor S) → Reader (MutBor S) → Terms L A R
  by_reader start now = record {
    tells = λ stops lines. SaysUpTo (borrowed source) start now Says lines stops;
    cut = IsCutByReader (borrowed source) start now;
    comes = comes;
    over = over;
    text = text;
  }

  abbrev by_input : S → S → Terms L A R
  by_input input input' = record {
    tells = TellsOf Says (source.content input) (source.content input');
    cut = IsCutNear source input';
    comes = comes;
    over = over;
    text = text;
  }

  -- from a start where nothing is pending, the lines are those of the input
  module _ (start now : Reader (MutBor S)) (none : start.pending ≡ []) where
    up_to : (stops : List ℕ → List ℕ → List ℕ → Type 0) (puts : List R → Type 0) → TalksUpTo (by_reader start now) last stops puts → TalksUpTo (by_input start.source.now now.source.now) last stops puts
    up_to stops puts talks = record {
      lines = talks.lines;
      replies = talks.replies;
      said = subst (λ (pending : List ℕ). WhereTold (source.content start.source.now) (source.content now.source.now) (λ was left. (rest : List ℕ) × SayLines Says (pending ++ was) talks.lines rest × stops (pending ++ was) rest left)) none talks.said;
      comes = talks.comes;
      out = talks.out;
    }

    -- where nothing was pending at first, the source was asked, as a line was taken
    cut_behind : (lines : List L) → SaysUpTo (borrowed source) start now Says lines (IsCutByReader (borrowed source) start now) → TellsOf Says (source.content start.source.now) (source.content now.source.now) (IsCutNear source now.source.now) lines
    cut_behind lines said = at (source.content start.source.now) (source.content now.source.now) (λ same. ap (λ (s : MutBor S). source.content s.now) same)
        (subst (λ (pending : List ℕ). WhereTold (source.content start.source.now) (source.content now.source.now) (λ was left. (rest : List ℕ) × SayLines Says (pending ++ was) lines rest × IsCutByReader (borrowed source) start now (pending ++ was) rest left)) none said)
      where
        asked : (was left rest : List ℕ) → (now.source ≡ start.source → left ≡ was) → IsCutByReader (borrowed source) start now was rest left → IsCutNear source now.source.now was rest left
        asked was left rest unless (near, inl (same, less)) = absurd (omega (arith, less, ap length near.0.1, length-append near.0.0 left, ap length (unless same)))
        asked was left rest unless (near, inr is) = (near, (is.0.now, is.1, is.2))

        at : (before after : Option Stream) → (now.source ≡ start.source → after ≡ before)
            → WhereTold before after (λ was left. (rest : List ℕ) × SayLines Says was lines rest × IsCutByReader (borrowed source) start now was rest left)
            → WhereTold before after (λ was left. (rest : List ℕ) × SayLines Says was lines rest × IsCutNear source now.source.now was rest left)
        at None after unless told = tt
        at (Some b) None unless told = tt
        at (Some b) (Some a) unless told = (told.0, told.1, asked b.left a.left told.0 (λ same. left_same (unless same)) told.2)
          where
            left_same : ◌≡◌ {A = Option Stream} (Some a) (Some b) → a.left ≡ b.left
            left_same same = cc same

    held : (borrowed source).frame now.source ≡ (borrowed source).frame start.source → source.frame now.source.now ≡ source.frame start.source.now
    held same = frame_behind (source.frame now.source.now) (source.frame start.source.now) now.source.ghost_name start.source.ghost_name same

    rose : Rose ((borrowed source).frame start.source) ((borrowed source).frame now.source) → Rose (source.frame start.source.now) (source.frame now.source.now)
    rose more = record { rose = more.rose }

    talks_behind : (first : A) (result : Result TalkEnd TalkFault) → TalksTo (borrowed source) sink (by_reader start now) (talk start.source output first) (talk now.source output' last) result
        → TalksTo source sink (by_input start.source.now now.source.now) (talk start.source.now output first) (talk now.source.now output' last) result
    talks_behind first (Ok talk_end.Input) talks = ((up_to _ _ talks.0.0, talks.0.1), held talks.1, talks.2)
    talks_behind first (Ok talk_end.Over) talks = ((up_to _ _ talks.0.0, talks.0.1), held talks.1, talks.2)
    talks_behind first (Err talk_fault.Read) talks = ((up_to _ _ talks.0.0, talks.0.1), rose talks.1, talks.2)
    talks_behind first (Err talk_fault.TooLong) talks = ((up_to _ _ talks.0.0, talks.0.1), held talks.1, talks.2)
    talks_behind first (Err talk_fault.Write) talks = (record { lines = talks.0.lines; replies = talks.0.replies; said = cut_behind talks.0.lines talks.0.said; comes = talks.0.comes; out = talks.0.out }, held talks.1, talks.2)

  -- what a reader over a borrow comes to is what is told of the input behind it
  pub talks_by_input : (start now : Reader (MutBor S)) (input input' : S) → start.pending ≡ [] → start.source.now ≡ input → now.source.now ≡ input' → (first : A) (result : Result TalkEnd TalkFault)
      → TalksTo (borrowed source) sink (by_reader start now) (talk start.source output first) (talk now.source output' last) result → TalksTo source sink (by_input input input') (talk input output first) (talk input' output' last) result
  talks_by_input start now input input' none begun ended first result talks =
      subst (λ (behind : S). TalksTo source sink (by_input input behind) (talk input output first) (talk behind output' last) result) ended
      (subst (λ (behind : S). TalksTo source sink (by_input behind now.source.now) (talk behind output first) (talk now.source.now output' last) result) begun (talks_behind start now none first result talks))
