-- A session in other words, at a longer history, and to its end.
use Rattle.std.proofs.Common.{◌≡◌, ◌⊎◌, inl, inr, ℕ, ◌<◌, List, [], ◌∷◌, ◌++◌, length, codes, Option, None, Some, refl, sym, ap, subst, ◌∙◌, arith, append-nil, length-append}
use Rattle.std.proofs.lemmas.List.Elements.{All-weaker}
use Rattle.std.specs.List.{before_first}
use mathlib.Core.List.{IsPrefix}
use Rattle.hose_io.specs.Stream.{Gives, Stream}
use Rattle.hose_words.specs.Words.{words_of}
use Rattle.hose_words.specs.Lines.{is_line_feed}
use Rattle.hose_words.specs.Saying.{SayLines, no_line, one_more}
use Rattle.hose_words.specs.declared.lines.TheConstants.{INPUT_LIMIT}
use Rattle.hose_graph.specs.Name.{IsName}
use Rattle.hose_graph.specs.Network.{Network}
use Rattle.hose_graph.specs.declared.entry.Entry.{Entry}
use Rattle.hose_graph.specs.declared.command.Reply.{Reply}
use Rattle.hose_law.specs.Transcript.{SessionLine, Stage, session_state}
use Rattle.hose_law.specs.Transcript.SessionLine.{Greets, Asks, Leaves, IsBad, IsLong, Unread}
use Rattle.hose_law.proofs.Transcripts.{transcript_longer}
use Rattle.hose_turn.specs.declared.view.Tried.{Tried}
use Rattle.hose_turn.specs.Known.{Known}
use Rattle.hose_session.specs.Session.{AnswersUpTo, IsAskedIn, IsSession}
use Rattle.hose_session.specs.steps.Session.{IsGreeted, ServesAlong}
use Rattle.hose_talk.specs.Talk.{Telling, TellsOf}
use Rattle.hose_greeting.specs.SessionLines.{SaysAfter, SaysFirst}
use Rattle.hose_greeting.proofs.Greetings.{greeting_not_wrong}
use Rattle.hose_session.specs.declared.ending.SessionEnd.{SessionEnd}
use Rattle.hose_session.specs.declared.ending.SessionEnd.TheVariants as session_end
use Rattle.hose_session.proofs.Conversing.{BeginSo, IsGreets, asked_longer, begins_so}

-- ---- in other words, and at a longer history

module _ (network : Network) (history longer : List Entry) (prefix : IsPrefix history longer) (from : ℕ) (tells other : Telling SessionLine) (moved : (stops : List ℕ → List ℕ → List ℕ → Type 0) (lines : List SessionLine) → tells stops lines → other stops lines) where
  answers_moved : (stops its : List ℕ → List ℕ → List ℕ → Type 0) → ((lines : List SessionLine) → tells stops lines → other its lines) → (ends : Stage → Type 0) (puts : List Reply → Type 0) (replies : List Reply) (own : List ℕ) (tries : List Tried) → AnswersUpTo network history from tells stops ends puts replies own tries
      → AnswersUpTo network longer from other its ends puts replies own tries
  answers_moved stops its says ends puts replies own tries answers = record {
    lines = answers.lines;
    stage = answers.stage;
    last = answers.last;
    said = says answers.lines answers.said;
    transcript = transcript_longer network 0 history longer prefix from answers.lines replies (session_state answers.stage answers.last own) answers.transcript;
    ended = answers.ended;
    out = answers.out;
    asked = All-weaker (IsAskedIn network history from answers.lines replies) (IsAskedIn network longer from answers.lines replies)
        (asked_longer network history longer prefix from answers.lines answers.lines replies replies ([], append-nil answers.lines) ([], append-nil replies)) tries answers.asked;
  }

  pub session_moved : (cut its : List ℕ → List ℕ → List ℕ → Type 0) → ((lines : List SessionLine) → tells cut lines → other its lines) → (before after : Option (List ℕ)) (R R' W W' : Type 0) → (R → R') → (W → W') → (end : SessionEnd) (replies : List Reply) (own : List ℕ) (tries : List Tried) → IsSession network history from tells cut before after R W end replies own tries
      → IsSession network longer from other its before after R' W' end replies own tries
  session_moved cut its cuts before after R R' W W' read wrote session_end.End replies own tries is = answers_moved _ _ (moved _) _ _ replies own tries is
  session_moved cut its cuts before after R R' W W' read wrote session_end.Bye replies own tries is = answers_moved _ _ (moved _) _ _ replies own tries is
  session_moved cut its cuts before after R R' W W' read wrote session_end.NoHello replies own tries (inl is) = inl (answers_moved _ _ (moved _) _ _ replies own tries is)
  session_moved cut its cuts before after R R' W W' read wrote session_end.NoHello replies own tries (inr is) = inr (answers_moved _ _ (moved _) _ _ replies own tries is)
  session_moved cut its cuts before after R R' W W' read wrote session_end.Read replies own tries is = (answers_moved _ _ (moved _) _ _ replies own tries is.0, read is.1)
  session_moved cut its cuts before after R R' W W' read wrote session_end.TooLong replies own tries is = answers_moved _ _ (moved _) _ _ replies own tries is
  session_moved cut its cuts before after R R' W W' read wrote session_end.Write replies own tries is = (answers_moved _ _ cuts _ _ replies own tries is.0, wrote is.1)

-- ---- a greeting is not refused

module _ (network : Network) where
  said_nothing : {text rest : List ℕ} {lines : List SessionLine} → SayLines (SaysAfter network) text lines rest → lines ≡ [] → rest ≡ text
  said_nothing no_line none = refl
  said_nothing (one_more {lines = lines} line before some says) none = absurd (omega (arith, ap length none, length-append lines (line ∷ [])))

  sole_line : {text rest : List ℕ} {lines : List SessionLine} → SayLines (SaysAfter network) text lines rest → (sole : SessionLine) → lines ≡ sole ∷ [] → SaysFirst (before_first is_line_feed text) sole
  sole_line no_line sole same = absurd (cc same)
  sole_line {text} (one_more {rest = rest} {lines = lines} line before some says) sole same = at lines rest before says same
    where
      at : (lines : List SessionLine) (rest : List ℕ) → SayLines (SaysAfter network) text lines rest → SaysAfter network lines (before_first is_line_feed rest) line → lines ++ line ∷ [] ≡ sole ∷ [] → SaysFirst (before_first is_line_feed text) sole
      at [] rest before says same = subst (SaysFirst (before_first is_line_feed text)) (cc same) (subst (λ (t : List ℕ). SaysFirst (before_first is_line_feed t) line) (said_nothing before refl) says)
      at (one ∷ more) rest before says same = absurd (omega (arith, ap length same, length-append more (line ∷ [])))

-- a line that is a greeting says nothing else
greeting_alone : (bytes name : List ℕ) (line : SessionLine) → SaysFirst bytes (Greets name) → SaysFirst bytes line → IsGreets line
greeting_alone bytes name (Greets other) greets says = tt
greeting_alone bytes name (Asks command) greets says = absurd says
greeting_alone bytes name Leaves greets says = absurd says
greeting_alone bytes name Unread greets says = absurd says
greeting_alone bytes name IsLong greets says = absurd (omega (arith, greets.0, says))
greeting_alone bytes name (IsBad word) greets says = absurd (greeting_not_wrong IsName name (words_of bytes) word greets.1 says.1)

-- a session whose input begins with a greeting is served to its end, where nothing fails
pub session_complete : (network : Network) (was now : Option Stream) (cut : List ℕ → List ℕ → List ℕ → Type 0) (bytes : List ℕ) (before after : Option (List ℕ)) (R W : Type 0) (old new : Known) (end : SessionEnd) → Gives was now bytes → (end ≡ session_end.TooLong → INPUT_LIMIT < length bytes)
    → ServesAlong network (TellsOf (SaysAfter network) was now) cut before after R W old new end → IsGreeted was → ¬ R → ¬ W → (end ≡ session_end.End) ⊎ (end ≡ session_end.Bye)
session_complete network None now cut bytes before after R W old new end gives too_long serves greeted no_read no_write = absurd greeted
session_complete network (Some was) None cut bytes before after R W old new end gives too_long serves greeted no_read no_write = absurd gives
session_complete network (Some was) (Some now) cut bytes before after R W old new end gives too_long serves greeted no_read no_write = at end too_long serves.session
  where
    text : List ℕ
    text = was.left

    at : (end : SessionEnd) → (end ≡ session_end.TooLong → INPUT_LIMIT < length bytes) → IsSession network new.seen (length old.seen) (TellsOf (SaysAfter network) (Some was) (Some now)) cut before after R W end serves.replies serves.own serves.tries
        → (end ≡ session_end.End) ⊎ (end ≡ session_end.Bye)
    at session_end.End too_long is = inl refl
    at session_end.Bye too_long is = inr refl
    at session_end.Read too_long is = absurd (no_read is.1)
    at session_end.Write too_long is = absurd (no_write is.1)
    at session_end.TooLong too_long is = absurd (omega (arith, too_long refl, greeted.1, ap length gives.left, length-append bytes now.left))
    at session_end.NoHello too_long (inl is) =
        let begun = subst (BeginSo is.lines) is.ended (begins_so network new.seen (length old.seen) is.lines serves.replies (session_state is.stage is.last serves.own) is.transcript) in
        absurd (begun.2 (greeting_alone (before_first is_line_feed text) greeted.0 begun.0 greeted.2 (sole_line network is.said.1 begun.0 begun.1)))
    at session_end.NoHello too_long (inr is) =
        let none = subst (BeginSo is.lines) is.ended (begins_so network new.seen (length old.seen) is.lines serves.replies (session_state is.stage is.last serves.own) is.transcript) in
        let empty : [] ≡ text = sym is.said.2.0 ∙ said_nothing network is.said.1 none in
        absurd (cc (subst (λ (t : List ℕ). words_of (before_first is_line_feed t) ≡ codes "hello" ∷ greeted.0 ∷ []) (sym empty) greeted.2.1.are))
