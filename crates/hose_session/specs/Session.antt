-- What a session does.
use Rattle.std.specs.Prelude.{◌≡◌, ◌⊎◌, ℕ, ◌≤◌, All, List, [], ◌∷◌, ◌++◌, length, Option, ⊤}
use mathlib.Core.List.{IsPrefix}
use Rattle.hose_io.specs.Stream.{Grows}
use Rattle.hose_words.specs.Lines.{StopsAfterLines}
use Rattle.hose_words.specs.Saying.{IsAllTaken}
use Rattle.hose_words.specs.declared.lines.LineFault.TheVariants as line_fault
pub use Rattle.hose_talk.specs.Talk.{IsLeftNear, Telling, TellsOf}
use Rattle.hose_graph.specs.Network.{Network}
use Rattle.hose_graph.specs.declared.entry.Entry.{Entry}
use Rattle.hose_graph.specs.declared.command.Command.{Command}
use Rattle.hose_graph.specs.declared.command.Reply.{Reply}
use Rattle.hose_law.specs.Quotes.{Holding}
use Rattle.hose_law.specs.Transcript.{IsTranscript, SessionLine, Stage, session_state}
use Rattle.hose_law.specs.Transcript.SessionLine.{Asks}
use Rattle.hose_law.specs.Transcript.Stage.{Left, Refused, Serving, Waiting}
use Rattle.hose_proto.specs.Replies.{CutsLast, texts_of}
use Rattle.hose_turn.specs.declared.view.Tried.{Tried}
use Rattle.hose_shared.specs.Trying.{IsTriedBy}
use Rattle.hose_session.specs.declared.ending.SessionEnd.{SessionEnd}
use Rattle.hose_session.specs.declared.ending.SessionEnd.TheVariants as session_end

-- ---- how far a session is at its end

-- no line has come
abbrev pub IsWaiting : Stage → Type 0
IsWaiting stage = stage ≡ Waiting

-- a customer was greeted, and did not leave
abbrev pub IsServing : Stage → Type 0
IsServing (Serving customer held) = ⊤
IsServing stage = ⊥

-- its first line was no greeting
abbrev pub WasRefused : Stage → Type 0
WasRefused stage = stage ≡ Refused

-- its customer left
abbrev pub WasLeft : Stage → Type 0
WasLeft stage = stage ≡ Left

-- another line may come
abbrev pub MayGoOn : Stage → Type 0
MayGoOn stage = IsWaiting stage ⊎ IsServing stage

-- ---- what is answered

-- A line of a session along a history from a place on asked for what was tried: the lines before it
-- and their replies lead to where the session serves a customer, the line is a command, and its
-- reply is that of a step, at a place of the history which is not before that, by what the customer
-- holds then.
pub record IsAskedIn (network : Network) (history : List Entry) (from : ℕ)
    (lines : List SessionLine) (replies : List Reply) (one : Tried) : Type 0 where
  pub first : List SessionLine
  pub told : List Reply
  pub customer : List ℕ
  pub held : Holding
  pub last : ℕ
  pub own : List ℕ
  pub transcript : IsTranscript network 0 history from first told
      (session_state (Serving customer held) last own)
  pub command : Command
  pub reply : Reply
  pub line : IsPrefix (first ++ Asks command ∷ []) lines
  pub answer : IsPrefix (told ++ reply ∷ []) replies
  pub before : List Entry
  pub begins : IsPrefix before history
  pub later : last ≤ length before
  pub asked : IsTriedBy network before customer held command reply one

-- Lines were answered along a history from a place on, as far as `stops` and `ends` say. `puts`
-- says how much is out of the replies. The lines asked for what was tried.
pub record AnswersUpTo (network : Network) (history : List Entry) (from : ℕ)
    (tells : Telling SessionLine) (stops : List ℕ → List ℕ → List ℕ → Type 0)
    (ends : Stage → Type 0) (puts : List Reply → Type 0) (replies : List Reply) (own : List ℕ)
    (tries : List Tried) : Type 0 where
  pub lines : List SessionLine
  pub stage : Stage
  pub last : ℕ
  pub said : tells stops lines
  pub transcript : IsTranscript network 0 history from lines replies (session_state stage last own)
  pub ended : ends stage
  pub out : puts replies
  pub asked : All (IsAskedIn network history from lines replies) tries

module _ (network : Network) (history : List Entry) (from : ℕ) (tells : Telling SessionLine)
    (cut : List ℕ → List ℕ → List ℕ → Type 0) (before after : Option (List ℕ))
    (ReadFails WriteFails : Type 0) where
  -- all replies are out
  abbrev pub AllRepliesOut : List Reply → Type 0
  AllRepliesOut replies = Grows before after (texts_of network replies)

  -- A session along a history from a place on ended so, with these replies, these places of its
  -- own entries, and what it tried beside. All lines were answered that came up to the end of the
  -- input; or up to the first `bye`; or up to a fault of the input, but for a part of a line; or
  -- the first line, if there is one, is no greeting. Where the output failed, some first lines
  -- were answered, as far as `cut` says, and the last reply is not out whole.
  abbrev pub IsSession : SessionEnd → List Reply → List ℕ → List Tried → Type 0
  IsSession session_end.End =
      AnswersUpTo network history from tells IsAllTaken IsServing AllRepliesOut
  IsSession session_end.Bye =
      AnswersUpTo network history from tells IsLeftNear WasLeft AllRepliesOut
  IsSession session_end.NoHello = λ replies own tries.
      AnswersUpTo network history from tells IsLeftNear WasRefused AllRepliesOut replies own tries
      ⊎ AnswersUpTo network history from tells IsAllTaken IsWaiting AllRepliesOut replies own tries
  IsSession session_end.Read = λ replies own tries.
      AnswersUpTo network history from tells (StopsAfterLines line_fault.Read) MayGoOn AllRepliesOut
      replies own tries × ReadFails
  IsSession session_end.TooLong =
      AnswersUpTo network history from tells (StopsAfterLines line_fault.TooLong) MayGoOn
      AllRepliesOut
  IsSession session_end.Write = λ replies own tries.
      AnswersUpTo network history from tells cut (λ stage. ⊤)
      (CutsLast network before after) replies own tries × WriteFails
