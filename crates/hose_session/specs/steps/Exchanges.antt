-- Exchanges: a line of a session and its reply, one after another.
use Rattle.std.specs.Prelude.{◌≡◌, ℕ, ◌+◌, ◌≤◌, All, List, ◌++◌, length, Option}
use mathlib.Core.List.{IsPrefix}
use Rattle.hose_words.specs.declared.lines.Line.{Line}
use Rattle.hose_graph.specs.Network.{Network}
use Rattle.hose_graph.specs.declared.command.Command.{Command}
use Rattle.hose_graph.specs.declared.command.Reply.{Reply}
use Rattle.hose_graph.specs.declared.entry.Entry.{Entry}
use Rattle.hose_law.specs.Quotes.{Holding, none_held}
use Rattle.hose_law.specs.Script.{disks_in, one_if_disk}
use Rattle.hose_law.specs.Transcript.{IsSessionStep, IsTranscript, SessionLine, Stage, session_state}
use Rattle.hose_law.specs.Transcript.SessionLine.{Asks}
use Rattle.hose_law.specs.Transcript.Stage.{Left, Refused, Serving, Waiting}
use Rattle.hose_core.specs.declared.quotes.Quote.{Quote}
use Rattle.hose_core.specs.steps.Holding.{AreHeld}
use Rattle.hose_shared.specs.Trying.{IsTriedBy}
use Rattle.hose_shared.specs.steps.Along.{HasEntryAt}
use Rattle.hose_shared.specs.steps.Sharing.{IsPassOf, IsSamePass, SharedBook}
use Rattle.hose_turn.specs.declared.view.Tried.{Tried}
use Rattle.hose_turn.specs.Known.{Known}
use Rattle.hose_greeting.specs.SessionLines.{SaysFirst, SaysLater}
use Rattle.hose_greeting.specs.steps.Shown.{ShownSays}
use Rattle.hose_session.specs.Session.{IsAskedIn}
use Rattle.hose_session.specs.declared.phase.Phase.{Phase}
use Rattle.hose_session.specs.declared.phase.Phase.TheVariants as phase

-- A line at a stage asked for what was tried: it is a command of the customer who is served then,
-- and its reply is that of a step at a place of the history, from this one on.
pub record IsAskedAt (network : Network) (history : List Entry) (from : ℕ) (stage : Stage)
    (said : SessionLine) (reply : Reply) (one : Tried) : Type 0 where
  pub customer : List ℕ
  pub held : Holding
  pub command : Command
  pub serves : stage ≡ Serving customer held
  pub asks : said ≡ Asks command
  pub before : List Entry
  pub begins : IsPrefix before history
  pub later : from ≤ length before
  pub asked : IsTriedBy network before customer held command reply one

-- An exchange: a line was answered while a pass went on, from each place that it had seen, at one
-- that it has seen then.
pub record IsExchange (network : Network) (old new : Known) (stage : Stage) (said : SessionLine)
    (reply : Reply) (next : Stage) : Type 0 where
  pub added : List ℕ
  pub step : (from : ℕ) → from ≤ length old.seen → (after : ℕ) × (after ≤ length new.seen)
      × IsSessionStep network 0 new.seen stage said reply next from after added
  pub entries : All (HasEntryAt network new.seen) added
  pub same : IsSamePass old new
  pub own : new.own ≡ old.own ++ added
  pub tries : List Tried
  pub tried : new.tried ≡ old.tried ++ tries
  pub asked : All (IsAskedAt network new.seen (length old.seen) stage said reply) tries
  pub faults : old.faults + one_if_disk reply ≤ new.faults

-- A line of a customer who holds this was answered, and the customer is served on, with these
-- quotes.
pub record ServesOn (network : Network) (old new : Known) (customer : List ℕ) (held : Holding)
    (said : SessionLine) (reply : Reply) (quotes : List (Option Quote)) : Type 0 where
  pub left : Holding
  pub exchange : IsExchange network old new (Serving customer held) said reply
      (Serving customer left)
  pub holds : AreHeld network 0 new.seen left quotes

-- ---- how far a session is

-- how far a session is: the pass along which it went, its phase, and its customer's quotes
pub record Progress : Type 0 where
  pub pass : Known
  pub phase : Phase
  pub quotes : List (Option Quote)

-- A phase is so far at a history: its customer's quotes are those that it holds, and before a
-- greeting there are none.
abbrev pub IsPhaseAt : Network → List Entry → Phase → List (Option Quote) → Stage → Type 0
IsPhaseAt network history phase.Waiting quotes stage = (stage ≡ Waiting) × (quotes ≡ none_held)
IsPhaseAt network history (phase.Serving customer) quotes stage = (held : Holding)
    × (stage ≡ Serving customer held) × AreHeld network 0 history held quotes
IsPhaseAt network history phase.Refused quotes stage = stage ≡ Refused
IsPhaseAt network history phase.Left quotes stage = stage ≡ Left

-- a session is so far at what its pass has seen
abbrev pub IsAt : Network → Progress → Stage → Type 0
IsAt network progress stage =
    IsPhaseAt network progress.pass.seen progress.phase progress.quotes stage

-- what a line may say at a stage
abbrev pub SaysAt : Network → Stage → List ℕ → SessionLine → Type 0
SaysAt network Waiting bytes said = SaysFirst bytes said
SaysAt network (Serving customer held) bytes said = SaysLater network bytes said
SaysAt network Refused bytes said = ⊥
SaysAt network Left bytes said = ⊥

-- a line was answered at a stage while a pass went on, and the session is so far then
pub record AnswersAt (network : Network) (old : Known) (new : Progress) (stage : Stage)
    (line : Line) (reply : Reply) : Type 0 where
  pub said : SessionLine
  pub next : Stage
  pub says : ShownSays (SaysAt network stage) line said
  pub exchange : IsExchange network old new.pass stage said reply next
  pub at : IsAt network new next

-- it can be served: its pass is one of the shared book, and it is at a stage
abbrev pub CanBeServed : SharedBook → Progress → Type 0
CanBeServed shared progress =
    IsPassOf shared progress.pass × (stage : Stage) × IsAt shared.network progress stage

-- ---- from the start on

-- Lines were answered while a pass went on: the transcript along all that it has seen then.
pub record GoesAlong (network : Network) (old new : Known) (lines : List SessionLine)
    (replies : List Reply) (stage : Stage) (own : List ℕ) (tries : List Tried) : Type 0 where
  pub last : ℕ
  pub transcript : IsTranscript network 0 new.seen (length old.seen) lines replies
      (session_state stage last own)
  pub reached : last ≤ length new.seen
  pub entries : All (HasEntryAt network new.seen) own
  pub same : IsSamePass old new
  pub owns : new.own ≡ old.own ++ own
  pub tried : new.tried ≡ old.tried ++ tries
  pub asked : All (IsAskedIn network new.seen (length old.seen) lines replies) tries
  pub disks : old.faults + disks_in replies ≤ new.faults

-- what the lines of a session that is so far and their replies have come to
pub record ComesAlong (network : Network) (first : Known) (progress : Progress)
    (lines : List SessionLine) (replies : List Reply) : Type 0 where
  pub stage : Stage
  pub own : List ℕ
  pub tries : List Tried
  pub along : GoesAlong network first progress.pass lines replies stage own tries
  pub at : IsAt network progress stage
