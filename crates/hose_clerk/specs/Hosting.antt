-- What a host answers to the lines of all its connections, in their order: one history, and a
-- session for each connection.
use Rattle.std.specs.Prelude.{◌≡◌, ◌≢◌, ◌⊎◌, ℕ, ◌+◌, ◌-◌, ◌^◌, ◌==◌, ◌≤◌, Bool, true, false, if◌then◌else◌, List, [], ◌∷◌, ◌++◌, length, slice_get, take, Option, None, Some}
use Rattle.hose_net.specs.Story.{Exchange, Link}
use Rattle.hose_graph.specs.Limits.{operator}
use Rattle.hose_graph.specs.Network.{Network}
use Rattle.hose_graph.specs.declared.command.Command.{Command}
use Rattle.hose_graph.specs.declared.command.Reply.{Reply}
use Rattle.hose_graph.specs.declared.command.Reply.TheVariants.{Denied, Welcome}
use Rattle.hose_graph.specs.declared.entry.Entry.{Entry}
use Rattle.hose_law.specs.Answer.{IsStep, IsStepOf}
use Rattle.hose_law.specs.Book.{Book}
use Rattle.hose_law.specs.History.{IsDecidedAt, book_of}
use Rattle.hose_law.specs.Quotes.{Holding, none_held}
use Rattle.hose_law.specs.Script.{one_if_disk}
use Rattle.hose_law.specs.Transcript.{IsPlainReply, SessionLine, Stage, stage_after}
use Rattle.hose_law.specs.Transcript.SessionLine.{Greets, Asks}
use Rattle.hose_law.specs.Transcript.Stage.{Left, Refused, Serving, Waiting}
use Rattle.hose_lead.specs.Leading.{AnswersBehind, Leads, TellsAhead}
use Rattle.hose_clerk.specs.HostLines.{HostLine}
use Rattle.hose_clerk.specs.HostLines.HostLine.{Counts, Ends, Speaks}
use Rattle.hose_clerk.specs.Tally.{no_tally, tally_with}
use Rattle.hose_clerk.specs.declared.tally.Tally.{Tally}
use Rattle.hose_clerk.specs.declared.replies.HostReply.{HostReply}
use Rattle.hose_clerk.specs.declared.replies.HostReply.TheVariants as reply

-- where a host is: the history, how far each connection is by its place, whether no line is
-- answered any more, and what was answered, counted by reply
pub record HostState : Type 0 where
  pub history : List Entry
  pub stages : ℕ → Stage
  pub ended : Bool
  pub tally : Tally

-- where a host begins: at a history, with no one there and nothing answered
abbrev pub host_from : List Entry → HostState
host_from since = record {
  history = since;
  stages = λ place. Left;
  ended = false;
  tally = no_tally;
}

-- ---- one line

-- A line of a session that is so far is answered at a history: the history and the session then.
abbrev pub IsSessionAnswer : Network → List Entry → Stage → SessionLine → Reply → List Entry
    → Stage → Type 0
IsSessionAnswer network history Waiting (Greets customer) reply next after =
    (reply ≡ Welcome (length history)) × (next ≡ history) × (after ≡ Serving customer none_held)
IsSessionAnswer network history (Serving customer held) (Asks command) reply next after =
    (left : Holding) × IsStep network 0 history customer held command reply next left
    × (after ≡ Serving customer left)
IsSessionAnswer network history Refused line reply next after = ⊥
IsSessionAnswer network history Left line reply next after = ⊥
IsSessionAnswer network history stage line reply next after =
    IsPlainReply line reply × (next ≡ history) × (after ≡ stage_after stage line)

-- the reply to `end` of a customer at an epoch: for the operator alone the host ends
abbrev pub IsEndReply : ℕ → List ℕ → HostReply → Type 0
IsEndReply epoch customer (reply.Told told) = (customer ≢ operator) × (told ≡ Denied epoch)
IsEndReply epoch customer (reply.Ending at) = (customer ≡ operator) × (at ≡ epoch)
IsEndReply epoch customer (reply.Figures figures) = ⊥

-- the reply to `figures` of a customer at an epoch: to the operator alone it is told how many lines
-- before were answered with which reply
abbrev pub IsCountReply : Tally → ℕ → List ℕ → HostReply → Type 0
IsCountReply tally epoch customer (reply.Told told) =
    (customer ≢ operator) × (told ≡ Denied epoch)
IsCountReply tally epoch customer (reply.Ending at) = ⊥
IsCountReply tally epoch customer (reply.Figures figures) =
    (customer ≡ operator) × (figures.tally ≡ tally) × (figures.at ≡ epoch)

-- a line of a customer that a session serves is answered by such a reply, and nothing changes
abbrev pub IsOwnAnswer : (ℕ → List ℕ → HostReply → Type 0) → List Entry → Stage → HostReply
    → List Entry → Stage → Type 0
IsOwnAnswer Is history (Serving customer held) told next after =
    Is (length history) customer told × (next ≡ history) × (after ≡ Serving customer held)
IsOwnAnswer Is history stage told next after = ⊥

-- A line is answered at a history, after so many other ones, and who gave it is so far before it
-- and then.
abbrev pub IsHostAnswer : Network → Tally → List Entry → Stage → HostLine → HostReply → List Entry
    → Stage → Type 0
IsHostAnswer network tally history stage (Speaks line) (reply.Told told) next after =
    IsSessionAnswer network history stage line told next after
IsHostAnswer network tally history stage (Speaks line) (reply.Ending at) next after = ⊥
IsHostAnswer network tally history stage (Speaks line) (reply.Figures figures) next after = ⊥
IsHostAnswer network tally history stage Ends told next after =
    IsOwnAnswer IsEndReply history stage told next after
IsHostAnswer network tally history stage Counts told next after =
    IsOwnAnswer (IsCountReply tally) history stage told next after

-- how far who gives a line is before it: with the first line of a connection a session begins
abbrev pub stage_before : Bool → Stage → Stage
stage_before true stage = Waiting
stage_before false stage = stage

-- stages by places, with this one at a place
abbrev pub with_stage : (ℕ → Stage) → ℕ → Stage → ℕ → Stage
with_stage stages place stage = λ other. if place == other then stage else stages other

-- no line is answered after this reply
abbrev pub ends_host : HostReply → Bool
ends_host (reply.Told told) = false
ends_host (reply.Ending at) = true
ends_host (reply.Figures figures) = false

-- how much has to be heard of a standby before a reply is sent that is given where a host is: where
-- no reply is told without one, an answer behind each line until then; else the entries that stand
abbrev pub needed : Bool → HostState → ℕ
needed true state = state.tally.lines
needed false state = length state.history

-- A line is answered where a host is, whose standby is required or not: the reply is right at the
-- history, the connection alone that gave it goes on, the reply is counted, and it needs what it is
-- to need.
pub record IsHostStep (network : Network) (required : Bool) (exchange : Exchange HostLine HostReply)
    (old new : HostState) : Type 0 where
  pub goes_on : old.ended ≡ false
  pub after : Stage
  pub answer : IsHostAnswer network old.tally old.history
      (stage_before exchange.first (old.stages exchange.place)) exchange.said exchange.reply
      new.history after
  pub stages : new.stages ≡ with_stage old.stages exchange.place after
  pub ended : new.ended ≡ ends_host exchange.reply
  pub tally : new.tally ≡ tally_with exchange.reply old.tally
  pub needs : exchange.needs ≡ needed required new

-- ---- all lines

-- lines are answered one after the other, and lead a host from here to there
abbrev pub AreHostSteps : Network → Bool → List (Exchange HostLine HostReply) → HostState
    → HostState → Type 0
AreHostSteps network required [] first last = last ≡ first
AreHostSteps network required (exchange ∷ exchanges) first last = (next : HostState)
    × IsHostStep network required exchange first next
    × AreHostSteps network required exchanges next last

-- An exchange asks for an entry where a host is: its line is a command of the customer whom its
-- connection is served as, and its reply is that of a step by what is held there, whose answer has
-- the entry.
pub record IsAskedAt (network : Network) (state : HostState)
    (exchange : Exchange HostLine HostReply) (entry : Entry) : Type 0 where
  pub customer : List ℕ
  pub held : Holding
  pub command : Command
  pub told : Reply
  pub later : exchange.first ≡ false
  pub serves : state.stages exchange.place ≡ Serving customer held
  pub asks : exchange.said ≡ Speaks (Asks command)
  pub tells : exchange.reply ≡ reply.Told told
  pub next : List Entry
  pub after : Holding
  pub step : IsStepOf network 0 state.history customer held command told (Some entry) next after

-- The entry is decided at the book, and one of the exchanges asks for it: those before it lead a
-- host, from this history on, to where the history is that of the book.
pub record IsAskedOf (required : Bool) (since : List Entry)
    (exchanges : List (Exchange HostLine HostReply)) (network : Network) (book : Book)
    (entry : Entry) : Type 0 where
  pub decided : IsDecidedAt network book entry
  pub place : ℕ
  pub exchange : Exchange HostLine HostReply
  pub there : slice_get exchanges place ≡ Some exchange
  pub state : HostState
  pub before : AreHostSteps network required (take place exchanges) (host_from since) state
  pub is_book : book_of 0 state.history ≡ book
  pub asks : IsAskedAt network state exchange entry

-- how many failures of a disk a reply tells
abbrev pub disks_told : HostReply → ℕ
disks_told (reply.Told told) = one_if_disk told
disks_told (reply.Ending at) = 0
disks_told (reply.Figures figures) = 0

-- how many failures of a disk the replies of exchanges tell
abbrev pub disks_of : List (Exchange HostLine HostReply) → ℕ
disks_of [] = 0
disks_of (exchange ∷ exchanges) = disks_of exchanges + disks_told exchange.reply

-- Failures of a disk were told at most as often as a count rose, or it stands at its type's end.
abbrev pub TellsDisks : ℕ → List (Exchange HostLine HostReply) → ℕ → Type 0
TellsDisks before exchanges after =
    (before + disks_of exchanges ≤ after) ⊎ (2 ^ 64 - 1 ≤ after)

-- ---- the link to a standby

-- Lines lead a host, from this history on, to where by what the link to its standby gave and was
-- sent the standby is heard to have so many of the history's entries.
abbrev pub LeadsAt : Network → Bool → List Entry → List (Exchange HostLine HostReply) → Link
    → Option ℕ → Type 0
LeadsAt network required since exchanges link heard = (state : HostState)
    × AreHostSteps network required exchanges (host_from since) state
    × Leads network state.history link.given link.sent heard

-- The same of a standby that is required, where so many lines were answered at a moment: it is
-- heard to have every entry that stood then, and gave an answer to a packet that it was sent behind
-- what it was sent until then.
pub record IsHeardBehind (network : Network) (since : List Entry)
    (exchanges : List (Exchange HostLine HostReply)) (link : Link) (many : ℕ) : Type 0 where
  pub earlier : List (Exchange HostLine HostReply)
  pub later : List (Exchange HostLine HostReply)
  pub split : exchanges ≡ earlier ++ later
  pub past : HostState
  pub state : HostState
  pub before : AreHostSteps network true earlier (host_from since) past
  pub after : AreHostSteps network true later past state
  pub count : ℕ
  pub leads : Leads network state.history link.given link.sent (Some count)
  pub lines : past.tally.lines ≡ many
  pub had : length past.history ≤ count
  pub behind : AnswersBehind network past.history link.given (link.early (length earlier))

-- So much is heard of a standby by a link, which leads it: how many entries it has, or, where it is
-- required, its answer behind how many lines.
abbrev pub LeadsBy : Network → Bool → List Entry → List (Exchange HostLine HostReply) → Link
    → Option ℕ → Type 0
LeadsBy network false since exchanges link heard =
    LeadsAt network false since exchanges link heard
LeadsBy network true since exchanges link None = LeadsAt network true since exchanges link None
LeadsBy network true since exchanges link (Some many) =
    IsHeardBehind network since exchanges link many

-- and where the standby told that it has so many entries, more than the history
abbrev pub IsAheadBy : Network → Bool → List Entry → List (Exchange HostLine HostReply) → Link → ℕ
    → Type 0
IsAheadBy network required since exchanges link count = (state : HostState)
    × AreHostSteps network required exchanges (host_from since) state
    × TellsAhead state.history link.given count
