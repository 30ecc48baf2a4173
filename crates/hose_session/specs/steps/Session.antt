-- What a session does: steps of proofs.
use Rattle.std.specs.Prelude.{◌≡◌, ℕ, ◌+◌, ◌≤◌, All, List, ◌++◌, length, Option, Some}
use Rattle.std.specs.List.{before_first}
use Rattle.hose_io.specs.Frame.{Rose}
use Rattle.hose_io.specs.Stream.{Stream}
use Rattle.hose_io.specs.declared.source.Source.{Ghosts as SourceGhosts}
use Rattle.hose_io.specs.declared.sink.Sink.{Ghosts as SinkGhosts}
use Rattle.hose_words.specs.Lines.{is_line_feed}
use Rattle.hose_words.specs.Limits.{input_limit}
use Rattle.hose_talk.specs.Talk.{IsCutNear, Telling, TellsOf}
use Rattle.hose_graph.specs.Network.{Network}
use Rattle.hose_graph.specs.declared.command.Reply.{Reply}
use Rattle.hose_law.specs.Script.{disks_in}
use Rattle.hose_law.specs.Transcript.{SessionLine}
use Rattle.hose_law.specs.Transcript.SessionLine.{Greets}
use Rattle.hose_shared.specs.steps.Along.{HasEntryAt}
use Rattle.hose_shared.specs.steps.Sharing.{IsSamePass}
use Rattle.hose_turn.specs.declared.view.Tried.{Tried}
use Rattle.hose_turn.specs.Known.{Known}
use Rattle.hose_greeting.specs.SessionLines.{SaysAfter, SaysFirst}
use Rattle.hose_session.specs.declared.ending.SessionEnd.{SessionEnd}
use Rattle.hose_session.specs.Session.{IsSession}

-- ---- what is answered

-- A session was served along a pass: it began at the place that the pass had seen, and its lines
-- were answered along the history that the pass has seen since. The session's entries are the
-- pass's own, and no others that it had not before; each was decided and costs least at its place.
-- So it is with what it tried.
-- Failures of the disk were told no more often than the pass has met faults.
pub record ServesAlong (network : Network) (tells : Telling SessionLine)
    (cut : List ℕ → List ℕ → List ℕ → Type 0) (before after : Option (List ℕ))
    (ReadFails WriteFails : Type 0) (old new : Known) (end : SessionEnd) : Type 0 where
  pub replies : List Reply
  pub own : List ℕ
  pub tries : List Tried
  pub session : IsSession network new.seen (length old.seen) tells cut before after ReadFails
      WriteFails end replies own tries
  pub entries : All (HasEntryAt network new.seen) own
  pub same : IsSamePass old new
  pub owns : new.own ≡ old.own ++ own
  pub tried : new.tried ≡ old.tried ++ tries
  pub disks : old.faults + disks_in replies ≤ new.faults

-- a session along what a pass has seen, over an input and an output
abbrev pub ServesSession : {S O : Type 0} → SourceGhosts S → SinkGhosts O → Network → S → S → O → O
    → Known → Known → SessionEnd → Type 0
ServesSession source sink network input input' output output' =
    ServesAlong network (TellsOf (SaysAfter network) (source.content input) (source.content input'))
    (IsCutNear source input') (sink.content output) (sink.content output')
    (Rose (source.frame input) (source.frame input'))
    (Rose (sink.frame output) (sink.frame output'))

-- The input is told: its first line is a greeting, and it is not too long.
abbrev pub IsGreeted : Option Stream → Type 0
IsGreeted (Some stream) = (name : List ℕ) × (length stream.left ≤ input_limit)
    × SaysFirst (before_first is_line_feed stream.left) (Greets name)
IsGreeted content = ⊥
