-- Connections that ended, and the pass along which they were served.
use Rattle.std.specs.Prelude.{◌≡◌, ◌↔◌, ℕ, ◌+◌, ◌<◌, ◌≤◌, List, [], ◌∷◌, ◌++◌, length, Some}
use Rattle.hose_io.specs.Connections.{Connection}
use Rattle.hose_words.specs.Asking.{IsWithinLines}
use Rattle.hose_words.specs.Limits.{input_limit}
use Rattle.hose_graph.specs.Network.{Network}
use Rattle.hose_graph.specs.declared.entry.Entry.{Entry}
use Rattle.hose_graph.specs.declared.command.Reply.{Reply}
use Rattle.hose_law.specs.Script.{disks_in}
use Rattle.hose_turn.specs.declared.view.Tried.{Tried}
use Rattle.hose_turn.specs.Known.{Known}
use Rattle.hose_talk.specs.Talk.{IsLeftNear, TellsOf}
use Rattle.hose_session.specs.Session.{IsSession}
use Rattle.hose_greeting.specs.SessionLines.{SaysAfter}
use Rattle.hose_session.specs.declared.ending.SessionEnd.{SessionEnd}
use Rattle.hose_session.specs.declared.ending.SessionEnd.TheVariants.{TooLong}

-- The connection is that of a session along a history, from this place or a later one, with these
-- replies, these places of its own entries, and what it tried beside.
pub record IsServedAlong (network : Network) (history : List Entry) (since : ℕ)
    (connection : Connection) (replies : List Reply) (own : List ℕ) (tries : List Tried)
    : Type 0 where
  pub from : ℕ
  pub later : since ≤ from
  pub end : SessionEnd
  pub session : IsSession network history from (TellsOf (SaysAfter network)
      (Some (record { taken = []; left = connection.taken ++ connection.left }))
      (Some (record { taken = connection.taken; left = connection.left })))
      (λ text rest left. IsLeftNear text rest left × IsWithinLines text rest connection.asked)
      (Some []) (Some connection.given) (0 < connection.reading) (0 < connection.writing) end
      replies own tries
  pub too_long : (end ≡ TooLong) ↔ (input_limit < length connection.taken)

-- The connections are those of such sessions, whose own entries stand at these places, one after
-- the other, who tried this, and whose replies tell so many failures of the disk.
pub data AreServedAlong (network : Network) (history : List Entry) (since : ℕ)
    : List Connection → List ℕ → List Tried → ℕ → Type 0 where
  none_served : AreServedAlong network history since [] [] [] 0
  one_served : {connections : List Connection} {own : List ℕ} {tries : List Tried} {disks : ℕ}
      (connection : Connection) (replies : List Reply) (added : List ℕ) (more : List Tried)
      → AreServedAlong network history since connections own tries disks
      → IsServedAlong network history since connection replies added more
      → AreServedAlong network history since (connections ++ connection ∷ []) (own ++ added)
      (tries ++ more) (disks + disks_in replies)

-- Connections account for a pass: they are those of sessions along the history that the pass has
-- seen, from its first list on. Their own entries together are those of the pass, and so is what
-- they tried; they were told no more failures of the disk than the pass has met faults.
pub record AccountFor (connections : List Connection) (pass : Known) : Type 0 where
  pub disks : ℕ
  pub served : AreServedAlong pass.origin.network pass.seen (length pass.origin.since) connections
      pass.own pass.tried disks
  pub told : disks ≤ pass.faults
