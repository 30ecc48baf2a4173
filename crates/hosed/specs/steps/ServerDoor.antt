-- What serving the connections of a door comes to, and what it does to the journal: steps of
-- proofs.
use Rattle.std.specs.Prelude.{◌≡◌, ◌↔◌, ℕ, List, [], length, Option, None, Some, IfSome, Result, Ok, Err, is_err, is_some, ⊤}
use mathlib.Core.List.{IsPrefix}
use Rattle.hose_io.specs.Frame.{Frame, Stays}
use Rattle.hose_io.specs.Stream.{Grows}
use Rattle.hose_io.specs.declared.Failed.{Failed}
use Rattle.hose_io.specs.declared.sink.Sink.{Ghosts as SinkGhosts}
use Rattle.hose_graph.specs.Network.{Network}
use Rattle.hose_graph.specs.declared.entry.Entry.{Entry}
use Rattle.hose_law.specs.History.{EntryKind, IsDecided, IsDecidedAt}
use Rattle.hose_disk.specs.steps.Disk.{IsCalled}
use Rattle.hose_disk.specs.declared.disk.Disk.{Ghosts as DiskGhosts}
use Rattle.hose_store.specs.Beginning.{Beginning, HasLeft}
use Rattle.hose_store.specs.steps.Beginning.{StandsFor}
use Rattle.hose_store.specs.Recovery.{IsHistoryOf}
use Rattle.hose_store.specs.steps.Store.{KeptStore}
use Rattle.hose_shared.specs.Trying.{IsTried}
use Rattle.hose_turn.specs.declared.view.Tried.{Tried}
use Rattle.hose_turn.specs.Known.{Known}
use Rattle.hose_outside.specs.OnDisk.{opening_of}
use Rattle.hose_outside.specs.steps.Ending.{IsWhyAfter}
use Rattle.hose_outside.specs.steps.Journal.{IsJustOpened}
use Rattle.hose_outside.specs.declared.fault.Fault.{Fault}
use Rattle.hose_outside.specs.declared.fault.Fault.TheVariants.{Memory}
use Rattle.hose_outside.specs.declared.why.Why.{Why}
use Rattle.hose_outside.specs.declared.why.Why.TheVariants.{Stopped}
use Rattle.hosed.specs.declared.server.ServerEnd.{ServerEnd}
use Rattle.hosed.specs.ServeOutcome.{PortAsked, first_failed}
use Rattle.hosed.specs.ServerDoor.{DoorSeen, ServesBook, Speaks, ready_line}

-- ---- what a server says

-- the output of a server is the one that it was, and so is its door, by what their frames were and
-- are
pub record BothStay (before after was now : Frame) : Type 0 where
  pub output : Stays before after
  pub door : Stays was now

module _ {O : Type 0} (sink : SinkGhosts O) (port : ℕ) (output output' : O)
    (was now : DoorSeen) where
  -- The door was opened at this port, and the line that the server is ready is out; or not, and so
  -- it is told.
  abbrev pub IsAnnounced : {T : Type 0} → Result T Fault → Type 0
  IsAnnounced (Ok _) = (now ≡ record was { port = Some port })
      × Grows (sink.content output) (sink.content output') ready_line
      × (sink.frame output' ≡ sink.frame output)
  IsAnnounced (Err Memory) = ⊥
  IsAnnounced (Err why) = Speaks sink port output output' was now (Err why)

-- what a server is asked for besides, of its parts
abbrev pub port_asked : ℕ → ℕ → PortAsked
port_asked port connections = record { port = port; connections = connections }

-- why it ended: as closing and accepting came, or for what no connection was served
abbrev pub IsWhyServed : Result ServerEnd Fault → Why → Type 0
IsWhyServed (Ok end) why = IsWhyAfter (first_failed end.accepting end.closing) why
IsWhyServed (Err fault) why = why ≡ Stopped fault

-- ---- the store that is shared

-- no entry is of this kind: none was added yet
abbrev pub IsNoEntry : EntryKind
IsNoEntry network book entry = ⊥

-- How a store was opened: which images a stop might have left of its disk then, what was read of
-- it, where it told, its moment, and of which network the store is.
pub record Opened : Type 1 where
  pub had : List ℕ → Type 0
  pub content : Option (List ℕ)
  pub moment : ℕ
  pub network : Network

-- no opening: that of a disk that may be any, tells nothing, and is of a network without nodes
abbrev pub unopened : Opened
unopened = record {
  had = λ image. ⊤;
  content = None;
  moment = 0;
  network = record { nodes = []; links = [] };
}

module _ {E : Type 0} (disk : DiskGhosts E) where
  -- A store was just opened so, and stood for this history.
  pub record OpensAt (opened : Opened) (since : List Entry) (store : KeptStore E) : Type 0 where
    pub read : IfSome opened.content (IsHistoryOf opened.network since)
    pub stands : StandsFor disk IsNoEntry opened.had (record {
      since = since;
      network = opened.network;
      moment = opened.moment;
      tells = is_some opened.content;
    }) since store

  -- how a store is opened on a disk that was this
  abbrev pub opened_on : E → Network → Opened
  opened_on was network = record {
    had = disk.may_leave was;
    content = disk.content was;
    moment = disk.moment was;
    network = network;
  }

  -- the store was just opened on a disk, which stood for this history as it was read
  abbrev pub IsOpening : E → Network → List Entry → KeptStore E → Type 0
  IsOpening was network = OpensAt (opened_on was network)

  -- A store was just opened on a disk that was this, and so it is named.
  pub record IsOpenedAs (opened : Opened) (was : E) (store : KeptStore E) : Type 0 where
    pub had : (image : List ℕ) → opened.had image ↔ disk.may_leave was image
    pub content : opened.content ≡ disk.content was
    pub moment : opened.moment ≡ disk.moment was
    pub network : opened.network ≡ store.ledger.network
    pub just : IsJustOpened disk IsDecidedAt was store.ledger.network store

  -- A store was closed, which left the disk so and came to this. Where the store stood for a
  -- history, the disk is left with it.
  pub record IsClosedOn (store : KeptStore E) (left : E) (closing : Result ⊤ Failed) : Type 0 where
    pub call : IsCalled (disk.frame store.journal.disk) (disk.frame left) closing
    pub leaves : (was : E) (beginning : Beginning) (history : List Entry) (tries : List Tried)
        → StandsFor disk (IsTried history tries) (disk.may_leave was) beginning history store
        → HasLeft disk (IsTried history tries) (disk.may_leave was) beginning history left closing

-- ---- on a disk

-- A disk was kept from its opening, when it stood for the first history, to its closing, when it
-- stands for what this is now. All entries since are decided.
pub record IsKeptOn {E : Type 0} (disk : DiskGhosts E) (was left : E) (network : Network)
    (since history : List Entry) (tries : List Tried) (closing : Result ⊤ Failed) : Type 0 where
  pub read : IfSome (disk.content was) (IsHistoryOf network since)
  pub begins : IsPrefix since history
  pub decided : IsDecided network 0 (length since) history
  pub told : (disk.frame left).has_failed ≡ is_err closing
  pub leaves : HasLeft disk (IsTried history tries) (disk.may_leave was)
      (opening_of disk network since was) history left closing

-- what serving by a store comes to on its disk
abbrev pub ServesByStore : {E : Type 0} → DiskGhosts E → E → E → Network
    → (Known → Result ⊤ Failed → Type 0) → Result ServerEnd Fault → Type 0
ServesByStore disk was left network Along came =
    ServesBook network (IsKeptOn disk was left network) (disk.frame left).faults Along came
