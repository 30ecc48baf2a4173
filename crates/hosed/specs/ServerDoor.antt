-- What serving the connections of a door comes to, and what it does to the journal.
use Rattle.std.specs.Prelude.{◌≡◌, ◌⊎◌, ℕ, ◌≤◌, List, [], codes, length, Option, Some, Result, Ok, Err, ⊤}
use mathlib.Core.List.{IsPrefix}
use Rattle.hose_io.specs.Connections.{Connections}
use Rattle.hose_io.specs.Frame.{Frame, Met, Rose}
use Rattle.hose_io.specs.Stream.{Grows}
use Rattle.hose_io.specs.Writing.{GrowsInPart}
use Rattle.hose_io.specs.declared.Failed.{Failed}
use Rattle.hose_io.specs.declared.sink.Sink.{Ghosts as SinkGhosts}
use Rattle.hose_graph.specs.Network.{Network}
use Rattle.hose_graph.specs.declared.entry.Entry.{Entry}
use Rattle.hose_law.specs.History.{IsDecided}
use Rattle.hose_book.specs.Ledger.{IsLedgerOf}
use Rattle.hose_disk.specs.Cabinet.{object_of}
use Rattle.hose_proto.specs.ReplyText.{line_of}
use Rattle.hose_store.specs.Beginning.{HasLeft}
use Rattle.hose_store.specs.Recovery.{IsHistoryOf}
use Rattle.hose_shared.specs.Trying.{IsTried}
use Rattle.hose_turn.specs.Faults.{end_of_count}
use Rattle.hose_turn.specs.Known.{Known}
use Rattle.hose_turn.specs.Places.{HasPlaces}
use Rattle.hose_turn.specs.declared.view.Tried.{Tried}
use Rattle.hose_outside.specs.OnDisk.{HadContent, OfHeld, opening_of}
use Rattle.hose_outside.specs.Parts.{Tellings}
use Rattle.hose_outside.specs.Provides.{Provides}
use Rattle.hose_outside.specs.declared.fault.Fault.{Fault}
use Rattle.hose_outside.specs.declared.fault.Fault.TheVariants.{Door, Memory, Write}
use Rattle.hosed.specs.declared.server.ServerEnd.{ServerEnd}

-- ---- what a server says

-- what tells that the server is ready
abbrev pub ready_line : List ℕ
ready_line = line_of (codes "ready")

-- what is seen of a door, whatever borrows lead to it: its frame, its connections, and the port at
-- which it was opened last, if it was
pub record DoorSeen : Type 0 where
  pub frame : Frame
  pub told : Option Connections
  pub port : Option ℕ

-- what is seen of a door, of its frame, without borrows, its connections and its port
abbrev pub seen_of : Frame → Option Connections → Option ℕ → DoorSeen
seen_of frame told port =
    record { frame = record frame { loan = [] }; told = told; port = port }

module _ {O : Type 0} (sink : SinkGhosts O) (port : ℕ) (output output' : O)
    (was now : DoorSeen) where
  -- What a server that opened its store has said, and what became of its door. Where connections
  -- were served the door was opened at this port, and the line that the server is ready is out.
  -- Else it said nothing: there was no memory to begin with, and the door is as it was, or it did
  -- not open; or it was opened, a part of the line alone is out, and the output failed.
  abbrev pub Speaks : Result ServerEnd Fault → Type 0
  Speaks (Ok end) = Met was.frame now.frame end.accepting × (now.port ≡ Some port)
      × Grows (sink.content output) (sink.content output') ready_line
      × (sink.frame output' ≡ sink.frame output)
  Speaks (Err Memory) = (output' ≡ output) × (now ≡ was)
  Speaks (Err Door) = (output' ≡ output) × (now.told ≡ was.told) × (now.port ≡ was.port)
      × Rose was.frame now.frame
  Speaks (Err Write) = (now ≡ record was { port = Some port })
      × GrowsInPart (sink.content output) (sink.content output') ready_line
      × Rose (sink.frame output) (sink.frame output')
  Speaks (Err another) = ⊥

-- ---- the book that is kept

module _ (network : Network) (IsKept : List Entry → List Entry → List Tried → Result ⊤ Failed
    → Type 0) where
  -- Connections were served along a pass, and its entries are in the journal, which is kept so from
  -- the history at which the pass began to this one. This one begins with what the pass has seen,
  -- and each of its entries since the one at which the pass began is the pass's own, as is what was
  -- tried beside and not entered. The disk has met as many faults as the pass. The book is that of
  -- the history.
  pub record ServesDoorAlong (faults : ℕ) (Along : Known → Type 0) (end : ServerEnd) : Type 0 where
    pub history : List Entry
    pub pass : Known
    pub of : pass.origin.network ≡ network
    pub kept : IsKept pass.origin.since history pass.tried end.closing
    pub seen : IsPrefix pass.seen history
    pub own : HasPlaces (length pass.origin.since) (length history) pass.own
    pub met : (pass.faults ≤ faults) ⊎ (end_of_count ≤ faults)
    pub served : Along pass
    pub is : IsLedgerOf network 0 history end.book

  -- The journal was opened and closed, and stands for what it stood for.
  pub record StaysAsRead : Type 0 where
    pub since : List Entry
    pub closing : Result ⊤ Failed
    pub kept : IsKept since since [] closing

  -- what serving by a store that was opened comes to: connections were served, or nothing was
  -- entered
  abbrev pub ServesBook : ℕ → (Known → Result ⊤ Failed → Type 0) → Result ServerEnd Fault → Type 0
  ServesBook faults Along (Ok end) = ServesDoorAlong faults (λ pass. Along pass end.accepting) end
  ServesBook faults Along (Err why) = StaysAsRead

-- ---- in a cabinet

module _ {I O C E : Type 0} (tells : Tellings I O C E) (name : List ℕ) (old new : C) where
  -- The journal of a name was kept from its opening, when it stood for the first history, to its
  -- closing. Where an image of the disk has one entry more than a part of the history, that is the
  -- next one of it or was tried there. The cabinet failed exactly where closing did. The history
  -- provides what it is to.
  pub record IsKeptIn (network : Network) (since history : List Entry) (tries : List Tried)
      (closing : Result ⊤ Failed) : Type 0 where
    pub begun : HadContent tells.cabinet tells.disk old name (IsHistoryOf network since)
    pub begins : IsPrefix since history
    pub decided : IsDecided network 0 (length since) history
    pub met : Met (object_of (tells.cabinet.frame old)) (object_of (tells.cabinet.frame new))
        closing
    pub left : OfHeld tells.cabinet name old new (λ was left. HasLeft tells.disk
        (IsTried history tries) (tells.disk.may_leave was)
        (opening_of tells.disk network since was) history left closing)
    pub provides : Provides network since history

  -- what serving by the journal comes to once its store was opened
  abbrev pub ServesByJournal : Network → (Known → Result ⊤ Failed → Type 0)
      → Result ServerEnd Fault → Type 0
  ServesByJournal network Along came =
      ServesBook network (IsKeptIn network) (tells.cabinet.frame new).returned Along came
