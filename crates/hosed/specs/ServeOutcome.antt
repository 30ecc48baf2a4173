-- What stands after `serve`, by what ended it.
use Rattle.std.specs.Prelude.{◌≡◌, ℕ, List, Result, Ok, Err, ⊤}
use Rattle.hose_io.specs.Frame.{Rose}
use Rattle.hose_io.specs.declared.Failed.{Failed}
use Rattle.hose_io.specs.declared.sink.Sink.{Ghosts as SinkGhosts}
use Rattle.hose_graph.specs.Network.{Network}
use Rattle.hose_crew.specs.Crew.{AreServed}
use Rattle.hose_audit.specs.Audit.{audit_text}
use Rattle.hose_outside.specs.NamedOutcome.{NamedOutcome}
use Rattle.hose_outside.specs.Reading.{PricedNames}
use Rattle.hose_outside.specs.Ending.{EndsTold, IsOut}
use Rattle.hose_outside.specs.Fault.{last_line, status_of}
use Rattle.hose_outside.specs.Parts.{DoorParts, Tellings}
use Rattle.hose_outside.specs.declared.fault.Fault.{Fault}
use Rattle.hose_outside.specs.declared.fault.Fault.TheVariants.{Cabinet, Door, Write}
use Rattle.hosed.specs.ServerDoor.{DoorSeen, ServesByJournal, Speaks}
use Rattle.hosed.specs.declared.server.ServerEnd.{ServerEnd}

-- what came of accepting and then closing: the first fault
abbrev pub first_failed : {A B : Type 0} → Result A Failed → Result B Failed → Result ⊤ Fault
first_failed (Err failed) closing = Err Door
first_failed (Ok _) (Err failed) = Err Cabinet
first_failed (Ok _) (Ok _) = Ok tt

module _ {O : Type 0} (sink : SinkGhosts O) (output output' : O) (status : ℕ) where
  -- How the output ends once a store was opened. Where connections were served, the text of the
  -- book is told, and the last line of a fault of accepting or closing follows it; else there is
  -- the last line alone, and none after an output that failed.
  abbrev pub EndsServed : Result ServerEnd Fault → Type 0
  EndsServed (Ok end) = EndsTold sink output output' status
      (first_failed end.accepting end.closing) (audit_text end.book.network end.book.book)
  EndsServed (Err Write) = (status ≡ status_of Write) × (output' ≡ output)
  EndsServed (Err why) = (status ≡ status_of why) × IsOut sink output output' (last_line why)

-- what a server is asked for besides: its port, and how many connections it serves
pub record PortAsked : Type 0 where
  pub port : ℕ
  pub connections : ℕ

module _ {I O C E : Type 0} (tells : Tellings I O C E) (name : List ℕ) (asked : PortAsked)
    (before after : DoorParts I O C DoorSeen) where
  -- A store was opened on the journal and served connections, or not, which left the output as
  -- `mid` is, and then the rest was told.
  pub record IsServed (status : ℕ) (network : Network) : Type 0 where
    pub mid : O
    pub came : Result ServerEnd Fault
    pub serves : ServesByJournal tells name before.parts.cabinet after.parts.cabinet network
        (AreServed before.door.told after.door.told asked.connections) came
    pub speaks : Speaks tells.sink asked.port before.parts.output mid before.door after.door came
    pub ends : EndsServed tells.sink mid after.parts.output status came

module _ {I O C E : Type 0} (tells : Tellings I O C E) (names : PricedNames) (asked : PortAsked)
    (before after : DoorParts I O C DoorSeen) where
  -- A server tells the book of the journal as it was after the last connection.
  abbrev pub ServeOutcome : ℕ → Type 0
  ServeOutcome = NamedOutcome tells names before.parts after.parts (record {
    IsFulfilled = IsServed tells names.journal asked before after;
    Untouched = after.door ≡ before.door;
    OthersHeld = ¬ Rose before.door.frame after.door.frame;
  })
