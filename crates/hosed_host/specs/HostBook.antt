-- What a host does to its journal, and what it tells.
use Rattle.std.specs.Prelude.{◌≡◌, ◌⊎◌, ℕ, List, [], ◌++◌, codes, length, Bool, true, false, IfSome, Option, Result, Ok, Err, option_map, ⊤}
use mathlib.Core.List.{IsPrefix}
use Rattle.hose_io.specs.Frame.{Met, Rose}
use Rattle.hose_io.specs.Stream.{Grows}
use Rattle.hose_io.specs.Writing.{GrowsInPart}
use Rattle.hose_io.specs.declared.Failed.{Failed}
use Rattle.hose_io.specs.declared.sink.Sink.{Ghosts as SinkGhosts}
use Rattle.hose_net.specs.Doors.{IsAmong}
use Rattle.hose_net.specs.Happening.{Happening}
use Rattle.hose_net.specs.Story.{Exchange, IsHosted}
use Rattle.hose_net.specs.declared.doors.Address.{Address}
use Rattle.hose_net.specs.declared.doors.Doors.{Ghosts as DoorsGhosts}
use Rattle.hose_net.specs.declared.doors.DoorsFault.{DoorsFault}
use Rattle.hose_net.specs.declared.doors.DoorsFault.TheVariants as refusal
use Rattle.hose_net.specs.declared.hold.Parting.{Parting}
use Rattle.hose_net.specs.declared.hold.Parting.TheVariants as parting
use Rattle.hose_graph.specs.Network.{Network}
use Rattle.hose_graph.specs.declared.entry.Entry.{Entry}
use Rattle.hose_law.specs.History.{IsDecided, book_of}
use Rattle.hose_book.specs.Ledger.{IsLedgerOf}
use Rattle.hose_clerk.specs.HostLines.{HostLine, SaysAt}
use Rattle.hose_clerk.specs.HostReplies.{host_text}
use Rattle.hose_clerk.specs.Hosting.{AreHostSteps, HostState, IsAheadBy, IsAskedOf, LeadsBy, TellsDisks, host_from}
use Rattle.hose_clerk.specs.declared.doors.DoorRule.{DoorRule}
use Rattle.hose_clerk.specs.declared.replies.HostReply.{HostReply}
use Rattle.hose_audit.specs.Audit.{audit_text}
use Rattle.hose_disk.specs.Cabinet.{object_of}
use Rattle.hose_disk.specs.declared.disk.Disk.{Ghosts as DiskGhosts}
use Rattle.hose_journal.specs.Moments.{Images}
use Rattle.hose_proto.specs.ReplyText.{line_of}
use Rattle.hose_store.specs.Beginning.{HasLeft, IsOrInDoubt}
use Rattle.hose_store.specs.Recovery.{IsHistoryOf}
use Rattle.hose_lead.specs.LedStore.{LedState}
use Rattle.hose_outside.specs.Ending.{EndsTold, IsOut}
use Rattle.hose_outside.specs.Fault.{status_of}
use Rattle.hose_outside.specs.OnDisk.{HadContent, OfHeld, opening_of}
use Rattle.hose_outside.specs.Parts.{Tellings}
use Rattle.hose_outside.specs.Provides.{Provides}
use Rattle.hose_outside.specs.declared.fault.Fault.TheVariants as fault
use Rattle.hose_outside.specs.declared.why.Why.TheVariants.{Stopped}
use Rattle.hosed_host.specs.HostDoors.{AreOpenedAt, DoorsAsked, is_required, may_be_alone, number_of}
use Rattle.hosed_host.specs.HostWhy.{host_status, last_of_host}
use Rattle.hosed_host.specs.declared.why.HostWhy.{HostWhy}
use Rattle.hosed_host.specs.declared.why.HostWhy.TheVariants.{Door, Ended, StandbyAhead, StandbyGone}
use Rattle.hosed_host.specs.declared.hosting.HostEnd.{HostEnd}
use Rattle.hosed_host.specs.declared.hosting.NotHosted.{NotHosted}
use Rattle.hosed_host.specs.declared.hosting.NotHosted.TheVariants as none

-- ---- the book that is kept

module _ {I O C E : Type 0} (tells : Tellings I O C E) (name : List ℕ) (old new : C) where
  -- The journal of a name was kept from its opening, when it stood for the first history, to its
  -- closing. The exchanges, in their order, are those of the sequential book from there on, by a
  -- host whose standby is required or not: each is a step at the history to which those before it
  -- led, and it is told whether the operator ended the host. Where an image of the disk has one
  -- entry more than a part of the history, one of the lines asked for it. The cabinet failed
  -- exactly where closing did, and failures of the disk were told no more often than it failed. The
  -- history provides what it is to.
  pub record KeepsHosted (network : Network) (required : Bool) (since history : List Entry)
      (exchanges : List (Exchange HostLine HostReply)) (ended : Bool) (closing : Result ⊤ Failed)
      : Type 0 where
    pub begun : HadContent tells.cabinet tells.disk old name (IsHistoryOf network since)
    pub begins : IsPrefix since history
    pub state : HostState
    pub leads : state.history ≡ history
    pub steps : AreHostSteps network required exchanges (host_from since) state
    pub ends : state.ended ≡ ended
    pub decided : IsDecided network 0 (length since) history
    pub told : TellsDisks 0 exchanges (tells.cabinet.frame new).returned
    pub met : Met (object_of (tells.cabinet.frame old)) (object_of (tells.cabinet.frame new))
        closing
    pub left : OfHeld tells.cabinet name old new (λ was left. HasLeft tells.disk
        (IsAskedOf required since exchanges) (tells.disk.may_leave was)
        (opening_of tells.disk network since was) history left closing)
    pub provides : Provides network since history

  -- The journal was opened and closed, and stands for what it stood for.
  pub record StaysUnhosted (network : Network) : Type 0 where
    pub since : List Entry
    pub closing : Result ⊤ Failed
    pub kept : KeepsHosted network false since since [] false closing

-- Lines that were answered from a history on stand on the disk of a store: each image that a stop
-- may leave now stands for the history to which they led, or for it and one entry more, for which
-- one of the lines asked.
pub record StandOnDisk {E : Type 0} (disk : DiskGhosts E) (network : Network) (required : Bool)
    (since : List Entry) (exchanges : List (Exchange HostLine HostReply)) (led : LedState E)
    : Type 0 where
  pub state : HostState
  pub steps : AreHostSteps network required exchanges (host_from since) state
  pub doubt : Option Entry
  pub doubtful : IfSome doubt
      (IsAskedOf required since exchanges network (book_of 0 state.history))
  pub now : Images disk led.store.journal.disk (IsOrInDoubt network state.history doubt)

-- ---- the doors

-- what doors and the connections that come to them tell, and which store a call was shown that sent
-- bytes
pub record DoorTellings (D N E : Type 0) : Type 1 where
  pub doors : DoorsGhosts D N
  pub did : N → List Happening → N → Type 0
  pub saw : N → LedState E → N → Type 0

-- what doors and their connections tell, of its parts
abbrev pub door_tellings : {D N E : Type 0} → DoorsGhosts D N → (N → List Happening → N → Type 0)
    → (N → LedState E → N → Type 0) → DoorTellings D N E
door_tellings doors did saw = record { doors = doors; did = did; saw = saw }

module _ {D N : Type 0} (doors : DoorsGhosts D N) (asked : DoorsAsked) (was now : D) where
  -- the doors that were asked for could not be opened, for this reason
  pub record RefusesDoors (why : DoorsFault) : Type 0 where
    pub addresses : List Address
    pub rules : List DoorRule
    pub as_asked : AreOpenedAt asked addresses rules
    pub among : IsAmong (length addresses) why
    pub refused : doors.refuses was addresses why now

  -- the doors that were asked for were opened, and closed again at once
  pub record ClosesDoors : Type 0 where
    pub addresses : List Address
    pub rules : List DoorRule
    pub as_asked : AreOpenedAt asked addresses rules
    pub first : N
    pub between : D
    pub opened : doors.opens was addresses first between
    pub closed : doors.closes between first now

  -- How doors are left to which no connection was let in. They were not touched, or could not be
  -- opened for want of memory; the door that the word of a number names could not be; or they are
  -- closed again, since it could not be said that they are open.
  abbrev pub LeavesDoors : NotHosted → Type 0
  LeavesDoors none.Memory = (now ≡ was) ⊎ RefusesDoors refusal.Memory
  LeavesDoors (none.Door word trouble) = (place : ℕ)
      × (word ≡ number_of asked.operator asked.first place)
      × RefusesDoors (refusal.Door place trouble)
  LeavesDoors none.Write = ClosesDoors

-- whether the operator had ended a host that ended for this reason
abbrev pub IsEndedFor : Parting → Bool → Type 0
IsEndedFor parting.Asked ended = ended ≡ true
IsEndedFor parting.Told ended = ended ≡ false
IsEndedFor parting.Late ended = ⊤
IsEndedFor (parting.Ahead count) ended = ⊤

module _ {I O C E D N : Type 0} (tells : Tellings I O C E) (by : DoorTellings D N E)
    (name : List ℕ) (asked : DoorsAsked) (old new : C) (network : Network) where
  -- The doors that were asked for were opened once, and closed again; between, connections came to
  -- them and were hosted, until the operator ended that, the network told to stop, or a standby
  -- ended it: by a story whose exchanges are those by which the journal is kept, and in which
  -- nothing was sent before all lines that were answered stood on the disk. The link to the standby
  -- is sent packets of that history alone, and by its `have` the standby is heard to have as many;
  -- where it is required, replies wait besides for its answer to what it was sent behind their
  -- lines. The book is that of the history.
  pub record HostsDoors (was now : D) (end : HostEnd) : Type 0 where
    pub since : List Entry
    pub history : List Entry
    pub first : N
    pub last : N
    pub between : D
    pub addresses : List Address
    pub rules : List DoorRule
    pub as_asked : AreOpenedAt asked addresses rules
    pub opened : by.doors.opens was addresses first between
    pub closed : by.doors.closes between last now
    pub ended : Bool
    pub ends : IsEndedFor end.why ended
    pub hosted : IsHosted (record {
      did = by.did;
      saw = by.saw;
      stands = StandOnDisk tells.disk network (is_required asked.standby) since;
      says = SaysAt network rules;
      text = host_text network;
      standby = option_map (λ standby. standby.path) asked.standby;
      may_be_alone = may_be_alone asked.standby;
      leads = LeadsBy network (is_required asked.standby) since;
      is_ahead = IsAheadBy network (is_required asked.standby) since;
    }) (λ exchanges. KeepsHosted tells name old new network (is_required asked.standby) since
        history exchanges ended end.closing) end.why first last
    pub is : IsLedgerOf network 0 history end.book

  -- what hosting by a journal that was opened comes to: connections were hosted; or nothing was
  -- entered, and the doors were left so
  abbrev pub HostsByJournal : D → D → Result HostEnd NotHosted → Type 0
  HostsByJournal was now (Ok end) = HostsDoors was now end
  HostsByJournal was now (Err why) = StaysUnhosted tells name old new network
      × LeavesDoors by.doors asked was now why

-- ---- what a host says

module _ {O : Type 0} (sink : SinkGhosts O) (output output' : O) where
  -- What a host that opened its journal has said before its last lines: that customers may come,
  -- once the doors are open; or nothing, where there was no memory or a door could not be opened;
  -- or a part of that, and the output failed.
  abbrev pub Announces : Result HostEnd NotHosted → Type 0
  Announces (Ok end) = Grows (sink.content output) (sink.content output') (line_of (codes "ready"))
      × (sink.frame output' ≡ sink.frame output)
  Announces (Err none.Memory) = output' ≡ output
  Announces (Err (none.Door word trouble)) = output' ≡ output
  Announces (Err none.Write) = GrowsInPart (sink.content output) (sink.content output')
      (line_of (codes "ready"))
      × Rose (sink.frame output) (sink.frame output')

module _ {O : Type 0} (sink : SinkGhosts O) (output output' : O) (status : ℕ) where
  -- The status and the last line tell that a host ended for this reason: the line follows a text,
  -- or the output failed, and a part of both is out.
  abbrev pub EndsFor : HostWhy → List ℕ → Type 0
  EndsFor why text =
      (status ≡ host_status why) × IsOut sink output output' (text ++ last_of_host why)

  -- How a text ends, by why the host ended and what closing came to: by the first fault of the
  -- doors and of closing; or by the line that tells of the standby.
  abbrev pub EndsBy : List ℕ → Parting → Result ⊤ Failed → Type 0
  EndsBy text parting.Asked (Ok _) = EndsTold {T = ⊤} sink output output' status (Ok tt) text
  EndsBy text parting.Asked (Err failed) = EndsFor (Ended (Stopped fault.Cabinet)) text
  EndsBy text parting.Told closing = EndsFor (Ended (Stopped fault.Door)) text
  EndsBy text parting.Late closing = EndsFor StandbyGone text
  EndsBy text (parting.Ahead count) closing = EndsFor (StandbyAhead count) text

  -- How the output ends: after connections the text of the book is told, and the last line of a
  -- fault follows it; else there is the last line alone, and none after an output that failed.
  abbrev pub EndsHosted : Result HostEnd NotHosted → Type 0
  EndsHosted (Ok end) = EndsBy (audit_text end.book.network end.book.book) end.why end.closing
  EndsHosted (Err none.Memory) = EndsFor (Ended (Stopped fault.Memory)) []
  EndsHosted (Err (none.Door word trouble)) = EndsFor (Door word trouble) []
  EndsHosted (Err none.Write) = (status ≡ status_of fault.Write) × (output' ≡ output)
