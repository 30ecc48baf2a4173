-- What shipping the entries of a journal comes to.
use Rattle.std.specs.Prelude.{◌≡◌, ℕ, List, Bool, true, false, length, IfSome, Result, Ok, Err, ⊤}
use Rattle.hose_io.specs.steps.Gather.{Gathered, IsAdded}
use Rattle.hose_io.specs.Stream.{Grows}
use Rattle.hose_io.specs.Writing.{GrowsInPart}
use Rattle.hose_io.specs.declared.Failed.{Failed}
use Rattle.hose_io.specs.declared.sink.Sink.{Ghosts as SinkGhosts}
use Rattle.hose_graph.specs.Network.{Network}
use Rattle.hose_graph.specs.declared.entry.Entry.{Entry}
use Rattle.hose_disk.specs.declared.disk.Disk.{Ghosts as DiskGhosts}
use Rattle.hose_journal.specs.Moments.{KeepsCount}
use Rattle.hose_journal.specs.Opening.{AddsNoRecord}
use Rattle.hose_store.specs.Entries.{HasEntries}
use Rattle.hose_store.specs.steps.Before.{AreAllBefore}
use Rattle.hose_store.specs.Opening.{IsRefusedStore}
use Rattle.hose_store.specs.Recovery.{IsHistoryOf, digest_of}
use Rattle.hose_store.specs.Replaying.{IsOnlyOpened, KeepsRead}
use Rattle.hose_store.specs.steps.Replaying.{IsReplaying}
use Rattle.hose_store.specs.declared.fault.StoreFault.{StoreFault}
use Rattle.hose_store.specs.declared.replay.Replay.{Replay}
use Rattle.hose_follow.specs.Follower.{Faulted}
use Rattle.hose_follow.specs.Packet.{packets_bytes, packets_from}
use Rattle.hose_follow.specs.declared.shipping.ShipFault.{ShipFault}
use Rattle.hose_follow.specs.declared.shipping.ShipFault.TheVariants.{Store, Write}

-- what is shipped: the entries of the journal that a disk had, of a network, from an epoch on
pub record Shipment (D : Type 0) : Type 0 where
  pub was : D
  pub network : Network
  pub from : ℕ

-- what is shipped, of its parts
abbrev pub shipment : {D : Type 0} → D → Network → ℕ → Shipment D
shipment was network from = record { was = was; network = network; from = from }

-- the bytes of the packets of entries, from the epoch on
abbrev pub shipped_bytes : {D : Type 0} → Shipment D → List Entry → List ℕ
shipped_bytes shipment entries =
    packets_bytes (packets_from shipment.network shipment.from entries)

-- The packets, from an epoch on, of entries with which the journal begins; `puts` says how much of
-- them is out.
pub record ShipsUpTo {D : Type 0} (disk : DiskGhosts D) (shipment : Shipment D)
    (puts : List ℕ → Type 0) : Type 0 where
  pub entries : List Entry
  pub held : HasEntries shipment.network (disk.content shipment.was) entries
  pub out : puts (shipped_bytes shipment entries)

-- The same, and where the journal is damaged they are those of all entries before the damage.
pub record ShipsBefore {D : Type 0} (disk : DiskGhosts D) (shipment : Shipment D)
    (puts : List ℕ → Type 0) (fault : StoreFault) : Type 0 where
  pub part : ShipsUpTo disk shipment puts
  pub all : AreAllBefore shipment.network (disk.content shipment.was) part.entries fault

-- The packets, from an epoch on, of all entries of the journal are out, and so many they are.
pub record ShipsAll {D : Type 0} (disk : DiskGhosts D) (shipment : Shipment D)
    (puts : List ℕ → Type 0) (sent : ℕ) : Type 0 where
  pub history : List Entry
  pub read : IfSome (disk.content shipment.was) (IsHistoryOf shipment.network history)
  pub count : sent ≡ length (packets_from shipment.network shipment.from history)
  pub out : puts (shipped_bytes shipment history)

module _ {S D : Type 0} (sink : SinkGhosts S) (disk : DiskGhosts D) (before after : S) where
  -- What shipping comes to. At a fault packets of entries with which the journal begins are out, of
  -- all before damage, or a part of such where the sink failed. What is read is as before, or a
  -- journal without a record was begun there; where a call on the disk failed, it may be begun in
  -- part. So no seal was written.
  abbrev pub Ships : Shipment D → D → Result ℕ ShipFault → Type 0
  Ships shipment left (Ok count) =
      ShipsAll disk shipment (Grows (sink.content before) (sink.content after)) count
      × (sink.frame after ≡ sink.frame before) × KeepsCount disk shipment.was left
      × KeepsRead disk shipment.was left shipment.network
  Ships shipment left (Err (Store fault)) =
      ShipsBefore disk shipment (Grows (sink.content before) (sink.content after)) fault
      × (sink.frame after ≡ sink.frame before)
      × IsRefusedStore disk shipment.was left shipment.network fault
      × AddsNoRecord (disk.content shipment.was) (disk.content left) (digest_of shipment.network)
  Ships shipment left (Err Write) =
      ShipsUpTo disk shipment (GrowsInPart (sink.content before) (sink.content after))
      × Faulted (sink.frame before) (sink.frame after)
      × KeepsRead disk shipment.was left shipment.network

-- what came of adding packets and of sending them
abbrev pub shipped_of : Result ⊤ StoreFault → Result ⊤ Failed → ℕ → Result ℕ ShipFault
shipped_of added (Err failed) count = Err Write
shipped_of (Ok _) (Ok _) count = Ok count
shipped_of (Err fault) (Ok _) count = Err (Store fault)

-- ---- packet after packet

-- what a gatherer holds, and the sink to which that goes out
pub record OutgoingPackets (S : Type 0) : Type 0 where
  pub gather : Gathered
  pub sink : S

-- what a gatherer holds and its sink, as one
abbrev pub outgoing_packets : {S : Type 0} → Gathered → S → OutgoingPackets S
outgoing_packets gather sink = record { gather = gather; sink = sink }

module _ {S D : Type 0} (sink : SinkGhosts S) (disk : DiskGhosts D) (shipment : Shipment D)
    (start : OutgoingPackets S) where
  -- The entries that were read are these, and their packets went into a gatherer.
  pub record HasAdded (replay : Replay D) (out : OutgoingPackets S) : Type 0 where
    pub entries : List Entry
    pub replaying : IsReplaying disk shipment.was shipment.network replay entries
    pub added : IsAdded sink start.gather start.sink out.gather out.sink
        (shipped_bytes shipment entries)

  -- the packets of all entries went into it
  pub record HasAddedAll (replay : Replay D) (out : OutgoingPackets S) : Type 0 where
    pub has : HasAdded replay out
    pub held : HasEntries shipment.network (disk.content shipment.was) has.entries
    pub read : IfSome (disk.content shipment.was) (IsHistoryOf shipment.network has.entries)
    pub count : KeepsCount disk shipment.was replay.reading.disk
    pub opened : IsOnlyOpened disk shipment.was replay.reading.disk shipment.network
    pub kept : KeepsRead disk shipment.was replay.reading.disk shipment.network

  -- those of the entries before a fault went into it
  pub record HasAddedUpTo (left : D) (out : OutgoingPackets S) (fault : StoreFault) : Type 0 where
    pub entries : List Entry
    pub held : HasEntries shipment.network (disk.content shipment.was) entries
    pub added : IsAdded sink start.gather start.sink out.gather out.sink
        (shipped_bytes shipment entries)
    pub all : AreAllBefore shipment.network (disk.content shipment.was) entries fault
    pub refused : IsRefusedStore disk shipment.was left shipment.network fault
    pub opened : IsOnlyOpened disk shipment.was left shipment.network
    pub kept : KeepsRead disk shipment.was left shipment.network

  -- One entry more was read, or none was left, or a fault was met.
  abbrev pub AddsNext : Replay D → OutgoingPackets S → Result Bool StoreFault → Type 0
  AddsNext replay out (Ok true) = HasAdded replay out
  AddsNext replay out (Ok false) = HasAddedAll replay out
  AddsNext replay out (Err fault) = HasAddedUpTo replay.reading.disk out fault

  -- All were read, or a fault was met.
  abbrev pub AddsAll : Replay D → OutgoingPackets S → Result ⊤ StoreFault → Type 0
  AddsAll replay out (Ok _) = HasAddedAll replay out
  AddsAll replay out (Err fault) = HasAddedUpTo replay.reading.disk out fault
