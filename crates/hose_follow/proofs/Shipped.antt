-- What the packets of entries come to.
use Rattle.std.proofs.Common.{◌≡◌, ◌⊎◌, ◌∙◌, ℕ, zero, suc, ◌+◌, ◌-◌, ◌<◌, ◌≤◌, List, [], ◌∷◌, ◌++◌, Option, None, Some, Result, Ok, Err, refl, sym, inl, inr, ap, arith, subst, drop, length, append_assoc, append-nil, length-append}
use Rattle.std.specs.Prelude.{⊤, IsErr}
use Rattle.std.proofs.lemmas.Grind.{flat_map-append}
use Rattle.std.proofs.lemmas.List.{drop-append-le, drop_all, length-drop}
use Rattle.std.specs.Option.{IfSome}
use Rattle.hose_io.specs.Frame.{Frame, Met}
use Rattle.hose_io.specs.steps.Gather.{Gathered, IsAdded, IsFinished}
use Rattle.hose_io.specs.declared.Failed.{Failed}
use Rattle.hose_io.specs.Stream.{Grows}
use Rattle.hose_io.proofs.Gathering.{IsAdded-next, IsAdded-none, IsPut-finished, none_gathered}
use Rattle.hose_io.specs.declared.sink.Sink.{Ghosts as SinkGhosts}
use Rattle.hose_io.proofs.Streams.{Grows-nil}
use Rattle.hose_graph.specs.Network.{Network}
use Rattle.hose_graph.specs.declared.entry.Entry.{Entry}
use Rattle.hose_disk.specs.declared.disk.Disk.{Ghosts as DiskGhosts}
use Rattle.hose_journal.specs.Chain.{chain}
use Rattle.hose_journal.specs.Image.{IsClosed, front_of}
use Rattle.hose_journal.specs.Layout.{chained_version}
use Rattle.hose_journal.specs.Moments.{LeavesOnly}
use Rattle.hose_journal.specs.Opening.{AddsNoRecord, HasNoRecord}
use Rattle.hose_journal.specs.declared.prepared.Ready.{Ready}
use Rattle.hose_journal.proofs.Runs.{started}
use Rattle.hose_store.specs.Entries.{BeginsWith, HasEntries}
use Rattle.hose_store.specs.steps.Before.{AreAllBefore}
use Rattle.hose_store.specs.Recovery.{digest_of}
use Rattle.hose_store.specs.Replaying.{IsOnlyOpened, KeepsRead}
use Rattle.hose_store.specs.steps.Replaying.{HasReplayed, IsReplaying}
use Rattle.hose_store.specs.declared.fault.StoreFault.{StoreFault}
use Rattle.hose_store.specs.declared.replay.Replay.{Replay}
use Rattle.hose_follow.specs.Follower.{Faulted}
use Rattle.hose_follow.specs.Packet.{Packet, packet_after, packet_bytes, packets_after, packets_bytes, packets_from}
use Rattle.hose_follow.specs.steps.Shipping.{AddsAll, HasAdded, HasAddedAll, HasAddedUpTo, OutgoingPackets, Shipment, Ships, ShipsBefore, outgoing_packets, shipment, shipped_of}

drop_none : {X : Type 0} (n : ℕ) (none : List X) → none ≡ [] → drop n none ≡ []
drop_none zero none is = is
drop_none (suc n) [] is = refl
drop_none (suc n) (x ∷ xs) is = absurd (cc is)

-- ---- the packets of one entry more

packets_push : (network : Network) (before entries : List Entry) (entry : Entry) → packets_after network before (entries ++ entry ∷ []) ≡ packets_after network before entries ++ packet_after network (before ++ entries) entry ∷ []
packets_push network before [] entry = ap (λ (l : List Entry). packet_after network l entry ∷ []) (sym (append-nil before))
packets_push network before (first ∷ entries) entry =
    ap (λ (l : List Packet). packet_after network before first ∷ l)
    (packets_push network (before ++ first ∷ []) entries entry
    ∙ ap (λ (l : List Entry). packets_after network (before ++ first ∷ []) entries ++ packet_after network l entry ∷ []) (append_assoc before (first ∷ []) entries))

length-packets : (network : Network) (before entries : List Entry) → length (packets_after network before entries) ≡ length entries
length-packets network before [] = refl
length-packets network before (entry ∷ entries) = ap suc (length-packets network (before ++ entry ∷ []) entries)

-- one that is wanted
wanted_more : (network : Network) (from : ℕ) (entries : List Entry) (entry : Entry) → from ≤ length entries + 1 → packets_from network from (entries ++ entry ∷ []) ≡ packets_from network from entries ++ packet_after network entries entry ∷ []
wanted_more network from entries entry low =
    ap (λ (l : List Packet). drop (from - 1) l) (packets_push network [] entries entry)
    ∙ drop-append-le (from - 1) (packets_after network [] entries) (packet_after network entries entry ∷ []) (omega (arith, low, length-packets network [] entries))

-- one that is not
passed_more : (network : Network) (from : ℕ) (entries : List Entry) (entry : Entry) → length entries + 1 < from → packets_from network from (entries ++ entry ∷ []) ≡ packets_from network from entries
passed_more network from entries entry high =
    let size : length (entries ++ entry ∷ []) ≡ length entries + 1 = length-append entries (entry ∷ []) in
    drop_all (from - 1) (packets_after network [] (entries ++ entry ∷ [])) (omega (arith, high, size, length-packets network [] (entries ++ entry ∷ [])))
    ∙ sym (drop_all (from - 1) (packets_after network [] entries) (omega (arith, high, length-packets network [] entries)))

-- the bytes of one packet more
bytes_push : (packets : List Packet) (packet : Packet) → packets_bytes (packets ++ packet ∷ []) ≡ packets_bytes packets ++ packet_bytes packet
bytes_push packets packet = flat_map-append packet_bytes packets (packet ∷ []) ∙ ap (λ (l : List ℕ). packets_bytes packets ++ l) (append-nil (packet_bytes packet))

-- how many they are
pub count_of : (network : Network) (from : ℕ) (entries : List Entry) → length (packets_from network from entries) ≡ length entries - (from - 1)
count_of network from entries = length-drop (from - 1) (packets_after network [] entries) ∙ ap (λ (n : ℕ). n - (from - 1)) (length-packets network [] entries)

-- a call that failed
faulted : {T : Type 0} {before after : Frame} {result : Result T Failed} → Met before after result → IsErr result → Faulted before after
faulted met failed = record { rose = met.failed failed; stays = met.stays }

-- ---- what was read

none_held : (network : Network) (content : Option (List ℕ)) (none : List Entry) → none ≡ [] → IfSome content (λ bytes. (none ≡ []) ⊎ BeginsWith (digest_of network) none bytes)
none_held network None none is = tt
none_held network (Some bytes) none is = inl is

-- no entry was read
pub no_entries : (network : Network) (content : Option (List ℕ)) → HasEntries network content []
no_entries network content = record { sound = tt; read = none_held network content [] refl }

module _ {S D : Type 0} (sink : SinkGhosts S) (disk : DiskGhosts D) where
  -- no packet is out, and no entry stands before damage
  pub none_before : (output : S) (was : D) (network : Network) (from : ℕ) (fault : StoreFault) → AreAllBefore network (disk.content was) [] fault → ShipsBefore disk (shipment was network from) (Grows (sink.content output) (sink.content output)) fault
  none_before output was network from fault all = record {
    part = record {
      entries = [];
      held = no_entries network (disk.content was);
      out = subst (λ (packets : List Packet). Grows (sink.content output) (sink.content output) (packets_bytes packets)) (sym (drop_none (from - 1) [] refl)) (Grows-nil (sink.content output));
    };
    all = all;
  }

  -- the disk was not touched
  pub untouched : (was : D) → ((image : List ℕ) → disk.left_since was (disk.moment was) image → disk.may_leave was image) → LeavesOnly disk was was (disk.may_leave was)
  untouched was only_now = started disk was (disk.may_leave was) only_now (λ image is. is)

  kept_adds_none : (was left : D) (network : Network) → KeepsRead disk was left network → AddsNoRecord (disk.content was) (disk.content left) (digest_of network)
  kept_adds_none was left network (inl same) = inl same
  kept_adds_none was left network (inr begun) = inr (begun.0, closed (disk.content left) begun.1)
    where
      closed : (content : Option (List ℕ)) → IfSome content (IsClosed (front_of chained_version (digest_of network) [])) → IfSome content (HasNoRecord (digest_of network))
      closed None is = tt
      closed (Some bytes) is = inr is

  module _ (was : D) (network : Network) (from : ℕ) where
    abbrev ships : Shipment D
    ships = shipment was network from

    -- before the first entry
    pub added_none : (replay : Replay D) (gather : Gathered) (output : S) → IsReplaying disk was network replay [] → HasAdded sink disk ships (outgoing_packets gather output) replay (outgoing_packets gather output)
    added_none replay gather output replaying = record {
      entries = [];
      replaying = replaying;
      added = subst (λ (packets : List Packet). IsAdded sink gather output gather output (packets_bytes packets)) (sym (drop_none (from - 1) [] refl)) (IsAdded-none sink gather output);
    }

    module _ (start : OutgoingPackets S) (old : Replay D) (gather : Gathered) (output : S) (has : HasAdded sink disk ships start old (outgoing_packets gather output)) where
      -- no entry was left
      pub added_all : (new : Replay D) → HasEntries network (disk.content was) has.entries → HasReplayed disk was network new has.entries (Ok None) → HasAddedAll sink disk ships start new (outgoing_packets gather output)
      added_all new held (replaying, read, count, opened, kept) = record {
        has = record { entries = has.entries; replaying = replaying; added = has.added };
        held = held;
        read = read;
        count = count;
        opened = opened;
        kept = kept;
      }

      -- a fault was met
      pub added_until : (new : Replay D) (fault : StoreFault) → HasEntries network (disk.content was) has.entries → AreAllBefore network (disk.content was) has.entries fault → HasReplayed disk was network new has.entries (Err fault) → HasAddedUpTo sink disk ships start new.reading.disk (outgoing_packets gather output) fault
      added_until new fault held all (refused, opened, kept) = record {
        entries = has.entries;
        held = held;
        added = has.added;
        all = all;
        refused = refused;
        opened = opened;
        kept = kept;
      }

      -- one entry more was read, which is wanted
      pub added_wanted : (new : Replay D) (ready : Ready) (after : Gathered) (now : S) (epoch : ℕ) (value : List ℕ) → HasReplayed disk was network new has.entries (Ok (Some ready)) → epoch ≡ length has.entries + 1 → value ≡ chain (digest_of network) has.entries
          → from ≤ epoch → IsAdded sink gather output after now (packet_bytes (record { epoch = epoch; chain = value; body = ready.bytes.items })) → HasAdded sink disk ships start new (outgoing_packets after now)
      added_wanted new ready after now epoch value (entry, is_ready, replaying) is_epoch is_value low added =
          let is_packet : packet_bytes (record { epoch = epoch; chain = value; body = ready.bytes.items }) ≡ packet_bytes (packet_after network has.entries entry) =
          ap (λ (n : ℕ). packet_bytes (record { epoch = n; chain = value; body = ready.bytes.items })) is_epoch
          ∙ ap (λ (l : List ℕ). packet_bytes (record { epoch = length has.entries + 1; chain = l; body = ready.bytes.items })) is_value
          ∙ ap (λ (l : List ℕ). packet_bytes (record { epoch = length has.entries + 1; chain = chain (digest_of network) has.entries; body = l })) is_ready.bytes in
          let one = subst (λ (l : List ℕ). IsAdded sink gather output after now l) is_packet added in
          let text : packets_bytes (packets_from network from (has.entries ++ entry ∷ [])) ≡ packets_bytes (packets_from network from has.entries) ++ packet_bytes (packet_after network has.entries entry) =
          ap packets_bytes (wanted_more network from has.entries entry (omega (arith, low, is_epoch))) ∙ bytes_push (packets_from network from has.entries) (packet_after network has.entries entry) in
          record {
            entries = has.entries ++ entry ∷ [];
            replaying = replaying;
            added = subst (λ (l : List ℕ). IsAdded sink start.gather start.sink after now l) (sym text) (IsAdded-next has.added one);
          }

      -- one entry more was read, which is passed over
      pub added_passed : (new : Replay D) (ready : Ready) (epoch : ℕ) → HasReplayed disk was network new has.entries (Ok (Some ready)) → epoch ≡ length has.entries + 1 → epoch < from → HasAdded sink disk ships start new (outgoing_packets gather output)
      added_passed new ready epoch (entry, is_ready, replaying) is_epoch high = record {
        entries = has.entries ++ entry ∷ [];
        replaying = replaying;
        added = subst (λ (l : List ℕ). IsAdded sink start.gather start.sink gather output l) (sym (ap packets_bytes (passed_more network from has.entries entry (omega (arith, high, is_epoch))))) has.added;
      }

    -- ---- all that was added went out

    module _ (replay : Replay D) (gather : Gathered) (first after now : S) where
      abbrev Adds : Result ⊤ StoreFault → Type 0
      Adds added = AddsAll sink disk ships (outgoing_packets none_gathered first) replay (outgoing_packets gather after) added

      pub shipped : (added : Result ⊤ StoreFault) (sent : Result ⊤ Failed) (count : ℕ) → Adds added → IsFinished sink gather after now sent → ((entries : List Entry) → IsReplaying disk was network replay entries → count ≡ length entries - (from - 1))
          → Ships sink disk first now ships replay.reading.disk (shipped_of added sent count)
      shipped (Ok value) (Err error) count all finished counted =
          let put = IsPut-finished (Err error) all.has.added finished in
          (record { entries = all.has.entries; held = all.held; out = put.err }, faulted put.met refl, all.kept)
      shipped (Err fault) (Err error) count up finished counted =
          let put = IsPut-finished (Err error) up.added finished in
          (record { entries = up.entries; held = up.held; out = put.err }, faulted put.met refl, up.kept)
      shipped (Ok value) (Ok done) count all finished counted =
          let put = IsPut-finished (Ok done) all.has.added finished in (
            record {
              history = all.has.entries;
              read = all.read;
              count = counted all.has.entries all.has.replaying ∙ sym (count_of network from all.has.entries);
              out = put.ok;
            },
            put.met.ok,
            all.count,
            all.kept,
          )
      shipped (Err fault) (Ok done) count up finished counted =
          let put = IsPut-finished (Ok done) up.added finished in
          (record { part = record { entries = up.entries; held = up.held; out = put.ok }; all = up.all }, put.met.ok, up.refused, kept_adds_none was replay.reading.disk network up.kept)

      pub shipped_opened : (added : Result ⊤ StoreFault) → Adds added → IsOnlyOpened disk was replay.reading.disk network
      shipped_opened (Ok value) all = all.opened
      shipped_opened (Err fault) up = up.opened
