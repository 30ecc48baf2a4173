-- A leader, the packets that it sent, and a follower that is offered them in whatever order.
use Rattle.std.specs.Prelude.{◌≡◌, ℕ, List, take, All, Some, slice_get}
use Rattle.hose_graph.specs.Network.{Network}
use Rattle.hose_graph.specs.declared.entry.Entry.{Entry}
use Rattle.hose_law.specs.History.{IsSound}
use Rattle.hose_codec.specs.Spelling.{IsEntry}
use Rattle.hose_follow.specs.Packet.{Packet, packet_after}

-- the packet of a place of a list
abbrev pub packet_at : Network → List Entry → ℕ → Entry → Packet
packet_at network list place entry = packet_after network (take place list) entry

-- ---- beginnings

-- The leader's list is sound, and each of its entries has a spelling. Who decided them is left
-- open: so it may be that of a journal to which orders were moved.
pub record IsLeader (network : Network) (list : List Entry) : Type 0 where
  pub sound : IsSound network 0 list
  pub spelled : All IsEntry list

-- ---- what holds after any events

-- the packet is that of some place of the list
abbrev pub IsSentOf : Network → List Entry → Packet → Type 0
IsSentOf network leader packet = (place : ℕ) × (entry : Entry)
    × (slice_get leader place ≡ Some entry) × (packet ≡ packet_at network leader place entry)
