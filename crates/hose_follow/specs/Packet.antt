-- Packets: the entries of a leader's journal, as they are sent to a follower.
use Rattle.std.specs.Prelude.{◌≡◌, ◌⊎◌, ℕ, ◌+◌, ◌-◌, ◌<◌, ◌≤◌, ◌^◌, List, [], ◌∷◌, ◌++◌, length, drop}
use Rattle.std.specs.List.{flat_map}
use Rattle.byteorder.specs.Endian.{big_bytes}
use Rattle.hose_graph.specs.Network.{Network}
use Rattle.hose_graph.specs.declared.entry.Entry.{Entry}
use Rattle.hose_codec.specs.Spelling.{spelling}
use Rattle.hose_codec.specs.Limits.{most_spelling}
use Rattle.hose_journal.specs.Chain.{chain}
use Rattle.hose_store.specs.Recovery.{digest_of}
use Rattle.hose_follow.specs.Layout.{value_bytes, body_length_bytes, epoch_bytes, front_bytes}

-- A packet: the epoch after its entry, the chain value before the entry, and a body. In a leader's
-- packet the body is the entry's spelling.
pub record Packet : Type 0 where
  pub epoch : ℕ
  pub chain : List ℕ
  pub body : List ℕ

-- ---- the bytes of packets

-- a packet that the format has
pub record IsPacket (packet : Packet) : Type 0 where
  pub epoch : packet.epoch < 2 ^ 32
  pub chain : length packet.chain ≡ value_bytes
  pub some : 1 ≤ length packet.body
  pub few : length packet.body ≤ most_spelling

-- the bytes of a packet: its body's length, its epoch, its chain value and its body
abbrev pub packet_bytes : Packet → List ℕ
packet_bytes packet = big_bytes body_length_bytes (length packet.body)
    ++ (big_bytes epoch_bytes packet.epoch ++ (packet.chain ++ packet.body))

-- packets, one after the other
abbrev pub packets_bytes : List Packet → List ℕ
packets_bytes packets = flat_map packet_bytes packets

-- the bytes begin with the length of a body, and this follows
pub record HasLength (bytes : List ℕ) (len : ℕ) (rest : List ℕ) : Type 0 where
  pub fits : len < 2 ^ 16
  pub is : bytes ≡ big_bytes body_length_bytes len ++ rest

-- no body has this length
abbrev pub IsNoLength : ℕ → Type 0
IsNoLength len = (len ≡ 0) ⊎ (most_spelling < len)

-- No packet begins so: the bytes begin with a length that no body has.
abbrev pub BeginsNoPacket : List ℕ → Type 0
BeginsNoPacket bytes = (len : ℕ) × (rest : List ℕ) × HasLength bytes len rest × IsNoLength len

-- The front of a packet, and not all of it: too few bytes for a length, or for the packet of the
-- body's length that they begin with.
abbrev pub IsPartOfPacket : List ℕ → Type 0
IsPartOfPacket bytes = (length bytes < body_length_bytes)
    ⊎ ((len : ℕ) × (rest : List ℕ) × HasLength bytes len rest × (¬ IsNoLength len)
    × (length bytes < front_bytes + len))

-- ---- the packets of entries

-- the packet of an entry after the entries before it
abbrev pub packet_after : Network → List Entry → Entry → Packet
packet_after network before entry = record {
  epoch = length before + 1;
  chain = chain (digest_of network) before;
  body = spelling entry;
}

-- the packets of entries, in order, where others stand before them
abbrev pub packets_after : Network → List Entry → List Entry → List Packet
packets_after network before [] = []
packets_after network before (entry ∷ entries) =
    packet_after network before entry ∷ packets_after network (before ++ entry ∷ []) entries

-- the packets of a history's entries from an epoch on, where the first entry's epoch is 1
abbrev pub packets_from : Network → ℕ → List Entry → List Packet
packets_from network from history = drop (from - 1) (packets_after network [] history)
