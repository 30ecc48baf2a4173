-- What is at hand of a history.
use Rattle.std.specs.Prelude.{◌≡◌, ℕ, ◌+◌, List, [], ◌∷◌, Some, length, slice_get, ⊤}
use Rattle.hose_graph.specs.Network.{Network}
use Rattle.hose_graph.specs.declared.entry.Entry.{Entry}
use Rattle.hose_journal.specs.Chain.{chain}
use Rattle.hose_store.specs.Recovery.{digest_of}
use Rattle.hose_follow.specs.Packet.{packet_bytes}
use Rattle.hose_follow.specs.Replication.{packet_at}
use Rattle.hose_lead.specs.Leading.{IsValueAt}
use Rattle.hose_lead.specs.LedStore.{KeptPacket, RecentState}

-- the bytes are those of the packet of the entry behind so many
pub record IsPacketBehind (network : Network) (list : List Entry) (count : ℕ) (bytes : List ℕ)
    : Type 0 where
  pub entry : Entry
  pub there : slice_get list count ≡ Some entry
  pub is : bytes ≡ packet_bytes (packet_at network list count entry)

-- the packets are those of the entries behind so many, in order
abbrev pub AreKept : Network → List Entry → ℕ → List KeptPacket → Type 0
AreKept network list count [] = ⊤
AreKept network list count (kept ∷ more) = IsValueAt network list count kept.before
    × IsPacketBehind network list count kept.bytes × AreKept network list (count + 1) more

-- how many bytes packets have in all
abbrev pub kept_size : List KeptPacket → ℕ
kept_size [] = 0
kept_size (kept ∷ more) = length kept.bytes + kept_size more

-- the packets at hand are the last ones of these entries
pub record IsRecentOf (network : Network) (list : List Entry) (recent : RecentState) : Type 0 where
  pub epoch : recent.epoch ≡ length list
  pub value : recent.value ≡ chain (digest_of network) list
  pub first : ℕ
  pub reaches : first + length recent.kept ≡ length list
  pub are : AreKept network list first recent.kept
