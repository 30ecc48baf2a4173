-- Bytes as packets and what follows them.
use Rattle.std.specs.Prelude.{◌≡◌, ◌⊎◌, ℕ, List, ◌++◌, All}
use Rattle.hose_follow.specs.Packet.{BeginsNoPacket, IsPacket, IsPartOfPacket, Packet, packets_bytes}

-- The bytes are these packets, one after the other, and then this, which no whole packet begins.
pub record IsSplit (bytes : List ℕ) (packets : List Packet) (rest : List ℕ) : Type 0 where
  pub are : All IsPacket packets
  pub parts : bytes ≡ packets_bytes packets ++ rest
  pub ends : BeginsNoPacket rest ⊎ IsPartOfPacket rest
