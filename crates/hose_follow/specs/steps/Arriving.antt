-- What stands at the front of bytes that were taken of an input.
use Rattle.std.specs.Prelude.{◌≡◌, List, ℕ, ◌++◌}
use Rattle.hose_follow.specs.Packet.{BeginsNoPacket, IsPacket, IsPartOfPacket, Packet, packet_bytes}
use Rattle.hose_follow.specs.declared.packet.Front.{Front}
use Rattle.hose_follow.specs.declared.packet.Front.TheVariants.{Whole, Part, Bad}

-- the bytes begin with this packet, and this follows
pub record BeginsPacket (bytes : List ℕ) (packet : Packet) (rest : List ℕ) : Type 0 where
  pub is_packet : IsPacket packet
  pub is : bytes ≡ packet_bytes packet ++ rest

-- a whole packet; the front of one; or no packet begins so
abbrev pub IsFrontOf : List ℕ → Front → Type 0
IsFrontOf bytes (Whole epoch chain body) = (rest : List ℕ)
    × BeginsPacket bytes (record { epoch = epoch; chain = chain; body = body.now }) rest
IsFrontOf bytes Part = IsPartOfPacket bytes
IsFrontOf bytes Bad = BeginsNoPacket bytes
