-- What ends with no packet is not packets.
use Rattle.std.proofs.Common.{◌≡◌, ◌≢◌, ◌∙◌, ◌⊎◌, inl, inr, ℕ, List, [], ◌∷◌, ◌++◌, length, refl, sym, ap, subst, arith, append_assoc, append-nil, length-append, All}
use Rattle.std.proofs.lemmas.Grind.{flat_map-append}
use Rattle.byteorder.specs.Endian.{big_bytes}
use Rattle.byteorder.specs.Numbers.{length-bytes_high_first}
use Rattle.hose_follow.specs.Packet.{BeginsNoPacket, IsPacket, IsPartOfPacket, Packet, packet_bytes, packets_bytes}
use Rattle.hose_follow.specs.steps.Splitting.{IsSplit}
use Rattle.hose_follow.proofs.Splits.{one_split}

-- a packet behind others is some bytes
pub some_bytes : (packets : List Packet) (packet : Packet) (rest : List ℕ) → packets_bytes (packets ++ packet ∷ []) ++ rest ≡ [] → ⊥
some_bytes packets packet rest same = omega (
  arith,
  ap length same,
  length-append (packets_bytes (packets ++ packet ∷ [])) rest,
  ap length (flat_map-append packet_bytes packets (packet ∷ [])),
  length-append (packets_bytes packets) (packets_bytes (packet ∷ [])),
  length-append (packet_bytes packet) [],
  length-append (big_bytes 2 (length packet.body)) (big_bytes 4 packet.epoch ++ (packet.chain ++ packet.body)),
  length-bytes_high_first 2 (length packet.body),
)

-- What stands behind packets and begins no packet, or a part of one alone, is not packets.
abbrev pub EndsNoPacket : List ℕ → List ℕ → Type 0
EndsNoPacket rest left = BeginsNoPacket rest ⊎ ((rest ≢ []) × IsPartOfPacket rest × (left ≡ []))

at_none : (rest left : List ℕ) → [] ≡ rest ++ left → EndsNoPacket rest left → ⊥
at_none rest left same (inl (len, after, has, none)) = omega (
  arith,
  ap length same,
  length-append rest left,
  ap length has.is,
  length-append (big_bytes 2 len) after,
  length-bytes_high_first 2 len,
)
at_none [] left same (inr (some, part, last)) = some refl
at_none (byte ∷ rest) left same (inr (some, part, last)) = cc same

-- such bytes, with what follows them, are what no whole packet begins
ends_so : (rest left : List ℕ) → EndsNoPacket rest left → BeginsNoPacket (rest ++ left) ⊎ IsPartOfPacket (rest ++ left)
ends_so rest left (inl (len, after, has, none)) =
    inl (len, after ++ left, record { fits = has.fits; is = ap (λ (l : List ℕ). l ++ left) has.is ∙ append_assoc (big_bytes 2 len) after left }, none)
ends_so rest left (inr (some, part, last)) =
    inr (subst IsPartOfPacket (sym (ap (λ (l : List ℕ). rest ++ l) last ∙ append-nil rest)) part)

pub no_packets : (others packets : List Packet) (rest left : List ℕ) → All IsPacket others → All IsPacket packets → packets_bytes others ≡ packets_bytes packets ++ (rest ++ left) → EndsNoPacket rest left → ⊥
no_packets others packets rest left are are' same ends =
    let whole : IsSplit (packets_bytes others) others [] = record { are = are; parts = sym (append-nil (packets_bytes others)); ends = inr (inl (omega arith)) } in
    let parted : IsSplit (packets_bytes others) packets (rest ++ left) = record { are = are'; parts = same; ends = ends_so rest left ends } in
    at_none rest left (one_split (packets_bytes others) others packets [] (rest ++ left) whole parted).1 ends
