-- Bytes are split into packets in one way.
use Rattle.std.proofs.Common.{◌≡◌, ◌∙◌, ◌⊎◌, inl, inr, ℕ, ◌+◌, List, [], ◌∷◌, ◌++◌, length, refl, sym, ap, subst, arith, append_assoc, length-append, All}
use Rattle.std.proofs.lemmas.List.Elements.{All-head, All-tail}
use Rattle.byteorder.specs.Endian.{big_bytes}
use Rattle.byteorder.specs.Numbers.{length-bytes_high_first}
use Rattle.hose_codec.proofs.Numbers.{same_numbers, same_parts}
use Rattle.hose_follow.specs.Packet.{BeginsNoPacket, HasLength, IsPacket, IsPartOfPacket, Packet, packet_bytes, packets_bytes}
use Rattle.hose_follow.specs.steps.Splitting.{IsSplit}

-- what a packet has behind its epoch, and behind its length
abbrev behind_epoch : Packet → List ℕ
behind_epoch packet = packet.chain ++ packet.body

abbrev behind_length : Packet → List ℕ
behind_length packet = big_bytes 4 packet.epoch ++ behind_epoch packet

-- a packet has 38 bytes and its body
pub length-packet : (packet : Packet) → IsPacket packet → length (packet_bytes packet) ≡ 38 + length packet.body
length-packet packet is = omega (
  arith,
  is.chain,
  length-append (big_bytes 2 (length packet.body)) (behind_length packet),
  length-append (big_bytes 4 packet.epoch) (behind_epoch packet),
  length-append packet.chain packet.body,
  length-bytes_high_first 2 (length packet.body),
  length-bytes_high_first 4 packet.epoch,
)

-- ---- no packet

-- the length that a packet tells is the one with which the bytes begin
one_length : (packet : Packet) (more rest : List ℕ) (len : ℕ) → IsPacket packet → HasLength (packet_bytes packet ++ more) len rest → length packet.body ≡ len
one_length packet more rest len is has =
    let cut : big_bytes 2 (length packet.body) ++ (behind_length packet ++ more) ≡ big_bytes 2 len ++ rest =
    sym (append_assoc (big_bytes 2 (length packet.body)) (behind_length packet) more) ∙ has.is in
    (same_numbers 2 (length packet.body) len (behind_length packet ++ more) rest (omega (arith, is.few)) (omega (arith, has.fits)) cut).0

-- what begins with a packet is neither a part of one nor none
no_packet : (packet : Packet) (more : List ℕ) → IsPacket packet → BeginsNoPacket (packet_bytes packet ++ more) ⊎ IsPartOfPacket (packet_bytes packet ++ more) → ⊥
no_packet packet more is (inl (len, rest, has, inl zero)) = omega (arith, zero, one_length packet more rest len is has, is.some)
no_packet packet more is (inl (len, rest, has, inr many)) = omega (arith, many, one_length packet more rest len is has, is.few)
no_packet packet more is (inr (inl short)) = omega (arith, short, length-append (packet_bytes packet) more, length-packet packet is)
no_packet packet more is (inr (inr (len, rest, has, some, short))) = omega (
  arith,
  short,
  one_length packet more rest len is has,
  length-append (packet_bytes packet) more,
  length-packet packet is,
)

-- ---- one packet

abbrev packet_of : ℕ → List ℕ → List ℕ → Packet
packet_of epoch chain body = record { epoch = epoch; chain = chain; body = body }

same_packet : (one other : Packet) → one.epoch ≡ other.epoch → one.chain ≡ other.chain → one.body ≡ other.body → one ≡ other
same_packet one other epoch chain body =
    ap (λ (n : ℕ). packet_of n one.chain one.body) epoch
    ∙ ap (λ (value : List ℕ). packet_of other.epoch value one.body) chain
    ∙ ap (λ (bytes : List ℕ). packet_of other.epoch other.chain bytes) body

-- packets with which the same bytes begin are equal, and so is what is behind them
pub one_packet : (one other : Packet) (more rest : List ℕ) → IsPacket one → IsPacket other → packet_bytes one ++ more ≡ packet_bytes other ++ rest → (one ≡ other) × (more ≡ rest)
one_packet one other more rest is is' same =
    let lengths = same_numbers 2 (length one.body) (length other.body) (behind_length one ++ more) (behind_length other ++ rest) (omega (arith, is.few)) (omega (arith, is'.few))
    (sym (append_assoc (big_bytes 2 (length one.body)) (behind_length one) more) ∙ (same ∙ append_assoc (big_bytes 2 (length other.body)) (behind_length other) rest)) in
    let epochs = same_numbers 4 one.epoch other.epoch (behind_epoch one ++ more) (behind_epoch other ++ rest) (omega (arith, is.epoch)) (omega (arith, is'.epoch))
    (sym (append_assoc (big_bytes 4 one.epoch) (behind_epoch one) more) ∙ (lengths.1 ∙ append_assoc (big_bytes 4 other.epoch) (behind_epoch other) rest)) in
    let chains = same_parts one.chain other.chain (one.body ++ more) (other.body ++ rest) (is.chain ∙ sym is'.chain)
    (sym (append_assoc one.chain one.body more) ∙ (epochs.1 ∙ append_assoc other.chain other.body rest)) in
    let bodies = same_parts one.body other.body more rest lengths.0 chains.1 in
    (same_packet one other epochs.0 chains.0 bodies.0, bodies.1)

-- ---- packets

same_more : {X : Type 0} (x y : X) (xs ys : List X) → x ≡ y → xs ≡ ys → x ∷ xs ≡ y ∷ ys
same_more x y xs ys first others = cc (first, others)

abbrev EndsSo : List ℕ → Type 0
EndsSo rest = BeginsNoPacket rest ⊎ IsPartOfPacket rest

one_list : (one other : List Packet) (rest left : List ℕ) → All IsPacket one → All IsPacket other → EndsSo rest → EndsSo left → packets_bytes one ++ rest ≡ packets_bytes other ++ left → (one ≡ other) × (rest ≡ left)
one_list [] [] rest left are are' ends ends' same = (refl, same)
one_list [] (packet ∷ packets) rest left are are' ends ends' same =
    let cut = same ∙ append_assoc (packet_bytes packet) (packets_bytes packets) left in
    absurd (no_packet packet (packets_bytes packets ++ left) (All-head IsPacket packet packets are') (subst EndsSo cut ends))
one_list (packet ∷ packets) [] rest left are are' ends ends' same =
    let cut = sym same ∙ append_assoc (packet_bytes packet) (packets_bytes packets) rest in
    absurd (no_packet packet (packets_bytes packets ++ rest) (All-head IsPacket packet packets are) (subst EndsSo cut ends'))
one_list (packet ∷ packets) (other ∷ others) rest left are are' ends ends' same =
    let cut : packet_bytes packet ++ (packets_bytes packets ++ rest) ≡ packet_bytes other ++ (packets_bytes others ++ left) =
    sym (append_assoc (packet_bytes packet) (packets_bytes packets) rest) ∙ (same ∙ append_assoc (packet_bytes other) (packets_bytes others) left) in
    let first = one_packet packet other (packets_bytes packets ++ rest) (packets_bytes others ++ left) (All-head IsPacket packet packets are) (All-head IsPacket other others are') cut in
    let more = one_list packets others rest left (All-tail IsPacket packet packets are) (All-tail IsPacket other others are') ends ends' first.1 in
    (same_more packet other packets others first.0 more.0, more.1)

pub one_split : (bytes : List ℕ) (one other : List Packet) (rest left : List ℕ) → IsSplit bytes one rest → IsSplit bytes other left → (one ≡ other) × (rest ≡ left)
one_split bytes one other rest left split split' =
    one_list one other rest left split.are split'.are split.ends split'.ends (sym split.parts ∙ split'.parts)
