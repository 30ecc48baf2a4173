use Rattle.std.proofs.Common.{◌≡◌, ◌∙◌, ℕ, drop, length, ap, arith}
use Rattle.byteorder.specs.Endian.{big_bytes}
use Rattle.hose_follow.proofs.Packets.{begins_packet, has_length}
use Rattle.hose_follow.proofs.packet.front_of.Goals as goal

pub returns : goal.returns
returns c =
    let len = c.number_of_two-len.result in
    let after = c.split_at.result.1.now in
    let has = has_length c.args.bytes.now c.split_at.result.0.now after len c.split_at.ensures.front c.split_at.ensures.back c.number_of_two-len.ensures (omega arith) in
    let number : big_bytes 4 c.from.result ≡ c.split_at-2.result.0.now = ap (λ (n : ℕ). big_bytes 4 n) c.from.ensures ∙ c.number_of_four.ensures in
    let value = c.value_of.ensures ∙ c.split_at-3.ensures.front in
    let size : length c.value_of.result ≡ 32 = omega (arith, ap length c.value_of.ensures, c.split_at-3.ensures.front_len) in (
      drop len c.split_at-3.result.1.now,
      begins_packet c.args.bytes.now after c.split_at-2.result.0.now c.split_at-2.result.1.now c.value_of.result c.split_at-3.result.1.now len c.from.result
          has c.split_at-2.ensures.front c.split_at-2.ensures.back number (omega (arith, c.from.ensures)) value c.split_at-3.ensures.back (omega arith) (omega arith) (omega arith) size,
    )
