-- What a follower gets of a connection are packets that were sent.
use Rattle.std.proofs.Common.{◌≡◌, ◌∙◌, ℕ, suc, List, [], ◌∷◌, ◌++◌, length, take, drop, sym, ap, subst, arith, append_assoc, length-append, take-append-drop, All, Contains}
use Rattle.std.proofs.lemmas.List.Elements.{All-cons, All-drop, All-head, All-nil, All-tail, All-weaker, Contains-append_right}
use Rattle.hose_follow.specs.Packet.{IsPacket, Packet, packet_bytes, packets_bytes}
use Rattle.hose_follow.proofs.Splits.{length-packet, one_packet}

arrive : (sent packets : List Packet) (more : List ℕ) → All IsPacket sent → All IsPacket packets → packets_bytes sent ≡ packets_bytes packets ++ more → All (Contains sent) packets
arrive sent [] more are also same = All-nil (Contains sent)
arrive [] (packet ∷ packets) more are also same =
    absurd (omega (arith, ap length same, length-append (packet_bytes packet ++ packets_bytes packets) more, length-append (packet_bytes packet) (packets_bytes packets), length-packet packet (All-head IsPacket packet packets also)))
arrive (first ∷ sent) (packet ∷ packets) more are also same =
    let cut = same ∙ append_assoc (packet_bytes packet) (packets_bytes packets) more in
    let one = one_packet packet first (packets_bytes packets ++ more) (packets_bytes sent) (All-head IsPacket packet packets also) (All-head IsPacket first sent are) (sym cut) in
    All-cons (Contains (first ∷ sent)) packet packets (0, omega arith, sym one.0)
    (All-weaker (Contains sent) (Contains (first ∷ sent)) (λ each there. (suc there.0, omega (arith, there.1), there.2)) packets
    (arrive sent packets more (All-tail IsPacket first sent are) (All-tail IsPacket packet packets also) (sym one.1)))

pub arrives : (sent packets : List Packet) (from : ℕ) (got unread rest : List ℕ) → All IsPacket sent → All IsPacket packets → got ++ unread ≡ packets_bytes (drop from sent) → got ≡ packets_bytes packets ++ rest → All (Contains sent) packets
arrives sent packets from got unread rest are also all cut =
    let same : packets_bytes (drop from sent) ≡ packets_bytes packets ++ (rest ++ unread) =
    sym all ∙ ap (λ (l : List ℕ). l ++ unread) cut ∙ append_assoc (packets_bytes packets) rest unread in
    All-weaker (Contains (drop from sent)) (Contains sent)
    (λ packet there. subst (λ (l : List Packet). Contains l packet) (take-append-drop from sent) (Contains-append_right (take from sent) (drop from sent) packet there)) packets
    (arrive (drop from sent) packets (rest ++ unread) (All-drop IsPacket from sent are) also same)
