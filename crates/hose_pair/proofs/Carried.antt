-- What comes to a follower by a leader's connection: packets of the leader's entries, where the
-- follower was compared, and packets that bring no entry.
use Rattle.std.proofs.Common.{◌≡◌, ◌∙◌, ◌⊎◌, inl, inr, ⊎_elim, ℕ, zero, suc, ◌+◌, ◌<◌, ◌≤◌, ◌^◌, List, [], ◌∷◌, ◌++◌, Some, length, take, replicate, refl, sym, ap, subst, arith, append_assoc, length-append, All, Contains}
use Rattle.std.specs.List.{slice_get}
use Rattle.std.proofs.lemmas.List.{length-take-le, take-append-le}
use Rattle.std.proofs.lemmas.List.Elements.{All-cons, All-head, All-nil, All-push, All-tail, Contains-append_right}
use Rattle.std.proofs.lemmas.Option.{slice_get_within}
use mathlib.Core.List.{IsPrefix}
use Rattle.byteorder.specs.Endian.{big_bytes}
use Rattle.byteorder.specs.Numbers.{length-bytes_high_first}
use Rattle.hose_graph.specs.Network.{Network}
use Rattle.hose_graph.specs.declared.entry.Entry.{Entry}
use Rattle.hose_graph.specs.declared.entry.Entry.TheVariants.{Admit, Release, Down, Up}
use Rattle.hose_codec.specs.Spelling.{IsEntry, spelling}
use Rattle.hose_codec.specs.Limits.{most_spelling}
use Rattle.hose_codec.proofs.Entries.{length-spelling}
use Rattle.hose_codec.proofs.Numbers.{same_numbers, same_parts}
use Rattle.hose_follow.specs.Answers.{offered_text, offered_texts}
use Rattle.hose_follow.specs.Packet.{IsPacket, Packet, packet_after, packet_bytes, packets_bytes}
use Rattle.hose_follow.specs.Replication.{IsLeader, IsSentOf, packet_at}
use Rattle.hose_follow.specs.steps.Lines.{HasLine}
use Rattle.hose_follow.specs.declared.answers.Offered.{Offered}
use Rattle.hose_follow.specs.declared.answers.Offered.TheVariants.{Differs, Have}
use Rattle.hose_follow.proofs.Splits.{one_packet}
use Rattle.hose_law.proofs.Fronts.{prefix_length}
use Rattle.hose_lead.specs.Leading.{AreHandedOut, BeginWith, IsCompared, IsHeard, Offers, ask_epoch, ask_have, ask_value, no_value, probe, probes_of, asked_again, both_probes, entry_more, first_probe, nothing_yet, probed, with_entries}
use Rattle.hose_pair.specs.steps.Written.{IsValue, IsWritten}
use Rattle.hose_pair.proofs.Lines.{heard}
use Rattle.hose_pair.proofs.Values.{chain_value, few_entries}

-- ---- what stands at a place

get_longer : {X : Type 0} (xs more : List X) (place : ℕ) (x : X) → slice_get xs place ≡ Some x → slice_get (xs ++ more) place ≡ Some x
get_longer [] more place x there = absurd (cc there)
get_longer (y ∷ xs) more zero x there = there
get_longer (y ∷ xs) more (suc place) x there = get_longer xs more place x there

all_at : {X : Type 0} (P : X → Type 0) (xs : List X) (place : ℕ) (x : X) → All P xs → slice_get xs place ≡ Some x → P x
all_at P [] place x all there = absurd (cc there)
all_at P (y ∷ xs) zero x all there = subst P (cc there) (All-head P y xs all)
all_at P (y ∷ xs) (suc place) x all there = all_at P xs place x (All-tail P y xs all) there

-- ---- two packets with which the same bytes begin

abbrev behind_epoch : Packet → List ℕ
behind_epoch packet = packet.chain ++ packet.body

abbrev behind_length : Packet → List ℕ
behind_length packet = big_bytes 4 packet.epoch ++ behind_epoch packet

-- their bodies are the same, whatever number the epoch of one is written for
one_body : (one other : Packet) (more rest : List ℕ) → IsPacket one → length other.chain ≡ 32 → length other.body < 2 ^ 16 → packet_bytes one ++ more ≡ packet_bytes other ++ rest → (one.body ≡ other.body) × (more ≡ rest)
one_body one other more rest is long few same =
    let lengths = same_numbers 2 (length one.body) (length other.body) (behind_length one ++ more) (behind_length other ++ rest) (omega (arith, is.few)) (omega (arith, few))
    (sym (append_assoc (big_bytes 2 (length one.body)) (behind_length one) more) ∙ (same ∙ append_assoc (big_bytes 2 (length other.body)) (behind_length other) rest)) in
    let epochs = same_parts (big_bytes 4 one.epoch) (big_bytes 4 other.epoch) (behind_epoch one ++ more) (behind_epoch other ++ rest) (length-bytes_high_first 4 one.epoch ∙ sym (length-bytes_high_first 4 other.epoch))
    (sym (append_assoc (big_bytes 4 one.epoch) (behind_epoch one) more) ∙ (lengths.1 ∙ append_assoc (big_bytes 4 other.epoch) (behind_epoch other) rest)) in
    let chains = same_parts one.chain other.chain (one.body ++ more) (other.body ++ rest) (is.chain ∙ sym long)
    (sym (append_assoc one.chain one.body more) ∙ (epochs.1 ∙ append_assoc other.chain other.body rest)) in
    same_parts one.body other.body more rest lengths.0 chains.1

-- ---- what is handed out

some_spelling : (entry : Entry) → 1 ≤ length (spelling entry)
some_spelling (Admit customer hose amounts) = omega arith
some_spelling (Release customer id) = omega arith
some_spelling (Down link) = omega arith
some_spelling (Up link) = omega arith

module _ (network : Network) (leader : List Entry) (is_leader : IsLeader network leader) where
  -- the packet of an entry of a beginning is one of the leader's
  sent_of : (list : List Entry) (place : ℕ) (entry : Entry) → IsPrefix list leader → slice_get list place ≡ Some entry → IsSentOf network leader (packet_at network list place entry)
  sent_of list place entry (more, same) there =
      let within = slice_get_within list place entry there in
      let fronts = take-append-le place list more (omega (arith, within)) in (
        place,
        entry,
        subst (λ (l : List Entry). slice_get l place ≡ Some entry) same (get_longer list more place entry there),
        ap (λ (l : List Entry). packet_after network l entry) (sym fronts ∙ ap (take place) same),
      )

  packet_is : (packet : Packet) → IsSentOf network leader packet → IsPacket packet
  packet_is packet (place, entry, there, is) =
      let within = slice_get_within leader place entry there in
      let few = few_entries network leader is_leader in
      let size = length-take-le place leader (omega (arith, within)) in
      let spelled = length-spelling entry (all_at IsEntry leader place entry is_leader.spelled there) in
      subst IsPacket (sym is) (record {
        epoch = omega (arith, within, few, size);
        chain = (chain_value network (take place leader)).0;
        some = some_spelling entry;
        few = omega (arith, spelled);
      })

  module _ (lines : List (List ℕ)) (list : List Entry) (begins : IsPrefix list leader) where
    -- what comes is a packet of an entry of the leader, and the follower was compared; or its body
    -- spells no entry
    abbrev pub Comes : Packet → Type 0
    Comes packet = (packet.body ≡ 0 ∷ []) ⊎ (IsSentOf network leader packet × ((start : ℕ) × IsCompared network list lines start))

    record IsHanded (packet : Packet) : Type 0 where
      long : length packet.chain ≡ 32
      some : 1 ≤ length packet.body
      few : length packet.body ≤ most_spelling
      comes : Comes packet

    probe_handed : (epoch : ℕ) → IsHanded (probe epoch)
    probe_handed epoch = record { long = refl; some = omega arith; few = omega arith; comes = inl refl }

    entry_handed : (start place : ℕ) (entry : Entry) → IsCompared network list lines start → slice_get list place ≡ Some entry → IsHanded (packet_at network list place entry)
    entry_handed start place entry compared there =
        let sent = sent_of list place entry begins there in
        let is = packet_is (packet_at network list place entry) sent in
        record { long = is.chain; some = is.some; few = is.few; comes = inr (sent, (start, compared)) }

    both_handed : (start : ℕ) → All IsHanded (probes_of start)
    both_handed start = All-cons IsHanded ask_epoch (ask_value start ∷ []) (probe_handed 4294967295) (All-cons IsHanded (ask_value start) [] (probe_handed (start + 1)) (All-nil IsHanded))

    offers_handed : (start upto : ℕ) (packets : List Packet) → IsCompared network list lines start → Offers network list start upto packets → All IsHanded packets
    offers_handed start _ _ compared probed = both_handed start
    offers_handed start _ _ compared (entry_more {upto} {packets} entry before there) =
        All-push IsHanded packets (packet_at network list upto entry) (offers_handed start upto packets compared before) (entry_handed start upto entry compared there)
    offers_handed start _ _ compared (asked_again {upto} {packets} before) = All-push IsHanded packets ask_have (offers_handed start upto packets compared before) (probe_handed 0)

    all_handed : (packets : List Packet) → AreHandedOut network list lines packets → All IsHanded packets
    all_handed _ nothing_yet = All-nil IsHanded
    all_handed _ first_probe = All-cons IsHanded ask_epoch [] (probe_handed 4294967295) (All-nil IsHanded)
    all_handed _ (both_probes start tells) = both_handed start
    all_handed _ (with_entries start upto packets tells compared offers) = offers_handed start upto packets compared offers

    -- ---- what comes

    one_comes : (one other : Packet) (more rest : List ℕ) → IsPacket one → IsHanded other → packet_bytes one ++ more ≡ packet_bytes other ++ rest → Comes one × (more ≡ rest)
    one_comes one other more rest is handed same = ⊎_elim
        (λ none. let bodies = one_body one other more rest is handed.long (omega (arith, handed.few)) same in (inl (bodies.0 ∙ none), bodies.1))
        (λ sent. let packets = one_packet one other more rest is (packet_is other sent.0) same in (inr (subst (IsSentOf network leader) (sym packets.0) sent.0, sent.1), packets.1))
        handed.comes

    long_packet : (packet : Packet) → 1 ≤ length (packet_bytes packet)
    long_packet packet = omega (arith, length-append (big_bytes 2 (length packet.body)) (behind_length packet), length-bytes_high_first 2 (length packet.body))

    come : (packets handed : List Packet) (more : List ℕ) → All IsPacket packets → All IsHanded handed → packets_bytes handed ≡ packets_bytes packets ++ more → All Comes packets
    come [] handed more are also same = All-nil Comes
    come (packet ∷ packets) [] more are also same =
        absurd (omega (arith, ap length same, length-append (packet_bytes packet ++ packets_bytes packets) more, length-append (packet_bytes packet) (packets_bytes packets), long_packet packet))
    come (packet ∷ packets) (first ∷ handed) more are also same =
        let cut : packet_bytes packet ++ (packets_bytes packets ++ more) ≡ packet_bytes first ++ packets_bytes handed = sym (same ∙ append_assoc (packet_bytes packet) (packets_bytes packets) more) in
        let one = one_comes packet first (packets_bytes packets ++ more) (packets_bytes handed) (All-head IsPacket packet packets are) (All-head IsHanded first handed also) cut in
        All-cons Comes packet packets one.0 (come packets handed more (All-tail IsPacket packet packets are) (All-tail IsHanded first handed also) (sym one.1))

    -- whole packets of what was sent
    pub all_come : (packets handed : List Packet) (sent unsent unread : List ℕ) → All IsPacket packets → packets_bytes packets ++ unread ≡ sent → sent ++ unsent ≡ packets_bytes handed → AreHandedOut network list lines handed → All Comes packets
    all_come packets handed sent unsent unread are got put out =
        come packets handed (unread ++ unsent) are (all_handed handed out)
        (sym put ∙ ap (λ (l : List ℕ). l ++ unsent) (sym got) ∙ append_assoc (packets_bytes packets) unread unsent)

    -- packets in the bytes of what is handed out are no more than that
    few_handed : (packets handed : List Packet) (more : List ℕ) → All IsPacket packets → All IsHanded handed → packets_bytes handed ≡ packets_bytes packets ++ more → length packets ≤ length handed
    few_handed [] handed more are also same = omega arith
    few_handed (packet ∷ packets) [] more are also same =
        absurd (omega (arith, ap length same, length-append (packet_bytes packet ++ packets_bytes packets) more, length-append (packet_bytes packet) (packets_bytes packets), long_packet packet))
    few_handed (packet ∷ packets) (first ∷ handed) more are also same =
        let cut : packet_bytes packet ++ (packets_bytes packets ++ more) ≡ packet_bytes first ++ packets_bytes handed = sym (same ∙ append_assoc (packet_bytes packet) (packets_bytes packets) more) in
        let one = one_comes packet first (packets_bytes packets ++ more) (packets_bytes handed) (All-head IsPacket packet packets are) (All-head IsHanded first handed also) cut in
        let rest = few_handed packets handed more (All-tail IsPacket packet packets are) (All-tail IsHanded first handed also) (sym one.1) in
        omega (arith, rest)

    pub few_of : (packets handed : List Packet) (more : List ℕ) → All IsPacket packets → AreHandedOut network list lines handed → packets_bytes handed ≡ packets_bytes packets ++ more → length packets ≤ length handed
    few_of packets handed more are out same = few_handed packets handed more are (all_handed handed out) same

    -- ---- what was told

    module _ (given untold : List ℕ) (said : List Offered) (whole : BeginWith given lines) (written : All IsWritten said) (gave : given ++ untold ≡ offered_texts said) where
      has_line : (text : List ℕ) → Contains lines text → HasLine given text
      has_line text there = record { lines = lines; rest = whole.rest; cut = whole.cut; plain = whole.plain; there = there }

      -- the follower told by which history it was compared
      pub compared_told : (start : ℕ) (compared : IsCompared network list lines start) → Contains said (Differs start compared.own no_value)
      compared_told start compared =
          let few = few_entries network leader is_leader in
          let small : start < 2 ^ 64 = omega (arith, few, prefix_length list leader begins, compared.same.within) in
          let own : IsValue compared.own = subst IsValue (sym compared.same.is) (chain_value network (take start list)) in
          let none : IsValue no_value = (refl, zero_small 32) in
          heard said 0 given untold (Differs start compared.own no_value) written (small, own, none) gave (has_line (offered_text (Differs start compared.own no_value)) compared.told)
        where
          zero_small : (n : ℕ) → All (λ (byte : ℕ). byte < 256) (replicate n 0)
          zero_small zero = All-nil (λ (byte : ℕ). byte < 256)
          zero_small (suc n) = All-cons (λ (byte : ℕ). byte < 256) 0 (replicate n 0) (omega arith) (zero_small n)

      -- and each number that it was heard to have
      pub have_told : (count : ℕ) → IsHeard network list lines count → Contains said (Have count)
      have_told count is =
          let few = few_entries network leader is_leader in
          let small : count < 2 ^ 64 = omega (arith, few, prefix_length list leader begins, is.within) in
          let there = subst (λ (l : List (List ℕ)). Contains l (offered_text (Have count))) (sym is.split) (Contains-append_right is.earlier is.later (offered_text (Have count)) is.told) in
          heard said 0 given untold (Have count) written small gave (has_line (offered_text (Have count)) there)
