-- The last packets of a history that goes on.
use Rattle.std.proofs.Common.{◌≡◌, ◌∙◌, ℕ, zero, suc, ◌+◌, ◌<◌, List, [], ◌∷◌, ◌++◌, Some, length, get_or, take, refl, sym, ap, subst, arith, length-append}
use Rattle.hose_graph.specs.Network.{Network}
use Rattle.hose_graph.specs.declared.entry.Entry.{Entry}
use Rattle.std.specs.List.{slice_get}
use Rattle.std.specs.Prelude.{Option, None, IfSome, IsSome}
use denote.Bor.{Bor}
use Rattle.std.proofs.lemmas.List.{take-append-le}
use Rattle.hose_codec.specs.Spelling.{spelling}
use Rattle.hose_journal.specs.Chain.{chain}
use Rattle.hose_store.specs.Recovery.{digest_of}
use Rattle.hose_follow.specs.Packet.{Packet, packet_after, packet_bytes}
use Rattle.hose_lead.specs.Leading.{IsValueAt}
use Rattle.hose_lead.specs.LedStore.{KeptPacket, RecentState}
use Rattle.hose_lead.specs.steps.History.{AreKept, IsPacketBehind, IsRecentOf, kept_size}
use Rattle.hose_lead.proofs.Growing.{behind_longer, value_longer}

abbrev pub packet_of : ℕ → List ℕ → List ℕ → Packet
packet_of epoch before body = record { epoch = epoch; chain = before; body = body }

-- the bytes of packets, with one more
pub size_more : (kept : List KeptPacket) (one : KeptPacket) → kept_size (kept ++ one ∷ []) ≡ kept_size kept + length one.bytes
size_more [] one = omega arith
size_more (first ∷ kept) one = omega (arith, size_more kept one)

module _ (network : Network) (list : List Entry) where
  kept_longer : (more : List Entry) (count : ℕ) (kept : List KeptPacket) → AreKept network list count kept → AreKept network (list ++ more) count kept
  kept_longer more count [] are = tt
  kept_longer more count (first ∷ kept) are =
      (value_longer network list more count first.before are.0, behind_longer network list more count first.bytes are.1, kept_longer more (count + 1) kept are.2)

  -- the packet of the next entry is kept too
  pub kept_more : (count : ℕ) (kept : List KeptPacket) (one : KeptPacket) (last : ℕ) → AreKept network list count kept → count + length kept ≡ last
      → IsValueAt network list last one.before → IsPacketBehind network list last one.bytes → AreKept network list count (kept ++ one ∷ [])
  kept_more count [] one last are is value packet =
      let same : last ≡ count = omega (arith, is) in
      (subst (λ (n : ℕ). IsValueAt network list n one.before) same value, subst (λ (n : ℕ). IsPacketBehind network list n one.bytes) same packet, tt)
  kept_more count (first ∷ kept) one last are is value packet =
      (are.0, are.1, kept_more (count + 1) kept one last are.2 (omega (arith, is)) value packet)

  -- what is kept at a place
  pub kept_value : (count : ℕ) (kept : List KeptPacket) (place : ℕ) (one : KeptPacket) → AreKept network list count kept → place < length kept → IsValueAt network list (count + place) (get_or kept place one).before
  kept_value count [] place one are below = absurd (omega (arith, below))
  kept_value count (first ∷ kept) zero one are below = subst (λ (n : ℕ). IsValueAt network list n first.before) (omega arith) are.0
  kept_value count (first ∷ kept) (suc place) one are below =
      subst (λ (n : ℕ). IsValueAt network list n (get_or kept place one).before) (omega arith) (kept_value (count + 1) kept place one are.2 (omega (arith, below)))

  pub kept_packet : (count : ℕ) (kept : List KeptPacket) (place : ℕ) (one : KeptPacket) → AreKept network list count kept → place < length kept → IsPacketBehind network list (count + place) (get_or kept place one).bytes
  kept_packet count [] place one are below = absurd (omega (arith, below))
  kept_packet count (first ∷ kept) zero one are below = subst (λ (n : ℕ). IsPacketBehind network list n first.bytes) (omega arith) are.1
  kept_packet count (first ∷ kept) (suc place) one are below =
      subst (λ (n : ℕ). IsPacketBehind network list n (get_or kept place one).bytes) (omega arith) (kept_packet (count + 1) kept place one are.2 (omega (arith, below)))

-- ---- the oldest are given up

-- none is at hand
pub recent_none : (network : Network) (list : List Entry) (recent : RecentState) → recent.kept ≡ [] → recent.epoch ≡ length list → recent.value ≡ chain (digest_of network) list → IsRecentOf network list recent
recent_none network list recent none epoch value = record {
  epoch = epoch;
  value = value;
  first = length list;
  reaches = omega (arith, ap length none);
  are = subst (AreKept network list (length list)) (sym none) tt;
}

-- one more is at hand
pub recent_more : (network : Network) (list : List Entry) (entry : Entry) (old new : RecentState) (one : KeptPacket) → IsRecentOf network list old
    → one.before ≡ old.value → one.bytes ≡ packet_bytes (packet_of (old.epoch + 1) old.value (spelling entry))
    → new.kept ≡ old.kept ++ one ∷ [] → new.epoch ≡ old.epoch + 1 → new.value ≡ chain (digest_of network) (list ++ entry ∷ []) → IsRecentOf network (list ++ entry ∷ []) new
recent_more network list entry old new one is before bytes kept epoch value =
    let longer = kept_longer network list (entry ∷ []) is.first old.kept is.are in
    let at : take (length list) (list ++ entry ∷ []) ≡ list = take-append-le (length list) list (entry ∷ []) (omega arith) ∙ take_whole list in
    let here : IsValueAt network (list ++ entry ∷ []) (length list) one.before = record {
      within = omega (arith, length-append list (entry ∷ []));
      is = before ∙ is.value ∙ ap (λ (l : List Entry). chain (digest_of network) l) (sym at);
    } in
    let packet : IsPacketBehind network (list ++ entry ∷ []) (length list) one.bytes = record {
      entry = entry;
      there = get_last list entry;
      is = bytes ∙ ap packet_bytes (same_packet network list entry old.epoch old.value is.epoch is.value ∙ ap (λ (l : List Entry). packet_after network l entry) (sym at));
    } in
    record {
      epoch = omega (arith, epoch, is.epoch, length-append list (entry ∷ []));
      value = value;
      first = is.first;
      reaches = omega (arith, is.reaches, ap length kept, length-append old.kept (one ∷ []), length-append list (entry ∷ []));
      are = subst (AreKept network (list ++ entry ∷ []) is.first) (sym kept)
          (kept_more network (list ++ entry ∷ []) is.first old.kept one (length list) longer is.reaches here packet);
    }
  where
    take_whole : (xs : List Entry) → take (length xs) xs ≡ xs
    take_whole [] = refl
    take_whole (x ∷ xs) = ap (λ (l : List Entry). x ∷ l) (take_whole xs)

    get_last : (xs : List Entry) (x : Entry) → slice_get (xs ++ x ∷ []) (length xs) ≡ Some x
    get_last [] x = refl
    get_last (y ∷ xs) x = get_last xs x

    same_packet : (network : Network) (list : List Entry) (entry : Entry) (epoch : ℕ) (value : List ℕ) → epoch ≡ length list → value ≡ chain (digest_of network) list
        → packet_of (epoch + 1) value (spelling entry) ≡ packet_after network list entry
    same_packet network list entry epoch value count is =
        ap (λ (n : ℕ). packet_of (n + 1) value (spelling entry)) count ∙ ap (λ (v : List ℕ). packet_of (length list + 1) v (spelling entry)) is

-- what is kept of an entry, where something is found at its place
pub kept_found : (network : Network) (list : List Entry) (kept : List KeptPacket) (first count place : ℕ) (found : Option (Bor KeptPacket)) → AreKept network list first kept → count ≡ first + place
    → (IsSome found → place < length kept) → IfSome found (λ x. x.now ≡ get_or kept place x.now) → IfSome found (λ x. IsValueAt network list count x.now.before × IsPacketBehind network list count x.now.bytes)
kept_found network list kept first count place None are is below there = tt
kept_found network list kept first count place (Some x) are is below there =
    let within : place < length kept = below refl in (
      subst (λ (n : ℕ). IsValueAt network list n x.now.before) (sym is) (subst (λ (v : KeptPacket). IsValueAt network list (first + place) v.before) (sym there) (kept_value network list first kept place x.now are within)),
      subst (λ (n : ℕ). IsPacketBehind network list n x.now.bytes) (sym is) (subst (λ (v : KeptPacket). IsPacketBehind network list (first + place) v.bytes) (sym there) (kept_packet network list first kept place x.now are within)),
    )
