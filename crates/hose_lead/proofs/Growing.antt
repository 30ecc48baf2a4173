-- What was told and handed out stays so as more lines come and more entries stand.
use Rattle.std.proofs.Common.{◌≡◌, ◌∙◌, ℕ, ◌+◌, zero, suc, List, [], ◌∷◌, ◌++◌, Option, Some, None, sym, ap, subst, arith, append_assoc, length-append}
use Rattle.std.specs.Prelude.{IfSome}
use Rattle.std.specs.List.{slice_get}
use Rattle.std.proofs.lemmas.List.{take-append-le}
use Rattle.std.proofs.lemmas.List.Elements.{Contains-append_left}
use Rattle.std.proofs.lemmas.Option.{slice_get_within}
use Rattle.hose_graph.specs.Network.{Network}
use Rattle.hose_graph.specs.declared.entry.Entry.{Entry}
use Rattle.hose_journal.specs.Chain.{chain}
use Rattle.hose_store.specs.Recovery.{digest_of}
use Rattle.hose_follow.specs.Answers.{offered_text}
use Rattle.hose_follow.specs.Packet.{Packet, packet_after, packet_bytes}
use Rattle.hose_follow.specs.Replication.{packet_at}
use Rattle.hose_follow.specs.declared.answers.Offered.TheVariants.{Have, Want, Differs}
use Rattle.hose_lead.specs.Leading.{IsValueAt, no_value, AreHandedOut, nothing_yet, first_probe, both_probes, with_entries, IsCompared, IsHeard, Offers, probed, entry_more, asked_again, TellsEpoch}
use Rattle.hose_lead.specs.steps.History.{IsPacketBehind}
use Rattle.hose_lead.specs.steps.Standby.{IsAt}
use Rattle.hose_lead.specs.declared.stage.Stage.{Stage}
use Rattle.hose_lead.specs.declared.stage.Stage.TheVariants.{Unasked, AskedEpoch, ToldEpoch, AskedValue, Following, Ended}

-- ---- more lines

pub tells_more : (lines : List (List ℕ)) (line : List ℕ) (count : ℕ) → TellsEpoch lines count → TellsEpoch (lines ++ line ∷ []) count
tells_more lines line count told = Contains-append_left lines (line ∷ []) (offered_text (Want (count + 1))) told

module _ (network : Network) (list : List Entry) (lines : List (List ℕ)) where
  pub compared_more : (line : List ℕ) (count : ℕ) → IsCompared network list lines count → IsCompared network list (lines ++ line ∷ []) count
  compared_more line count is = record {
    own = is.own;
    same = is.same;
    told = Contains-append_left lines (line ∷ []) (offered_text (Differs count is.own no_value)) is.told;
  }

  pub heard_more : (line : List ℕ) (count : ℕ) → IsHeard network list lines count → IsHeard network list (lines ++ line ∷ []) count
  heard_more line count is = record {
    earlier = is.earlier;
    later = is.later ++ line ∷ [];
    split = ap (λ (l : List (List ℕ)). l ++ line ∷ []) is.split ∙ append_assoc is.earlier is.later (line ∷ []);
    start = is.start;
    compared = is.compared;
    told = Contains-append_left is.later (line ∷ []) (offered_text (Have count)) is.told;
    within = is.within;
  }

  pub may_heard_more : (line : List ℕ) (heard : Option ℕ) → IfSome heard (IsHeard network list lines) → IfSome heard (IsHeard network list (lines ++ line ∷ []))
  may_heard_more line None is = tt
  may_heard_more line (Some count) is = heard_more line count is

  pub handed_more : (line : List ℕ) (packets : List Packet) → AreHandedOut network list lines packets → AreHandedOut network list (lines ++ line ∷ []) packets
  handed_more line packets nothing_yet = nothing_yet
  handed_more line packets first_probe = first_probe
  handed_more line packets (both_probes start told) = both_probes start (tells_more lines line start told)
  handed_more line packets (with_entries start upto all told compared offers) =
      with_entries start upto all (tells_more lines line start told) (compared_more line start compared) offers

  -- what was handed out, at each stage
  pub handed_at : (packets : List Packet) (heard : Option ℕ) (stage : Stage) → IsAt network list lines packets heard stage → AreHandedOut network list lines packets
  handed_at packets heard Unasked at = subst (AreHandedOut network list lines) (sym at.0) nothing_yet
  handed_at packets heard AskedEpoch at = subst (AreHandedOut network list lines) (sym at.0) first_probe
  handed_at packets heard (ToldEpoch start) at = subst (AreHandedOut network list lines) (sym at.0) first_probe
  handed_at packets heard (AskedValue start) at = subst (AreHandedOut network list lines) (sym at.0) (both_probes start at.2)
  handed_at packets heard (Following start upto) at = with_entries start upto packets at.0 at.1 at.2
  handed_at packets heard (Ended why) at = at.0

-- ---- more entries

module _ (network : Network) (list more : List Entry) where
  pub value_longer : (count : ℕ) (value : List ℕ) → IsValueAt network list count value → IsValueAt network (list ++ more) count value
  value_longer count value is = record {
    within = omega (arith, is.within, length-append list more);
    is = is.is ∙ ap (λ (l : List Entry). chain (digest_of network) l) (sym (take-append-le count list more is.within));
  }

  -- what stands in a list stands in every longer one
  pub get_longer : (xs : List Entry) (place : ℕ) (entry : Entry) → slice_get xs place ≡ Some entry → slice_get (xs ++ more) place ≡ Some entry
  get_longer [] place entry there = absurd (cc there)
  get_longer (x ∷ xs) zero entry there = there
  get_longer (x ∷ xs) (suc place) entry there = get_longer xs place entry there

  pub packet_longer : (place : ℕ) (entry : Entry) → slice_get list place ≡ Some entry → packet_at network (list ++ more) place entry ≡ packet_at network list place entry
  packet_longer place entry there =
      let within = slice_get_within list place entry there in
      ap (λ (l : List Entry). packet_after network l entry) (take-append-le place list more (omega (arith, within)))

  pub behind_longer : (count : ℕ) (bytes : List ℕ) → IsPacketBehind network list count bytes → IsPacketBehind network (list ++ more) count bytes
  behind_longer count bytes is = record {
    entry = is.entry;
    there = get_longer list count is.entry is.there;
    is = is.is ∙ ap packet_bytes (sym (packet_longer count is.entry is.there));
  }

  compared_longer : (lines : List (List ℕ)) (count : ℕ) → IsCompared network list lines count → IsCompared network (list ++ more) lines count
  compared_longer lines count is = record {
    own = is.own;
    same = value_longer count is.own is.same;
    told = is.told;
  }

  pub heard_longer : (lines : List (List ℕ)) (heard : Option ℕ) → IfSome heard (IsHeard network list lines) → IfSome heard (IsHeard network (list ++ more) lines)
  heard_longer lines None is = tt
  heard_longer lines (Some count) is = record {
    earlier = is.earlier;
    later = is.later;
    split = is.split;
    start = is.start;
    compared = compared_longer is.earlier is.start is.compared;
    told = is.told;
    within = omega (arith, is.within, length-append list more);
  }

  offers_longer : (start upto : ℕ) (packets : List Packet) → Offers network list start upto packets → Offers network (list ++ more) start upto packets
  offers_longer start upto packets probed = probed
  offers_longer start upto packets (entry_more {upto = before} {packets = front} entry offers there) =
      subst (λ (p : Packet). Offers network (list ++ more) start (before + 1) (front ++ p ∷ [])) (packet_longer before entry there)
      (entry_more entry (offers_longer start before front offers) (get_longer list before entry there))
  offers_longer start upto packets (asked_again {packets = front} offers) = asked_again (offers_longer start upto front offers)

  handed_longer : (lines : List (List ℕ)) (packets : List Packet) → AreHandedOut network list lines packets → AreHandedOut network (list ++ more) lines packets
  handed_longer lines packets nothing_yet = nothing_yet
  handed_longer lines packets first_probe = first_probe
  handed_longer lines packets (both_probes start told) = both_probes start told
  handed_longer lines packets (with_entries start upto all told compared offers) =
      with_entries start upto all told (compared_longer lines start compared) (offers_longer start upto all offers)

  pub at_longer : (lines : List (List ℕ)) (packets : List Packet) (heard : Option ℕ) (stage : Stage) → IsAt network list lines packets heard stage → IsAt network (list ++ more) lines packets heard stage
  at_longer lines packets heard Unasked at = at
  at_longer lines packets heard AskedEpoch at = at
  at_longer lines packets heard (ToldEpoch start) at = (at.0, at.1, at.2, omega (arith, at.3, length-append list more))
  at_longer lines packets heard (AskedValue start) at = (at.0, at.1, at.2, omega (arith, at.3, length-append list more))
  at_longer lines packets heard (Following start upto) at =
      (at.0, compared_longer lines start at.1, offers_longer start upto packets at.2, at.3, omega (arith, at.4, length-append list more))
  at_longer lines packets heard (Ended why) at = (handed_longer lines packets at.0, at.1)
