-- What was handed out grows.
use Rattle.std.proofs.Common.{◌≡◌, ◌∙◌, ℕ, Bool, List, [], ◌∷◌, ◌++◌, take, drop, sym, ap, arith, append_assoc, length-append, take-append-drop, append-nil}
use Rattle.std.proofs.lemmas.List.Concat.{flat_map-append}
use Rattle.hose_graph.specs.Network.{Network}
use Rattle.hose_graph.specs.declared.entry.Entry.{Entry}
use Rattle.hose_follow.specs.Packet.{Packet, packet_bytes, packets_bytes}
use Rattle.hose_lead.specs.steps.Standby.{IsAt, IsLed, IsOpen, StandbyState, TellsWhy, counted_more}
use Rattle.hose_lead.proofs.Growing.{handed_at}
use Rattle.hose_lead.specs.declared.stage.Ending.{Ending}
use Rattle.hose_lead.specs.declared.stage.Stage.{Stage}
use Rattle.hose_lead.specs.declared.stage.Stage.TheVariants.{Ended}

-- a packet behind others
pub one_more : (packets : List Packet) (packet : Packet) (sent unsent : List ℕ) → sent ++ unsent ≡ packets_bytes packets → sent ++ (unsent ++ packet_bytes packet) ≡ packets_bytes (packets ++ packet ∷ [])
one_more packets packet sent unsent is =
    sym (append_assoc sent unsent (packet_bytes packet))
    ∙ ap (λ (l : List ℕ). l ++ packet_bytes packet) is
    ∙ ap (λ (l : List ℕ). packets_bytes packets ++ l) (sym (append-nil (packet_bytes packet)))
    ∙ sym (flat_map-append packet_bytes packets (packet ∷ []))

module _ (network : Network) (list : List Entry) (came sent : List ℕ) (old : StandbyState) where
  -- a packet is handed out, which brings a connection to a stage
  pub led_hands : (packet : Packet) (stage : Stage) → (led : IsLed network list came sent old) → (IsOpen stage → IsOpen old.stage)
      → IsAt network list led.lines (led.packets ++ packet ∷ []) old.heard stage
      → IsLed network list came sent (record old { unsent = old.unsent ++ packet_bytes packet; stage = stage; handed = counted_more old.handed })
  led_hands packet stage led opens at = record {
    lines = led.lines;
    rest = led.rest;
    cut = led.cut;
    plain = led.plain;
    coming = λ is. led.coming (opens is);
    packets = led.packets ++ packet ∷ [];
    handed = one_more led.packets packet sent old.unsent led.handed;
    at = at;
    heard = led.heard;
    counted = led.counted;
    numbered = λ few. omega (arith, few, led.numbered (omega (arith, few)), length-append led.packets (packet ∷ []));
  }

  -- a connection ends
  pub led_ends : (why : Ending) → ((lines : List (List ℕ)) → TellsWhy lines why) → IsLed network list came sent old → IsLed network list came sent (record old { stage = Ended why })
  led_ends why told led = record {
    lines = led.lines;
    rest = led.rest;
    cut = led.cut;
    plain = led.plain;
    coming = λ is. absurd is;
    packets = led.packets;
    handed = led.handed;
    at = (handed_at network list led.lines led.packets old.heard old.stage led.at, told led.lines);
    heard = led.heard;
    counted = led.counted;
    numbered = led.numbered;
  }

  -- whether a `have` is to be asked for says nothing of it
  pub led_asks : (asks : Bool) → IsLed network list came sent old → IsLed network list came sent (record old { asks = asks })
  led_asks asks led = record {
    lines = led.lines;
    rest = led.rest;
    cut = led.cut;
    plain = led.plain;
    coming = led.coming;
    packets = led.packets;
    handed = led.handed;
    at = led.at;
    heard = led.heard;
    counted = led.counted;
    numbered = led.numbered;
  }

  -- so many bytes were sent
  pub led_sent : (count : ℕ) → IsLed network list came sent old → IsLed network list came (sent ++ take count old.unsent) (record old { unsent = drop count old.unsent })
  led_sent count led = record {
    lines = led.lines;
    rest = led.rest;
    cut = led.cut;
    plain = led.plain;
    coming = led.coming;
    packets = led.packets;
    handed = append_assoc sent (take count old.unsent) (drop count old.unsent) ∙ ap (λ (l : List ℕ). sent ++ l) (take-append-drop count old.unsent) ∙ led.handed;
    at = led.at;
    heard = led.heard;
    counted = led.counted;
    numbered = led.numbered;
  }
