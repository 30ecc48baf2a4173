-- What is handed out of each stage.
use Rattle.std.proofs.Common.{◌≡◌, ℕ, ◌+◌, Bool, List, [], ◌∷◌, ◌++◌, Result, Ok, Err, refl, sym, ap, subst, arith}
use Rattle.std.specs.Prelude.{OnOk, OnErr, ⊤}
use Rattle.std.proofs.lemmas.Option.{slice_get_within}
use Rattle.hose_graph.specs.Network.{Network}
use Rattle.hose_graph.specs.declared.entry.Entry.{Entry}
use Rattle.hose_follow.specs.Packet.{Packet, packet_bytes}
use Rattle.hose_follow.specs.Replication.{packet_at}
use Rattle.hose_lead.specs.steps.History.{IsPacketBehind}
use Rattle.hose_lead.specs.Leading.{ask_epoch, ask_have, ask_value, asked_again, entry_more}
use Rattle.hose_lead.specs.steps.Standby.{HandsOut, IsAt, IsLed, IsOpen, StandbyState, counted_more}
use Rattle.hose_lead.proofs.Arriving.{hands_none}
use Rattle.hose_lead.proofs.Handing.{led_asks, led_hands}
use Rattle.hose_lead.specs.declared.stage.Stage.{Stage}
use Rattle.hose_lead.specs.declared.stage.Stage.TheVariants.{Unasked, AskedEpoch, ToldEpoch, AskedValue, Following}

-- the state after the bytes of a packet were handed out
abbrev pub with_unsent : StandbyState → List ℕ → Stage → StandbyState
with_unsent old bytes stage = record old { unsent = old.unsent ++ bytes; stage = stage; handed = counted_more old.handed }

module _ (is_of : Network → List Entry → Type 0) (old : StandbyState) where
  -- bytes were handed out, or no memory was left and nothing changed
  pub hands_by : {E : Type 0} (next new : StandbyState) (result : Result ⊤ E) → OnOk result (new ≡ next) → OnErr result (new ≡ old) → HandsOut is_of old next → HandsOut is_of old new
  hands_by next new (Ok _) ok err hands = subst (HandsOut is_of old) (sym ok) hands
  hands_by next new (Err _) ok err hands = subst (HandsOut is_of old) (sym err) (hands_none is_of old)

  pub hands_epoch : old.stage ≡ Unasked → HandsOut is_of old (with_unsent old (packet_bytes ask_epoch) AskedEpoch)
  hands_epoch was =
      let opens : IsOpen old.stage = subst IsOpen (sym was) tt in
      record {
        led = λ network list came sent is led.
            let at = subst (λ (stage : Stage). IsAt network list led.lines led.packets old.heard stage) was led.at in
            led_hands network list came sent old ask_epoch AskedEpoch led (λ _. opens) (ap (λ (l : List Packet). l ++ ask_epoch ∷ []) at.0, at.1);
        heard = refl;
        ended = λ ended. absurd (ended opens);
        why = λ network list is why. tt;
      }

  pub hands_value : (start : ℕ) → old.stage ≡ ToldEpoch start → HandsOut is_of old (with_unsent old (packet_bytes (ask_value start)) (AskedValue start))
  hands_value start was =
      let opens : IsOpen old.stage = subst IsOpen (sym was) tt in
      record {
        led = λ network list came sent is led.
            let at = subst (λ (stage : Stage). IsAt network list led.lines led.packets old.heard stage) was led.at in
            led_hands network list came sent old (ask_value start) (AskedValue start) led (λ _. opens) (ap (λ (l : List Packet). l ++ ask_value start ∷ []) at.0, at.1, at.2, at.3);
        heard = refl;
        ended = λ ended. absurd (ended opens);
        why = λ network list is why. tt;
      }

  pub hands_have : (start upto : ℕ) → old.stage ≡ Following start upto → HandsOut is_of old (with_unsent old (packet_bytes ask_have) (Following start upto))
  hands_have start upto was =
      let opens : IsOpen old.stage = subst IsOpen (sym was) tt in
      record {
        led = λ network list came sent is led.
            let at = subst (λ (stage : Stage). IsAt network list led.lines led.packets old.heard stage) was led.at in
            led_hands network list came sent old ask_have (Following start upto) led (λ _. opens) (at.0, at.1, asked_again at.2, at.3, at.4);
        heard = refl;
        ended = λ ended. absurd (ended opens);
        why = λ network list is why. tt;
      }

  -- whether a `have` is to be asked for
  pub hands_asked : (asks : Bool) → IsOpen old.stage → HandsOut is_of old (record old { asks = asks })
  hands_asked asks opens = record {
    led = λ network list came sent is led. led_asks network list came sent old asks led;
    heard = refl;
    ended = λ ended. absurd (ended opens);
    why = λ network list is why. why;
  }

  pub hands_entry : (start upto : ℕ) (bytes : List ℕ) → old.stage ≡ Following start upto → ((network : Network) (list : List Entry) → is_of network list → IsPacketBehind network list upto bytes)
      → HandsOut is_of old (with_unsent old bytes (Following start (upto + 1)))
  hands_entry start upto bytes was behind =
      let opens : IsOpen old.stage = subst IsOpen (sym was) tt in
      record {
        led = λ network list came sent is led.
            let at = subst (λ (stage : Stage). IsAt network list led.lines led.packets old.heard stage) was led.at in
            let here = behind network list is in
            let within = slice_get_within list upto here.entry here.there in
            subst (λ (l : List ℕ). IsLed network list came sent (with_unsent old l (Following start (upto + 1)))) (sym here.is)
            (led_hands network list came sent old (packet_at network list upto here.entry) (Following start (upto + 1)) led (λ _. opens)
            (at.0, at.1, entry_more here.entry at.2 here.there, omega (arith, at.3), omega (arith, within)));
        heard = refl;
        ended = λ ended. absurd (ended opens);
        why = λ network list is why. tt;
      }
