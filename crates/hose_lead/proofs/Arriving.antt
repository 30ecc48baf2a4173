-- Bytes of a connection come.
use Rattle.std.proofs.Common.{◌≡◌, ◌≢◌, ◌∙◌, ℕ, List, [], ◌∷◌, ◌++◌, Option, Some, None, refl, sym, ap, subst, arith, append_assoc, append-nil, length-append, All}
use Rattle.std.specs.List.{flat_map}
use Rattle.std.proofs.lemmas.List.Concat.{flat_map-append}
use Rattle.std.proofs.lemmas.List.Elements.{All-nil, All-push}
use Rattle.hose_graph.specs.Network.{Network}
use Rattle.hose_graph.specs.declared.entry.Entry.{Entry}
use Rattle.hose_lead.specs.steps.Standby.{HandsOut, IsLed, IsOpen, RisesTo, StandbyState, TakesIn, counted_more}
use Rattle.hose_lead.specs.steps.Taking.{Knows, Takes}
use Rattle.hose_lead.proofs.Growing.{handed_at}
use Rattle.hose_lead.specs.declared.stage.Ending.TheVariants.{Stranger}
use Rattle.hose_lead.specs.declared.stage.Stage.TheVariants.{Ended}

abbrev line_of : List ℕ → List ℕ
line_of each = each ++ 10 ∷ []

module _ (network : Network) (list : List Entry) (came sent : List ℕ) (old : StandbyState) where
  -- bytes come where it has ended
  pub led_past : (bytes : List ℕ) → (¬ IsOpen old.stage) → IsLed network list came sent old → IsLed network list (came ++ bytes) sent old
  led_past bytes ended led = record {
    lines = led.lines;
    rest = led.rest ++ bytes;
    cut = ap (λ (l : List ℕ). l ++ bytes) led.cut ∙ append_assoc (flat_map line_of led.lines) led.rest bytes;
    plain = led.plain;
    coming = λ is. absurd (ended is);
    packets = led.packets;
    handed = led.handed;
    at = led.at;
    heard = led.heard;
    counted = led.counted;
    numbered = led.numbered;
  }

  -- a byte of a line comes
  pub led_byte : (byte : ℕ) → IsOpen old.stage → byte ≢ 10 → IsLed network list came sent old → IsLed network list (came ++ byte ∷ []) sent (record old { line = old.line ++ byte ∷ [] })
  led_byte byte opens other led = record {
    lines = led.lines;
    rest = led.rest ++ byte ∷ [];
    cut = ap (λ (l : List ℕ). l ++ byte ∷ []) led.cut ∙ append_assoc (flat_map line_of led.lines) led.rest (byte ∷ []);
    plain = led.plain;
    coming = λ is. (ap (λ (l : List ℕ). l ++ byte ∷ []) (led.coming opens).0, All-push (λ byte. byte ≢ 10) old.line byte (led.coming opens).1 other);
    packets = led.packets;
    handed = led.handed;
    at = led.at;
    heard = led.heard;
    counted = led.counted;
    numbered = led.numbered;
  }

  -- a byte too much comes
  pub led_breaks : (byte : ℕ) → IsLed network list came sent old → IsLed network list (came ++ byte ∷ []) sent (record old { stage = Ended Stranger })
  led_breaks byte led = record {
    lines = led.lines;
    rest = led.rest ++ byte ∷ [];
    cut = ap (λ (l : List ℕ). l ++ byte ∷ []) led.cut ∙ append_assoc (flat_map line_of led.lines) led.rest (byte ∷ []);
    plain = led.plain;
    coming = λ is. absurd is;
    packets = led.packets;
    handed = led.handed;
    at = (handed_at network list led.lines led.packets old.heard old.stage led.at, tt);
    heard = led.heard;
    counted = led.counted;
    numbered = led.numbered;
  }

  ends_line : (lines : List (List ℕ)) (rest line : List ℕ) → came ≡ flat_map line_of lines ++ rest → rest ≡ line → came ++ 10 ∷ [] ≡ flat_map line_of (lines ++ line ∷ []) ++ []
  ends_line lines rest line cut is =
      ap (λ (l : List ℕ). l ++ 10 ∷ []) cut
      ∙ append_assoc (flat_map line_of lines) rest (10 ∷ [])
      ∙ ap (λ (l : List ℕ). flat_map line_of lines ++ (l ++ 10 ∷ [])) is
      ∙ ap (λ (l : List ℕ). flat_map line_of lines ++ l) (sym (append-nil (line_of line)))
      ∙ sym (flat_map-append line_of lines (line ∷ []))
      ∙ sym (append-nil (flat_map line_of (lines ++ line ∷ [])))

  -- the line feed of a line comes
  pub led_line : (new : StandbyState) (text : List ℕ) → IsOpen old.stage → old.line ≡ text → Takes network list text (record old { line = []; answered = counted_more old.answered }) new
      → IsLed network list came sent old → IsLed network list (came ++ 10 ∷ []) sent new
  led_line new text opens is takes led =
      let knows : Knows network list led.lines led.packets (record old { line = []; answered = counted_more old.answered }) = record { at = led.at; heard = led.heard } in
      let then = takes.knows led.lines led.packets knows in
      let coming = led.coming opens in
      record {
        lines = led.lines ++ text ∷ [];
        rest = [];
        cut = ends_line led.lines led.rest text led.cut (coming.0 ∙ is);
        plain = All-push (All (λ byte. byte ≢ 10)) led.lines text led.plain (subst (All (λ byte. byte ≢ 10)) is coming.1);
        coming = λ _. (sym takes.same_line, subst (All (λ byte. byte ≢ 10)) (sym takes.same_line) (All-nil (λ byte. byte ≢ 10)));
        packets = led.packets;
        handed = ap (λ (l : List ℕ). sent ++ l) takes.same_unsent ∙ led.handed;
        at = then.at;
        heard = then.heard;
        counted = omega (arith, takes.same_answered, led.counted, length-append led.lines (text ∷ []));
        numbered = λ few. omega (arith, takes.same_handed, led.numbered (omega (arith, few, takes.same_handed)));
      }

-- ---- how much is heard

pub rises_same : (heard : Option ℕ) → RisesTo heard heard
rises_same None = tt
rises_same (Some count) = omega arith

pub rises_on : (one two three : Option ℕ) → RisesTo one two → RisesTo two three → RisesTo one three
rises_on None two three first then = tt
rises_on (Some count) None three first then = absurd first
rises_on (Some count) (Some more) None first then = absurd then
rises_on (Some count) (Some more) (Some most) first then = omega (arith, first, then)

-- ---- one after the other

module _ (is_of : Network → List Entry → Type 0) where
  pub taken_none : (old : StandbyState) → TakesIn is_of old [] old
  taken_none old = record {
    led = λ network list came sent is led. subst (λ (l : List ℕ). IsLed network list l sent old) (sym (append-nil came)) led;
    rises = rises_same old.heard;
    unsent = refl;
    ended = λ _. refl;
    why = λ network list is why. why;
  }

  pub taken_more : (old mid new : StandbyState) (bytes more : List ℕ) → TakesIn is_of old bytes mid → TakesIn is_of mid more new → TakesIn is_of old (bytes ++ more) new
  taken_more old mid new bytes more one two = record {
    led = λ network list came sent is led.
        subst (λ (l : List ℕ). IsLed network list l sent new) (append_assoc came bytes more) (two.led network list (came ++ bytes) sent is (one.led network list came sent is led));
    rises = rises_on old.heard mid.heard new.heard one.rises two.rises;
    unsent = two.unsent ∙ one.unsent;
    ended = λ ended. two.ended (subst (λ (s : StandbyState). ¬ IsOpen s.stage) (sym (one.ended ended)) ended) ∙ one.ended ended;
    why = λ network list is why. two.why network list is (one.why network list is why);
  }

  pub hands_none : (old : StandbyState) → HandsOut is_of old old
  hands_none old = record {
    led = λ network list came sent is led. led;
    heard = refl;
    ended = λ _. refl;
    why = λ network list is why. why;
  }

  pub hands_more : (old mid new : StandbyState) → HandsOut is_of old mid → HandsOut is_of mid new → HandsOut is_of old new
  hands_more old mid new one two = record {
    led = λ network list came sent is led. two.led network list came sent is (one.led network list came sent is led);
    heard = two.heard ∙ one.heard;
    ended = λ ended. two.ended (subst (λ (s : StandbyState). ¬ IsOpen s.stage) (sym (one.ended ended)) ended) ∙ one.ended ended;
    why = λ network list is why. two.why network list is (one.why network list is why);
  }
