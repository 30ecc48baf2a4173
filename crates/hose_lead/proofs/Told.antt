-- What a state tells of the bytes that led to it.
use Rattle.std.proofs.Common.{◌≡◌, ℕ, List, ◌++◌, Option, Some, sym, subst}
use Rattle.std.specs.Prelude.{IfSome, Contains}
use Rattle.std.proofs.lemmas.List.Elements.{Contains-append_left, Contains-append_right}
use Rattle.hose_graph.specs.Network.{Network}
use Rattle.hose_graph.specs.declared.entry.Entry.{Entry}
use Rattle.hose_follow.specs.Answers.{offered_text}
use Rattle.hose_follow.specs.declared.answers.Offered.TheVariants.{Differs, Have}
use Rattle.hose_lead.specs.Leading.{IsValueAt, no_value, IsHeard}
use Rattle.hose_follow.specs.steps.Lines.{HasLine}
use Rattle.hose_lead.specs.steps.Standby.{IsLed, StandbyState}
use Rattle.hose_lead.proofs.Growing.{at_longer, heard_longer}

module _ (network : Network) (list : List Entry) (came sent : List ℕ) (state : StandbyState) where
  pub longer : (more : List Entry) → IsLed network list came sent state → IsLed network (list ++ more) came sent state
  longer more led = record {
    lines = led.lines;
    rest = led.rest;
    cut = led.cut;
    plain = led.plain;
    coming = led.coming;
    packets = led.packets;
    handed = led.handed;
    at = at_longer network list more led.lines led.packets state.heard state.stage led.at;
    heard = heard_longer network list more led.lines state.heard led.heard;
    counted = led.counted;
    numbered = led.numbered;
  }

  heard_at : (led : IsLed network list came sent state) (count : ℕ) → state.heard ≡ Some count → IsHeard network list led.lines count
  heard_at led count is = subst (λ (heard : Option ℕ). IfSome heard (IsHeard network list led.lines)) is led.heard

  has_line : (led : IsLed network list came sent state) (text : List ℕ) → Contains led.lines text → HasLine came text
  has_line led text there = record { lines = led.lines; rest = led.rest; cut = led.cut; plain = led.plain; there = there }

  pub have_told : (count : ℕ) → IsLed network list came sent state → state.heard ≡ Some count → HasLine came (offered_text (Have count))
  have_told count led is =
      let heard = heard_at led count is in
      has_line led (offered_text (Have count)) (subst (λ (lines : List (List ℕ)). Contains lines (offered_text (Have count))) (sym heard.split)
      (Contains-append_right heard.earlier heard.later (offered_text (Have count)) heard.told))

  pub compared_told : (count : ℕ) → IsLed network list came sent state → state.heard ≡ Some count
      → (start : ℕ) × (own : List ℕ) × IsValueAt network list start own × HasLine came (offered_text (Differs start own no_value))
  compared_told count led is =
      let heard = heard_at led count is in
      let compared = heard.compared in
      let text = offered_text (Differs heard.start compared.own no_value) in (
        heard.start,
        compared.own,
        compared.same,
        has_line led text (subst (λ (lines : List (List ℕ)). Contains lines text) (sym heard.split)
            (Contains-append_left heard.earlier heard.later text compared.told)),
      )
