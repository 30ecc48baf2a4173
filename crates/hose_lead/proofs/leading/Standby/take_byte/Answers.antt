use Rattle.std.proofs.Common.{subst, sym, ap, refl, ◌∙◌, ◌++◌, rules, ◌∷◌, []}
use Rattle.hose_lead.specs.steps.Standby.{IfEnded, IsLed, RisesTo, StandbyState}
use Rattle.hose_lead.specs.declared.stage.Ending.TheVariants.{Stranger}
use Rattle.hose_lead.specs.declared.stage.Stage.TheVariants.{Ended}
use Rattle.hose_lead.proofs.Arriving.{led_breaks, led_byte, led_past, rises_same}
use Rattle.hose_lead.proofs.leading.Standby.take_byte.Goals as goal

pub returns-then-not-is_open : goal.returns-then-not-is_open
returns-then-not-is_open g c =
    let ended = c.is_open.ensures.ended (search rules) in
    record {
      led = λ network list came sent is led. led_past network list came sent c.args.self.now (c.args.byte ∷ []) ended led;
      rises = rises_same c.args.self.now.heard;
      unsent = refl;
      ended = λ _. refl;
      why = λ network list is why. why;
    }

pub returns-then-push : goal.returns-then-push
returns-then-push g c =
    let opens = c.is_open.ensures.open (search rules) in
    let more = c.push.ensures.more (search rules) in
    record {
      led = λ network list came sent is led. subst (IsLed network list (came ++ c.args.byte ∷ []) sent) (sym more) (led_byte network list came sent c.args.self.now c.args.byte opens (search rules) led);
      rises = subst (λ (s : StandbyState). RisesTo c.args.self.now.heard s.heard) (sym more) (rises_same c.args.self.now.heard);
      unsent = ap (λ (s : StandbyState). s.unsent) more;
      ended = λ ended. absurd (ended opens);
      why = λ network list is why. subst (λ (s : StandbyState). IfEnded network list s.stage) (sym more) why;
    }

pub returns : goal.returns
returns g c =
    let opens = c.is_open.ensures.open (search rules) in
    let same = c.push.ensures.same (search rules) in
    let all = c.end.ensures.is ∙ ap (λ (s : StandbyState). record s { stage = Ended Stranger }) same in
    record {
      led = λ network list came sent is led. subst (IsLed network list (came ++ c.args.byte ∷ []) sent) (sym all) (led_breaks network list came sent c.args.self.now c.args.byte led);
      rises = subst (λ (s : StandbyState). RisesTo c.args.self.now.heard s.heard) (sym all) (rises_same c.args.self.now.heard);
      unsent = ap (λ (s : StandbyState). s.unsent) all;
      ended = λ ended. absurd (ended opens);
      why = λ network list is why. subst (λ (s : StandbyState). IfEnded network list s.stage) (sym all) tt;
    }
