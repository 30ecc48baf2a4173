use Rattle.std.proofs.Common.{subst, sym, ap, refl, ◌∙◌}
use Rattle.hose_follow.specs.Answers.{offered_text}
use Rattle.hose_lead.specs.steps.Standby.{IfEnded, RisesTo, StandbyState}
use Rattle.hose_lead.specs.steps.Taking.{Takes}
use Rattle.hose_lead.proofs.Arriving.{led_line, rises_same}
use Rattle.hose_lead.proofs.leading.Standby.take_line.Goals as goal

pub returns-in-Some : goal.returns-in-Some
returns-in-Some g c =
    let rest = c.take_text.ensures.rest in
    let text = offered_text c.in-Some.answer in
    record {
      led = λ network list came sent is led.
          led_line network list came sent c.args.self.now c.take_answer.new.self text c.requires c.in-Some.ensures.answer
          (subst (λ (s : StandbyState). Takes network list text s c.take_answer.new.self) rest (c.take_answer.ensures.takes network list is)) led;
      rises = subst (λ (s : StandbyState). RisesTo s.heard c.take_answer.new.self.heard) rest c.take_answer.ensures.rises;
      unsent = c.take_answer.ensures.unsent ∙ ap (λ (s : StandbyState). s.unsent) rest;
      ended = λ ended. absurd (ended c.requires);
      why = λ network list is why. c.take_answer.ensures.why network list is;
    }

pub returns-in-None : goal.returns-in-None
returns-in-None g c =
    let rest = c.take_text.ensures.rest in
    let text = c.args.self.now.line in
    let heard = ap (λ (s : StandbyState). s.heard) c.end.ensures.is ∙ ap (λ (s : StandbyState). s.heard) rest in
    record {
      led = λ network list came sent is led.
          led_line network list came sent c.args.self.now c.end.new.self text c.requires refl
          (subst (λ (s : StandbyState). Takes network list text s c.end.new.self) rest (c.end.ensures.takes network list text)) led;
      rises = subst (RisesTo c.args.self.now.heard) (sym heard) (rises_same c.args.self.now.heard);
      unsent = ap (λ (s : StandbyState). s.unsent) c.end.ensures.is ∙ ap (λ (s : StandbyState). s.unsent) rest;
      ended = λ ended. absurd (ended c.requires);
      why = λ network list is why. subst (λ (s : StandbyState). IfEnded network list s.stage) (sym c.end.ensures.is) tt;
    }
