use Rattle.std.proofs.Common.{[], ◌∷◌, ◌++◌, subst, sym}
use Rattle.hose_lead.specs.steps.Standby.{IsLed, StandbyState}
use Rattle.hose_lead.specs.steps.Taking.{Takes}
use Rattle.hose_lead.proofs.Handing.{led_ends}
use Rattle.hose_lead.proofs.Taking.{takes_end}
use Rattle.hose_lead.proofs.leading.Standby.end.Goals as goal

pub returns-clause-takes : goal.returns-clause-takes
returns-clause-takes c = λ network list text.
    subst (λ (s : StandbyState). Takes network list text c.args.self.now s) (sym c.go.ensures) (takes_end network list c.args.self.now text c.args.why (λ lines. c.requires (lines ++ text ∷ [])))

pub returns-clause-led : goal.returns-clause-led
returns-clause-led c = λ network list came sent led.
    subst (λ (s : StandbyState). IsLed network list came sent s) (sym c.go.ensures) (led_ends network list came sent c.args.self.now c.args.why c.requires led)
