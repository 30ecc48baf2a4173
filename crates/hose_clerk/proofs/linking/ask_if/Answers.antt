use Rattle.std.proofs.Common.{subst, sym, true}
use Rattle.hose_lead.proofs.Handing.{led_asks}
use Rattle.hose_lead.specs.steps.Standby.{IsLed, StandbyState}
use Rattle.hose_clerk.proofs.linking.ask_if.Goals as goal

pub returns : goal.returns
returns c = λ network list came sent led.
    subst (λ (state : StandbyState). IsLed network list came sent state) (sym c.ask.ensures) (led_asks network list came sent c.args.standby.now true led)
