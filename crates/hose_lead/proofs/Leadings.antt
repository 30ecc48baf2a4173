-- A connection that came to a state leads its follower.
use Rattle.std.proofs.Common.{◌≡◌, ℕ, ◌<◌, List, ◌++◌, length, take, drop, subst}
use Rattle.hose_graph.specs.Network.{Network}
use Rattle.hose_graph.specs.declared.entry.Entry.{Entry}
use Rattle.hose_lead.specs.Leading.{Leads, TellsAhead}
use Rattle.hose_lead.specs.steps.Standby.{IsAt, IsLed, StandbyState}
use Rattle.hose_lead.specs.declared.stage.Ending.TheVariants.{Ahead}
use Rattle.hose_lead.specs.declared.stage.Stage.{Stage}
use Rattle.hose_lead.specs.declared.stage.Stage.TheVariants.{Ended}
use Rattle.hose_lead.proofs.Growing.{handed_at}
use Rattle.hose_lead.proofs.Handing.{led_sent}

module _ (network : Network) (list : List Entry) (came sent : List ℕ) (state : StandbyState) where
  pub led_leads : IsLed network list came sent state → Leads network list came sent state.heard
  led_leads led = record {
    lines = led.lines;
    whole = record { rest = led.rest; cut = led.cut; plain = led.plain };
    packets = led.packets;
    unsent = state.unsent;
    handed = led.handed;
    are = handed_at network list led.lines led.packets state.heard state.stage led.at;
    has = led.heard;
  }

  -- the follower has more entries
  pub led_ahead : (count : ℕ) → IsLed network list came sent state → state.stage ≡ Ended (Ahead count) → length list < count → TellsAhead list came count
  led_ahead count led is more =
      let at = subst (λ (stage : Stage). IsAt network list led.lines led.packets state.heard stage) is led.at in
      record { lines = led.lines; whole = record { rest = led.rest; cut = led.cut; plain = led.plain }; told = at.1; more = more }

-- more of what is handed out is sent
pub sent_leads : (network : Network) (list : List Entry) (came sent : List ℕ) (state : StandbyState) (many : ℕ) → IsLed network list came sent state → Leads network list came (sent ++ take many state.unsent) state.heard
sent_leads network list came sent state many led =
    led_leads network list came (sent ++ take many state.unsent) (record state { unsent = drop many state.unsent }) (led_sent network list came sent state many led)
