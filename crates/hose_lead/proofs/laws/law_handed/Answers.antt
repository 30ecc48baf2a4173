use Rattle.hose_lead.proofs.Growing.{handed_at}
use Rattle.hose_lead.proofs.laws.law_handed.Goals as goal

pub returns : goal.returns
returns c = λ network list came sent state led. handed_at network list led.lines led.packets state.heard state.stage led.at
