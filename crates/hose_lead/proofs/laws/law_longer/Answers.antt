use Rattle.hose_lead.proofs.Told.{longer}
use Rattle.hose_lead.proofs.laws.law_longer.Goals as goal

pub returns : goal.returns
returns c = λ network list more came sent state led. longer network list came sent state more led
