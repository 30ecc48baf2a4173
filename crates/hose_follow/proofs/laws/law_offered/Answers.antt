use Rattle.hose_follow.proofs.Offers.{leads_on}
use Rattle.hose_follow.proofs.laws.law_offered.Goals as goal

pub returns : goal.returns
returns g c = λ first last packets answers since doubt has offered. leads_on g.D.Disk first since doubt packets answers last has offered
