use Rattle.hose_law.proofs.Lives.{stays_live}
use Rattle.hose_law.proofs.law_lives.Goals as goal

pub returns : goal.returns
returns c = stays_live c.args.e0 c.args.h.now c.args.k
