use Rattle.hose_law.proofs.Once.{admits_once}
use Rattle.hose_law.proofs.law_once.Goals as goal

pub returns : goal.returns
returns c = admits_once c.args.top.now c.args.e0 c.args.h.now c.args.customer.now c.args.known
