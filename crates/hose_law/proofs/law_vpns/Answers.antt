use Rattle.hose_law.proofs.VpnLists.{vpns_listed}
use Rattle.hose_law.proofs.law_vpns.Goals as goal

pub returns : goal.returns
returns c = λ ids. vpns_listed c.args.customer.now c.args.e0 c.args.h.now ids
