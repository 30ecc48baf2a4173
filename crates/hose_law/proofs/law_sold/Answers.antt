use Rattle.hose_law.proofs.Sold.{sold}
use Rattle.hose_law.proofs.law_sold.Goals as goal

pub returns : goal.returns
returns c = λ place l within over. sold c.args.top.now c.args.e0 c.args.h.now place l c.requires over
