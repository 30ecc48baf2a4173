use Rattle.hose_law.proofs.Lives.{live_held}
use Rattle.hose_law.proofs.law_held.Goals as goal

pub returns : goal.returns
returns c = λ place within. live_held c.args.e0 c.args.h.now place within
