use Rattle.hose_move.proofs.Complete.{complete}
use Rattle.hose_move.proofs.laws.law_complete.Goals as goal

pub returns : goal.returns
returns g c = λ was left entries bytes result moves reads stands sound enough. complete g.D.Disk c.args.top.now was left entries bytes reads stands sound result moves enough
