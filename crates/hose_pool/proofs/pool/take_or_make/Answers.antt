-- New rows are of the network itself.
use Rattle.hose_pool.proofs.Made.{built_alike}
use Rattle.hose_pool.proofs.pool.take_or_make.Goals as goal

pub returns-clause-network : goal.returns-clause-network
returns-clause-network g c = built_alike c.args.top.now c.build.result c.build.ensures.network
