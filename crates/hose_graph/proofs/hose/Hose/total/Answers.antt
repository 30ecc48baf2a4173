use Rattle.std.proofs.Common.{rules}
use Rattle.hose_graph.proofs.Endpoints.{total_rate-le}
use Rattle.hose_graph.proofs.hose.Hose.total.Goals as goal

pub sum-requires-clause-fits : goal.sum-requires-clause-fits
sum-requires-clause-fits c = search (rules, total_rate-le _ c.self.invariant)

pub returns-clause-bound : goal.returns-clause-bound
returns-clause-bound c = search (rules, total_rate-le _ c.self.invariant)
