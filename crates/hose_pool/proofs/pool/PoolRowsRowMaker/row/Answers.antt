-- A kept row is that of each network that is alike.
use Rattle.std.proofs.Common.{rules}
use Rattle.hose_paths.proofs.SameRows.{made_over}
use Rattle.hose_pool.proofs.pool.PoolRowsRowMaker.row.Goals as goal

pub returns-clause-row : goal.returns-clause-row
returns-clause-row g c =
    made_over c.in_ok-kept.kept.network c.args.top.now c.in_ok-kept.kept.links c.args.links.now c.args.root c.row-row.result (search rules) (search rules) (search rules)
