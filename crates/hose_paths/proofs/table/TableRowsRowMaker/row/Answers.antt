-- A kept row is that of each network that is alike.
use Rattle.std.proofs.Common.{rules}
use Rattle.hose_paths.proofs.SameRows.{made_over}
use Rattle.hose_paths.proofs.table.TableRowsRowMaker.row.Goals as goal

pub returns-then-is_over-clause-row : goal.returns-then-is_over-clause-row
returns-then-is_over-clause-row c =
    made_over c.args.self.now.table.now.network c.args.top.now c.args.self.now.table.now.links c.args.links.now c.args.root c.row.result (search rules) (search rules) (search rules)
