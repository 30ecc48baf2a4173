-- Kept rows are those of each network that is alike.
use Rattle.std.proofs.Common.{rules}
use Rattle.hose_paths.proofs.SameRows.{rows_alike}
use Rattle.hose_paths.proofs.table.RowTable.over.Goals as goal

pub returns-then-is_over : goal.returns-then-is_over
returns-then-is_over c =
    rows_alike c.args.self.now.network c.args.top.now c.args.self.now.links c.args.links.now c.deref.result.now (search rules) (search rules) (search rules)
