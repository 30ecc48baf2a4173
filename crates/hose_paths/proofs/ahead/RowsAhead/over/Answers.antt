use Rattle.std.proofs.Common.{rules}
use Rattle.hose_paths.proofs.Firsts.{all_rows}
use Rattle.hose_paths.proofs.SameRows.{rows_alike}
use Rattle.hose_paths.proofs.ahead.RowsAhead.over.Goals as goal

pub returns-then-is_over : goal.returns-then-is_over
returns-then-is_over c =
    rows_alike c.args.self.now.network c.args.top.now c.args.self.now.links c.args.links.now c.deref.result.now (search rules) (search rules)
    (all_rows c.args.self.now.network c.args.self.now.links c.deref.result.now (search rules) (search rules))
