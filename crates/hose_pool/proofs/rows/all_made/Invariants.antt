-- So far the rows are those of the places that were come to.
use Rattle.std.proofs.Common.{◌≡◌, Some, map}
use Rattle.hose_pool.proofs.rows.all_made.Given as goal

abbrev pub invariant-loop-row : goal.invariant-loop-row
invariant-loop-row l = map Some l.rows.items ≡ l.yielded
