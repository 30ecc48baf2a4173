-- So far there are as many places as nodes were counted.
use Rattle.std.proofs.Common.{◌≡◌, length}
use Rattle.hose_pool.proofs.rows.no_rows.Given as goal

abbrev pub invariant-loop : goal.invariant-loop
invariant-loop l = length l.places.items ≡ l.counter
