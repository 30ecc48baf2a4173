use Rattle.std.proofs.Common.{◌≤◌}
use Rattle.hose_host.proofs.coming.oldest_silent.Given as goal

abbrev pub invariant-loop-place : goal.invariant-loop-place
invariant-loop-place l = l.count ≤ l.place
