use Rattle.std.proofs.Common.{◌≤◌, ◌-◌, length, map, take}
use Rattle.std.specs.String.{string_bytes}
use Rattle.hose_offline.specs.steps.ProveOutcome.{AreEndsInOrder}
use Rattle.hose_offline.proofs.proving.ends_of.Given as goal

abbrev pub invariant-loop-found : goal.invariant-loop-found
invariant-loop-found l = record {
  within : length l.found.items ≤ length l.ends;
  are : AreEndsInOrder l.top (take (length l.found.items) (map string_bytes l.ends)) l.found.items;
}

abbrev pub decreases-loop-found : goal.decreases-loop-found
decreases-loop-found l = length l.ends - length l.found.items
