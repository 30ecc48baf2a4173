use Rattle.std.proofs.Common.{ℕ, ◌-◌, length}
use Rattle.hose_law.specs.Walk.{IsIn}
use Rattle.hose_tree.specs.steps.Reach.{count_on, AllReached}
use Rattle.hose_tree.proofs.reach.spread_all.Given as goal

abbrev pub invariant-loop : goal.invariant-loop
invariant-loop l = record {
  keeps : (v : ℕ) → IsIn l.initial.side v → IsIn l.side v;
  reached : (from : ℕ) → AllReached l.top l.links from l.initial.side → AllReached l.top l.links from l.side;
}

abbrev pub decreases-loop : goal.decreases-loop
decreases-loop l = length l.side - count_on l.side
