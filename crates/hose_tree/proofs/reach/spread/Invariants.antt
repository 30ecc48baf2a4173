use Rattle.std.proofs.Common.{◌≡◌, ℕ, ◌<◌, ◌≤◌, true, false}
use Rattle.hose_law.specs.Walk.{IsIn}
use Rattle.hose_tree.specs.steps.Reach.{count_on, AllReached, IsClosedBelow}
use Rattle.hose_tree.proofs.reach.spread.Given as goal

abbrev pub invariant-loop-l : goal.invariant-loop-l
invariant-loop-l l = record {
  keeps : (v : ℕ) → IsIn l.initial.side v → IsIn l.side v;
  reached : (from : ℕ) → AllReached l.top l.links from l.initial.side → AllReached l.top l.links from l.side;
  stable : l.has_grown ≡ false → IsClosedBelow l.top l.links l.side l.l;
  counted : count_on l.initial.side ≤ count_on l.side;
  grows : l.has_grown ≡ true → count_on l.initial.side < count_on l.side;
}
