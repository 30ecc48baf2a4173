use Rattle.std.proofs.Common.{◌≡◌, ◌*◌, ◌≤◌, take}
use Rattle.hose_graph.specs.declared.limits.TheConstants.{MOST_AMOUNT, MOST_COST}
use Rattle.hose_law.specs.Plan.{plan_cost}
use Rattle.hose_tree.proofs.amounts.cost.Given as goal

abbrev pub invariant-loop-link : goal.invariant-loop-link
invariant-loop-link l = record {
  so_far : l.sum ≡ plan_cost l.top (take l.link-index l.link-items);
  small : l.sum ≤ l.link-index * (MOST_COST * MOST_AMOUNT);
}
