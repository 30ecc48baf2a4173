use Rattle.std.proofs.Common.{◌≡◌, ◌*◌, ◌≤◌, take}
use Rattle.hose_graph.specs.declared.limits.TheConstants.{MOST_AMOUNT}
use Rattle.hose_price.specs.Pricing.{plan_total}
use Rattle.hose_price.proofs.bounds.total.Given as goal

abbrev pub invariant-loop-amount : goal.invariant-loop-amount
invariant-loop-amount l = record {
  so_far : l.sum ≡ plan_total (take l.amount-index l.amount-items);
  small : l.sum ≤ l.amount-index * MOST_AMOUNT;
}
