use Rattle.std.proofs.Common.{◌≡◌, ◌*◌, ◌≤◌, take}
use Rattle.std.specs.List.{sum_by}
use Rattle.hose_graph.specs.declared.limits.TheConstants.{MOST_CAPACITY, MOST_COST}
use Rattle.hose_audit.specs.Audit.{link_numbers, load_cost}
use Rattle.hose_audit.proofs.lines.total_cost.Given as goal

abbrev pub invariant-loop-number : goal.invariant-loop-number
invariant-loop-number l = record {
  so_far : l.total ≡ sum_by (load_cost l.book.network l.book.book) (take l.number (link_numbers l.book.network));
  small : l.total ≤ l.number * (MOST_CAPACITY * MOST_COST);
}
