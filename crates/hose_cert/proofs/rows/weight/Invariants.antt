-- The sum is what the endpoints so far weigh.
use Rattle.std.proofs.Common.{◌≡◌, ◌*◌, ◌≤◌, take}
use Rattle.hose_graph.specs.declared.limits.TheConstants.{MOST_RATE}
use Rattle.hose_cert.specs.Rules.{weighed_by}
use Rattle.hose_cert.specs.declared.statement.TheConstants.{MOST_NUMBER}
use Rattle.hose_cert.proofs.rows.weight.Given as goal

abbrev pub invariant-loop-node : goal.invariant-loop-node
invariant-loop-node l = record {
  so_far : l.sum ≡ weighed_by l.row (take l.node-index l.hose);
  small : l.sum ≤ l.node-index * (MOST_RATE * MOST_NUMBER);
}
