use Rattle.std.proofs.Common.{◌≡◌, []}
use Rattle.hose_gen.specs.Generated.{node_names}
use Rattle.hose_gen.proofs.links.add_nodes.Given as goal

abbrev pub invariant-loop-node : goal.invariant-loop-node
invariant-loop-node l = l.top ≡ record { nodes = node_names l.node; links = [] }
