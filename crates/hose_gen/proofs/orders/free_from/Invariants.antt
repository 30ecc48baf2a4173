use Rattle.std.proofs.Common.{◌≡◌, ◌<◌}
use Rattle.hose_gen.specs.Generated.{free_node}
use Rattle.hose_gen.proofs.orders.free_from.Given as goal

abbrev pub invariant-loop-left : goal.invariant-loop-left
invariant-loop-left l = (free_node l.nodes l.ends l.node l.left ≡ free_node l.nodes l.ends l.first l.nodes) × (l.node < l.nodes)

abbrev pub decreases-loop-left : goal.decreases-loop-left
decreases-loop-left l = l.left
