-- The distance of the node falls along its way to the root.
use Rattle.std.proofs.Common.{unwrap_or}
use Rattle.hose_graph.specs.Row.{distance_of}
use Rattle.hose_tree.proofs.canonical.+attach.Given as goal

abbrev pub decreases-attach : goal.decreases-attach
decreases-attach l = unwrap_or (distance_of l.row.now l.node) 0
