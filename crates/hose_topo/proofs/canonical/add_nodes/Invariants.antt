use Rattle.std.proofs.Common.{take}
use Rattle.std.specs.List.{flat_map}
use Rattle.hose_topo.specs.Canonical.{node_line}
use Rattle.hose_topo.proofs.canonical.add_nodes.Given as goal

abbrev pub invariant-loop-node : goal.invariant-loop-node
invariant-loop-node g l = g.P.Pieces.adds l.fn.pieces l.pieces (flat_map node_line (take l.node l.top.nodes))
