use Rattle.std.proofs.Common.{◌≡◌, ap, arith}
use Rattle.hose_graph.specs.Network.{Network}
use Rattle.hose_gen.specs.Generated.{node_names}
use Rattle.hose_gen.proofs.Numbered.{is_new, length-node_names}
use Rattle.hose_gen.proofs.links.add_nodes.Goals as goal

pub push_node-requires-clause-room : goal.push_node-requires-clause-room
push_node-requires-clause-room c =
    let same : c.loop-node.top.nodes ≡ node_names c.loop-node.node = ap (λ (n : Network). n.nodes) c.loop-node.invariant in
    rw same (omega (arith, length-node_names c.loop-node.node, c.loop-node-test.true, c.requires.few))

pub push_node-requires-clause-is_new : goal.push_node-requires-clause-is_new
push_node-requires-clause-is_new c =
    let same : c.loop-node.top.nodes ≡ node_names c.loop-node.node = ap (λ (n : Network). n.nodes) c.loop-node.invariant in
    rw (same, c.numbered.ensures) (is_new c.loop-node.node c.loop-node.node (omega arith) (omega (arith, c.loop-node-test.true, c.requires.few)))
