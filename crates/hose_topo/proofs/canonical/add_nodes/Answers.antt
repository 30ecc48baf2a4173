use Rattle.std.proofs.Common.{[], arith}
use Rattle.hose_io.proofs.Gathering.{flat_map-take}
use Rattle.hose_topo.specs.Canonical.{node_line}
use Rattle.hose_topo.proofs.NamesTold.{name_told}
use Rattle.hose_topo.proofs.canonical.add_nodes.Goals as goal

pub loop-node-preserved : goal.loop-node-preserved
loop-node-preserved g c =
    let next = g.met.P.Pieces.next in
    let name = name_told c.args.top.now.nodes c.loop-node.node _ _ c.name.ensures c.bytes.ensures.value in
    rw (flat_map-take node_line c.args.top.now.nodes c.loop-node.node [] (omega arith))
    (next _ _ _ _ _ c.loop-node.invariant
    (next _ _ _ _ _ (next _ _ _ _ _ c.add.ensures (rw name at c.add-in-loop-node.ensures)) c.add-in-loop-node-2.ensures))
