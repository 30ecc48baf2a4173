-- The values so far name the nodes.
use Rattle.std.proofs.Common.{◌≡◌, map, take}
use Rattle.serde_json.specs.View.{view}
use Rattle.hose_topo_json.specs.JsonTopology.{NameNodes, unlinked}
use Rattle.hose_topo_json.proofs.nodes.add_nodes.Given as goal

abbrev pub invariant-loop-place : goal.invariant-loop-place
invariant-loop-place l =
    (l.top ≡ unlinked l.top.nodes) × NameNodes (take l.place (map view l.values)) l.top.nodes
