-- The values so far tell the links, and the nodes stay.
use Rattle.std.proofs.Common.{◌≡◌, map, take}
use Rattle.std.specs.List.{AllZip}
use Rattle.serde_json.specs.View.{view}
use Rattle.hose_topo_json.specs.JsonTopology.{TellsJsonLink}
use Rattle.hose_topo_json.proofs.links.add_links.Given as goal

abbrev pub invariant-loop-place : goal.invariant-loop-place
invariant-loop-place l =
    (l.top.nodes ≡ l.fn.top.nodes)
    × AllZip (TellsJsonLink l.fn.top.nodes) (take l.place (map view l.values)) l.top.links
