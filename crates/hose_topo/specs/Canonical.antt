-- The canonical text of a topology: all nodes in order, then all links in order, each with its
-- cost, then `end`.
use Rattle.std.specs.Prelude.{ℕ, List, ◌++◌, codes, decimal}
use Rattle.std.specs.List.{flat_map}
use Rattle.hose_graph.specs.Network.{Network, name_of}
use Rattle.hose_graph.specs.declared.topology.Link.{Link}

-- the line of a node, by its name
abbrev pub node_line : List ℕ → List ℕ
node_line name = codes "node " ++ name ++ codes "\n"

-- the line of a link
abbrev pub link_line : Network → Link → List ℕ
link_line network link =
    codes "link " ++ name_of network link.a ++ codes " " ++ name_of network link.b
    ++ codes " " ++ decimal link.capacity ++ codes " " ++ decimal link.length
    ++ codes " " ++ decimal link.cost ++ codes "\n"

-- the whole text
abbrev pub canonical_text : Network → List ℕ
canonical_text network =
    flat_map node_line network.nodes ++ flat_map (link_line network) network.links ++ codes "end\n"
