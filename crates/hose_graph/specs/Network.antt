-- Networks: named nodes, and the links that join two of them. This is what contracts see of a
-- topology.
use Rattle.std.specs.Prelude.{◌≢◌, ℕ, ◌<◌, ◌≤◌, List, [], length, All, AllPairs, slice_index_or}
use Rattle.hose_graph.specs.Limit.{IsUpTo}
use Rattle.hose_graph.specs.Name.{IsName}
use Rattle.hose_graph.specs.declared.topology.Link.{Link}
use Rattle.hose_graph.specs.Limits.{most_nodes, most_links, most_capacity, most_length, most_cost}

-- the names of the nodes, and the links; nodes and links are numbered by their places
pub record Network : Type 0 where
  pub nodes : List (List ℕ)
  pub links : List Link

-- The link's nodes are there, and its numbers are within the limits.
pub record IsInRange (network : Network) (link : Link) : Type 0 where
  pub a : link.a < length network.nodes
  pub b : link.b < length network.nodes
  pub capacity : IsUpTo most_capacity link.capacity
  pub distance : IsUpTo most_length link.length
  pub cost : IsUpTo most_cost link.cost

-- The network can have this link: its nodes and numbers are in range, and it joins two different
-- nodes.
pub record IsLink (network : Network) (link : Link) : Type 0 where
  pub in_range : IsInRange network link
  pub no_loop : link.a ≢ link.b

-- There are no more nodes and links than the limits, no two nodes have one name, and each link is
-- one that the network can have.
pub record IsNetwork (network : Network) : Type 0 where
  pub few_nodes : length network.nodes ≤ most_nodes
  pub few_links : length network.links ≤ most_links
  pub names : All IsName network.nodes
  pub differ : AllPairs ◌≢◌ network.nodes
  pub links : All (IsLink network) network.links

-- the network has room for one more node
abbrev pub HasNodeRoom : Network → Type 0
HasNodeRoom network = length network.nodes < most_nodes

-- the network has room for one more link
abbrev pub HasLinkRoom : Network → Type 0
HasLinkRoom network = length network.links < most_links

-- the number is that of a node of the network
abbrev pub IsNodeOf : Network → ℕ → Type 0
IsNodeOf network node = node < length network.nodes

-- the number is that of a link of the network
abbrev pub IsLinkOf : Network → ℕ → Type 0
IsLinkOf network link = link < length network.links

-- the name of a node
abbrev pub name_of : Network → ℕ → List ℕ
name_of network node = slice_index_or network.nodes node []
