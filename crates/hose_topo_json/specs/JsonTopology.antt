-- What a text in JSON tells: an object with an array `nodes` of names and an array `links` of
-- objects. Nodes and links are numbered by their places. Other members are passed over.
use Rattle.std.specs.Prelude.{◌≡◌, ◌≢◌, ◌⊎◌, ℕ, ◌≤◌, List, [], length, codes, All, AllPairs, None, Some}
use Rattle.std.specs.List.{AllZip}
use Rattle.serde_json.specs.Data.{Data}
use Rattle.serde_json.specs.Find.{as_str, get}
use Rattle.hose_graph.specs.Name.{IsName}
use Rattle.hose_graph.specs.Network.{Network, IsLink, name_of}
use Rattle.hose_graph.specs.declared.topology.Link.{Link}
use Rattle.hose_graph.specs.Limits.{most_nodes, most_links}
use Rattle.hose_topo_json.specs.JsonValue.{ReadsObject, list_at, number_at, text_at}

-- the member `nodes` of a value is an array of 1 to 512 values
pub record HasNodes (value : Data) (values : List Data) : Type 0 where
  pub here : list_at (codes "nodes") value ≡ Some values
  pub some : 1 ≤ length values
  pub few : length values ≤ most_nodes

-- the member `links` of a value is an array of at most 2,048 values
pub record HasLinks (value : Data) (values : List Data) : Type 0 where
  pub here : list_at (codes "links") value ≡ Some values
  pub few : length values ≤ most_links

-- a value is this text
abbrev pub IsText : Data → List ℕ → Type 0
IsText value text = as_str value ≡ Some text

-- values name nodes: each is a text that is a name, and no two are the same
pub record NameNodes (values : List Data) (names : List (List ℕ)) : Type 0 where
  pub texts : AllZip IsText values names
  pub are_names : All IsName names
  pub differ : AllPairs ◌≢◌ names

-- the network of nodes of these names, without a link
abbrev pub unlinked : List (List ℕ) → Network
unlinked names = record { nodes = names; links = [] }

-- the cost that a value tells of a link: what stands under `cost`, or the length where nothing does
abbrev pub TellsCost : Data → Link → Type 0
TellsCost value link =
    ((get (codes "cost") value ≡ None) × (link.cost ≡ link.length))
    ⊎ (number_at (codes "cost") value ≡ Some link.cost)

-- a value tells a link of nodes of these names, which a network of them can have
pub record TellsJsonLink (names : List (List ℕ)) (value : Data) (link : Link) : Type 0 where
  pub a : text_at (codes "a") value ≡ Some (name_of (unlinked names) link.a)
  pub b : text_at (codes "b") value ≡ Some (name_of (unlinked names) link.b)
  pub capacity : number_at (codes "capacity") value ≡ Some link.capacity
  pub distance : number_at (codes "length") value ≡ Some link.length
  pub cost : TellsCost value link
  pub is_link : IsLink (unlinked names) link

-- the bytes are a topology in JSON
pub record IsJsonTopology (bytes : List ℕ) (network : Network) : Type 0 where
  pub value : Data
  pub nodes : List Data
  pub links : List Data
  pub is_read : ReadsObject bytes value
  pub has_nodes : HasNodes value nodes
  pub are_nodes : NameNodes nodes network.nodes
  pub has_links : HasLinks value links
  pub are_links : AllZip (TellsJsonLink network.nodes) links network.links
