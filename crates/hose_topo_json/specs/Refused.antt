-- Why bytes are no topology in JSON. Each fault comes only where those before it do not.
use Rattle.std.specs.Prelude.{◌≡◌, ℕ, List, Some, Contains, slice_get, take, ⊤}
use Rattle.std.specs.List.{AllZip}
use Rattle.serde_json.specs.Data.{Data}
use Rattle.hose_graph.specs.Name.{IsName}
use Rattle.hose_graph.specs.declared.topology.Link.{Link}
use Rattle.hose_topo_json.specs.JsonValue.{ReadsObject}
use Rattle.hose_topo_json.specs.JsonTopology.{HasLinks, HasNodes, IsText, NameNodes, TellsJsonLink}
use Rattle.hose_topo_json.specs.declared.reading.JsonFault.{JsonFault}
use Rattle.hose_topo_json.specs.declared.reading.JsonFault.TheVariants.{Json, Nodes, Node, Links, Link as LinkAt, Memory}

-- The lowest value that adds no node is at this place: it is no text, its text is no name, or a
-- value before it has the same one.
pub record IsWrongNode (values : List Data) (place : ℕ) : Type 0 where
  pub names : List (List ℕ)
  pub value : Data
  pub front : NameNodes (take place values) names
  pub here : slice_get values place ≡ Some value
  pub wrong : (name : List ℕ) → IsText value name → IsName name → Contains names name

-- the lowest value that tells no link is at this place
pub record IsWrongLink (names : List (List ℕ)) (values : List Data) (place : ℕ) : Type 0 where
  pub links : List Link
  pub value : Data
  pub front : AllZip (TellsJsonLink names) (take place values) links
  pub here : slice_get values place ≡ Some value
  pub wrong : (link : Link) → ¬ TellsJsonLink names value link

-- the bytes are an object, and have an array of nodes
pub record HasNodesIn (bytes : List ℕ) (value : Data) (nodes : List Data) : Type 0 where
  pub is_read : ReadsObject bytes value
  pub has_nodes : HasNodes value nodes

-- the fault that is told of bytes; of want of memory nothing is said
abbrev pub IsJsonFault : List ℕ → JsonFault → Type 0
IsJsonFault bytes Json = (value : Data) → ¬ ReadsObject bytes value
IsJsonFault bytes Nodes =
    (value : Data) × ReadsObject bytes value × ((nodes : List Data) → ¬ HasNodes value nodes)
IsJsonFault bytes (Node index) =
    (value : Data) × (nodes : List Data) × HasNodesIn bytes value nodes × IsWrongNode nodes index
IsJsonFault bytes Links =
    (value : Data) × (nodes : List Data) × (names : List (List ℕ)) × HasNodesIn bytes value nodes
    × NameNodes nodes names × ((links : List Data) → ¬ HasLinks value links)
IsJsonFault bytes (LinkAt index) =
    (value : Data) × (nodes : List Data) × (names : List (List ℕ)) × HasNodesIn bytes value nodes
    × NameNodes nodes names
    × ((links : List Data) × HasLinks value links × IsWrongLink names links index)
IsJsonFault bytes Memory = ⊤
