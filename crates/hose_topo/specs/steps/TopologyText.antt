-- Lines of a topology's text by forms, and what each does: steps of proofs.
use Rattle.std.specs.Prelude.{◌≡◌, ◌⊎◌, ℕ, ◌<◌, List, [], ◌∷◌, ◌++◌, codes, decimal, Contains, length}
use Rattle.hose_words.specs.steps.Form.{Form, finish, place, branch, maybe, TellsNumber, grammar_of}
use Rattle.hose_words.specs.steps.Grammar.{Grammar}
use Rattle.hose_graph.specs.Name.{IsName}
use Rattle.hose_graph.specs.Limit.{IsUpTo}
use Rattle.hose_graph.specs.Limits.{most_capacity, most_length, most_cost}
use Rattle.hose_graph.specs.Network.{Network, IsLink, IsNodeOf, HasNodeRoom, HasLinkRoom, name_of}
use Rattle.hose_graph.specs.declared.topology.Link.{Link}
use Rattle.hose_topo.specs.declared.line.LineKind.{LineKind}
use Rattle.hose_topo.specs.declared.line.LineKind.TheVariants as kind
use Rattle.hose_topo.specs.TopologyText.{IsNewName, IsOtherNode, IsPassedOver, MayCome, kind_word}

-- ---- what a line does

-- `node NAME`: the network has room for a node, and none of this name
pub record AddsNode (network : Network) (words : List (List ℕ)) (next : Network) : Type 0 where
  pub name : List ℕ
  pub line : words ≡ codes "node" ∷ name ∷ []
  pub is_name : IsName name
  pub is_new : ¬ Contains network.nodes name
  pub room : HasNodeRoom network
  pub added : next ≡ record network { nodes = network.nodes ++ name ∷ [] }

-- the words of a link without its cost
abbrev pub link_words : Network → Link → List (List ℕ)
link_words network link =
    codes "link" ∷ name_of network link.a ∷ name_of network link.b
    ∷ decimal link.capacity ∷ decimal link.length ∷ []

-- `link A B CAPACITY LENGTH`, where it costs its length, or `link A B CAPACITY LENGTH COST`
abbrev pub TellsLink : Network → List (List ℕ) → Link → Type 0
TellsLink network words link =
    ((words ≡ link_words network link) × (link.cost ≡ link.length))
    ⊎ (words ≡ link_words network link ++ decimal link.cost ∷ [])

-- a link line: the network has room for a link, and may have the one that is told
pub record AddsLink (network : Network) (words : List (List ℕ)) (next : Network) : Type 0 where
  pub link : Link
  pub tells : TellsLink network words link
  pub is_link : IsLink network link
  pub room : HasLinkRoom network
  pub added : next ≡ record network { links = network.links ++ link ∷ [] }

-- a line before the end: it is passed over, or adds to the network
abbrev pub AddsByKind : Network → List (List ℕ) → Network → Type 0
AddsByKind network words next =
    (IsPassedOver words × (next ≡ network))
    ⊎ (AddsNode network words next ⊎ AddsLink network words next)

-- the line `end`, after a node at least
abbrev pub IsLastLine : Network → List (List ℕ) → Type 0
IsLastLine network words = (words ≡ codes "end" ∷ []) × (0 < length network.nodes)

-- what a line that is not passed over does, by its kind
abbrev pub TellsLine : Network → LineKind → List (List ℕ) → Network → Type 0
TellsLine network kind.Node words next = AddsNode network words next
TellsLine network kind.Link words next = AddsLink network words next
TellsLine network kind.End words next = IsLastLine network words × (next ≡ network)

-- ---- what is not allowed

-- `NAME`
abbrev pub node_form : Network → Form
node_form network = place (IsNewName network) finish

-- a number from 1 up to a limit
abbrev pub number_form : ℕ → Form → Form
number_form most form = place (TellsNumber (IsUpTo most)) form

-- `CAPACITY LENGTH`, and `COST` where it is told
abbrev pub numbers_form : Form
numbers_form =
    number_form most_capacity (number_form most_length (maybe (number_form most_cost finish)))

-- `A B CAPACITY LENGTH`, and `COST` where it is told
abbrev pub link_form : Network → Form
link_form network =
    branch (IsNodeOf network) (name_of network)
    (λ a. branch (IsOtherNode network a) (name_of network) (λ b. numbers_form))

-- what may stand after the first word
abbrev pub kind_form : Network → LineKind → Form
kind_form network kind.Node = node_form network
kind_form network kind.Link = link_form network
kind_form network kind.End = finish

-- a line that is not passed over
abbrev pub line_form : Network → Form
line_form network = branch (MayCome network) kind_word (kind_form network)

-- the grammar of the lines that are not passed over
abbrev pub line_grammar : Network → Grammar
line_grammar network = grammar_of (line_form network)
