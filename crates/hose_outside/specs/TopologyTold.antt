-- What the text of a topology tells, in lines or in JSON, and what it costs to use it.
use Rattle.std.specs.Prelude.{◌≡◌, ℕ, List, codes, if◌then◌else◌, nat_eq, ◌≤◌, length, Option, MatchOption, Some}
use Rattle.std.specs.List.{ends_with}
use Rattle.hose_words.specs.Limits.{input_limit}
use Rattle.hose_graph.specs.Network.{Network}
use Rattle.hose_topo.specs.TopologyText.{IsTopologyText, IsWrongAt}
use Rattle.hose_topo_json.specs.JsonTopology.{IsJsonTopology}
use Rattle.hose_topo_json.specs.Refused.{IsJsonFault}
use Rattle.hose_topo_json.specs.declared.reading.JsonFault.TheVariants as fault
use Rattle.hose_outside.specs.declared.notation.Notation.{Notation}
use Rattle.hose_outside.specs.declared.notation.Notation.TheVariants as notation
use Rattle.hose_outside.specs.declared.notation.Refusal.{Refusal}
use Rattle.hose_outside.specs.declared.notation.Refusal.TheVariants.{Word, Json, Nodes, Node, Links, Link}
use Rattle.hose_outside.specs.Limits.{json_limit}
use Rattle.hose_io.specs.Stream.{Stream}
use Rattle.hose_words.specs.Reading.{WhereTold}

-- how the text of a name is written
abbrev pub notation_of : List ℕ → Notation
notation_of name = if ends_with nat_eq name (codes ".json") then notation.Json else notation.Lines

-- how many bytes of it are read at most; one more is too many
abbrev pub limit_of : Notation → ℕ
limit_of notation.Lines = input_limit
limit_of notation.Json = json_limit

-- The bytes tell a network: they begin with its text, or are its JSON as a whole.
abbrev pub Tells : Notation → List ℕ → Network → Type 0
Tells notation.Lines bytes network = (rest : List ℕ) × IsTopologyText bytes network rest
Tells notation.Json bytes network = IsJsonTopology bytes network

-- a network costs what it tells itself
abbrev pub own_costs : Network → Network → Type 0
own_costs network priced = priced ≡ network

-- The bytes tell a network, of which prices make this one.
abbrev pub TellsPriced : Notation → (Network → Network → Type 0) → List ℕ → Network → Type 0
TellsPriced written prices bytes network =
    (told : Network) × Tells written bytes told × prices told network

-- the bytes are refused so
abbrev pub IsRefusedAs : Notation → Refusal → List ℕ → Type 0
IsRefusedAs notation.Lines (Word line word) bytes = (rest : List ℕ) × IsWrongAt bytes line word rest
IsRefusedAs notation.Json Json bytes = IsJsonFault bytes fault.Json
IsRefusedAs notation.Json Nodes bytes = IsJsonFault bytes fault.Nodes
IsRefusedAs notation.Json (Node index) bytes = IsJsonFault bytes (fault.Node index)
IsRefusedAs notation.Json Links bytes = IsJsonFault bytes fault.Links
IsRefusedAs notation.Json (Link index) bytes = IsJsonFault bytes (fault.Link index)
IsRefusedAs written refusal bytes = ⊥

-- the text tells no network, and is refused so
abbrev pub TellsNoNetwork : Notation → Refusal → Option Stream → Option Stream → Type 0
TellsNoNetwork written refusal old new = WhereTold old new (λ text _.
    IsRefusedAs written refusal text × ((network : Network) → ¬ Tells written text network))

-- The text is told, and tells no network.
abbrev pub IsRefusedText : Notation → Option Stream → Option Stream → Type 0
IsRefusedText written (Some old) (Some new) = (network : Network) → ¬ Tells written old.left network
IsRefusedText written _ _ = ⊥

-- The text is told: it tells a network, and is not too long.
abbrev pub IsServable : Notation → Option Stream → Type 0
IsServable written text = MatchOption text ⊥ (λ stream. (network : Network)
    × Tells written stream.left network × (length stream.left ≤ limit_of written))

-- The text is told, and this holds of each network that prices make of one that it tells.
abbrev pub IsFor : Notation → (Network → Network → Type 0) → Option Stream → (Network → Type 0)
    → Type 0
IsFor written prices text Is = MatchOption text ⊥ (λ stream. (network : Network)
    → TellsPriced written prices stream.left network → Is network)

-- the text tells a network
abbrev pub HasText : Notation → Option Stream → Option Stream → Type 0
HasText written old new =
    WhereTold old new (λ text _. (network : Network) × Tells written text network)

-- the text tells a network, and of the one that prices make of it this holds
pub record HasNetwork (written : Notation) (prices : Network → Network → Type 0)
    (old new : Option Stream) (Is : Network → Type 0) : Type 0 where
  pub network : Network
  pub text : WhereTold old new (λ text _. TellsPriced written prices text network)
  pub is : Is network
