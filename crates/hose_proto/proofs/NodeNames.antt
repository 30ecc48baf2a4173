-- The name that a topology lends of a node.
use Rattle.std.proofs.Common.{◌≡◌, ◌∙◌, ℕ, List, [], Some, sym}
use Rattle.std.specs.List.{slice_get}
use Rattle.std.proofs.lemmas.Option.{get_or_from_slice_get}
use Rattle.hose_graph.specs.Network.{Network, name_of}

-- its bytes are the node's name
pub name_lent : (network : Network) (node : ℕ) (name bytes : List ℕ) → slice_get network.nodes node ≡ Some name → bytes ≡ name → bytes ≡ name_of network node
name_lent network node name bytes there same = same ∙ sym (get_or_from_slice_get network.nodes node name [] there)
