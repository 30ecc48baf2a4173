-- What a plan costs, and the nodes that a hose and a side name: steps of proofs.
use Rattle.std.specs.Prelude.{◌≡◌, ℕ, ◌<◌, Bool, List, length, All, ◌↔◌}
use Rattle.hose_graph.specs.Hose.{Endpoint, node_of}
use Rattle.hose_graph.specs.Network.{Network}
use Rattle.hose_law.specs.Walk.{IsIn, Reaches}

-- the nodes that a node reaches over a set of links, as a truth value for each node
pub record IsReachedSet (network : Network) (set : List Bool) (from : ℕ)
    (nodes : List Bool) : Type 0 where
  pub places : length nodes ≡ length network.nodes
  pub reached : (v : ℕ) → v < length network.nodes → IsIn nodes v ↔ Reaches network set from v

-- each endpoint is a node of the network
abbrev pub AreNodes : Network → List Endpoint → Type 0
AreNodes network hose = All (λ (end : Endpoint). node_of end < length network.nodes) hose
