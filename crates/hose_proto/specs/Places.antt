-- What words of commands and replies name of a network: endpoints at its nodes.
use Rattle.std.specs.Prelude.{ℕ, List, ◌++◌, All, codes, decimal}
use Rattle.hose_graph.specs.Hose.{IsHose, Endpoint, node_of, rate_of}
use Rattle.hose_graph.specs.Network.{Network, IsNodeOf, name_of}

-- an endpoint: `NAME:RATE`
abbrev pub end_word : Network → Endpoint → List ℕ
end_word network end = name_of network (node_of end) ++ codes ":" ++ decimal (rate_of end)

-- a hose at nodes of the network
pub record IsHoseOf (network : Network) (hose : List Endpoint) : Type 0 where
  pub is_hose : IsHose hose
  pub nodes : All (λ end. IsNodeOf network (node_of end)) hose
