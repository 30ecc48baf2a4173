-- What words of commands and replies name of a network: steps of proofs.
use Rattle.hose_graph.specs.Hose.{IsEnd, Endpoint, node_of}
use Rattle.hose_graph.specs.Network.{Network, IsNodeOf}

-- an endpoint at a node of the network
pub record IsEndOf (network : Network) (end : Endpoint) : Type 0 where
  pub is_end : IsEnd end
  pub is_node : IsNodeOf network (node_of end)
