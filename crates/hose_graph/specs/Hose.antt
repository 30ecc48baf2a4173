-- Hoses: endpoints of a network, each with the rate that bounds its traffic. Contracts see a hose
-- as the list of them.
use Rattle.std.specs.Prelude.{◌≢◌, ℕ, ◌<◌, ◌≤◌, List, length, All, AllPairs, sum_by}
use Rattle.hose_graph.specs.Limit.{IsUpTo}
use Rattle.hose_graph.specs.Ascending.{IsAscending}
use Rattle.hose_graph.specs.Limits.{most_nodes, least_ends, most_ends, most_rate}

-- an endpoint is a node and a rate
abbrev pub Endpoint : Type 0
Endpoint = ℕ × ℕ

-- the node of an endpoint
abbrev pub node_of : Endpoint → ℕ
node_of end = end.0

-- the rate of an endpoint
abbrev pub rate_of : Endpoint → ℕ
rate_of end = end.1

-- an endpoint's node is below the greatest number of nodes, and its rate is within the limit
pub record IsEnd (end : Endpoint) : Type 0 where
  pub node : node_of end < most_nodes
  pub rate : IsUpTo most_rate (rate_of end)

-- how many endpoints there are is within the limits
pub record IsCounted (ends : List Endpoint) : Type 0 where
  pub enough : least_ends ≤ length ends
  pub few : length ends ≤ most_ends

-- A hose has as many endpoints as the limits allow, in ascending order of nodes, no node twice.
pub record IsHose (ends : List Endpoint) : Type 0 where
  pub counted : IsCounted ends
  pub within : All IsEnd ends
  pub ascending : IsAscending ends

-- the sum of the rates of these endpoints
abbrev pub total_rate : List Endpoint → ℕ
total_rate ends = sum_by rate_of ends

-- no two of these endpoints are at one node
abbrev pub HasDistinctNodes : List Endpoint → Type 0
HasDistinctNodes ends = AllPairs (λ one other. node_of one ≢ node_of other) ends
