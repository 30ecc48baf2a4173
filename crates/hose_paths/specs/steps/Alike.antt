-- Networks that have the same rows.
use Rattle.std.specs.Prelude.{◌≡◌, ℕ, length, Some, slice_get}
use Rattle.hose_graph.specs.declared.topology.Link.{Link}
use Rattle.hose_graph.specs.Network.{Network}

-- two links join the same nodes, which both name in one order, and cost the same
abbrev pub JoinAtOneCost : Link → Link → Type 0
JoinAtOneCost one other = (one.a ≡ other.a) × (one.b ≡ other.b) × (one.cost ≡ other.cost)

-- Both networks have as many nodes and as many links, and links of one number join the same nodes
-- at one cost. The rows of a network depend on nothing else of it.
pub record AreCostAlike (one other : Network) : Type 0 where
  pub nodes : length one.nodes ≡ length other.nodes
  pub links : length one.links ≡ length other.links
  pub each : (number : ℕ) (link also : Link) → slice_get one.links number ≡ Some link
      → slice_get other.links number ≡ Some also → JoinAtOneCost link also
