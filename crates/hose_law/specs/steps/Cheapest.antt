-- Least cost: amounts that carry a hose over a set of links, and none on any tree that cost less:
-- steps of proofs.
use Rattle.std.specs.Prelude.{ℕ, ◌<◌, ◌≤◌, Bool, List, length, All}
use Rattle.hose_graph.specs.Hose.{Endpoint, node_of}
use Rattle.hose_graph.specs.Network.{Network}
use Rattle.hose_law.specs.CanonicalPlan.{IsWeight}
use Rattle.hose_law.specs.Walk.{Reaches}

-- Some node that reaches all endpoints over a set of links weighs no more than this: it cannot but
-- have a weight, and has none above.
pub record HasRootWithin (network : Network) (set : List Bool) (hose : List Endpoint)
    (most : ℕ) : Type 0 where
  pub root : ℕ
  pub is_node : root < length network.nodes
  pub reaches : All (λ (end : Endpoint). Reaches network set root (node_of end)) hose
  pub weighs : ¬ ((weight : ℕ) → ¬ IsWeight network set root hose weight)
  pub within : (weight : ℕ) → IsWeight network set root hose weight → weight ≤ most
