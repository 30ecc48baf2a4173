-- Rows: the distances of all nodes from a root over a set of links, and their tight links.
use Rattle.std.specs.Prelude.{◌≡◌, ◌≢◌, ℕ, ◌+◌, ◌<◌, ◌≤◌, Bool, List, None, length, MatchOption, IsSomeAnd}
use Rattle.hose_graph.specs.Network.{Network}
use Rattle.hose_graph.specs.Row.{Distances, distance_of, tight_link_of}
use Rattle.hose_law.specs.Walk.{cost_of, Joins, IsIn, IsDistance, Reaches}

-- A link of the set is tight for a node: the node is just as much farther from the root than the
-- link's other end as the link costs.
pub record IsTight (network : Network) (set : List Bool) (root v l : ℕ) : Type 0 where
  pub in_set : IsIn set l
  pub other : ℕ
  pub joins : Joins network l v other
  pub nearer : ℕ
  pub other_distance : IsDistance network set root other nearer
  pub distance : IsDistance network set root v (nearer + cost_of network l)

-- the tight link of a node, which is the lowest-numbered one that is tight for it
pub record IsTightLink (network : Network) (set : List Bool) (root v l : ℕ) : Type 0 where
  pub tight : IsTight network set root v l
  pub lowest : (other : ℕ) → IsTight network set root v other → l ≤ other

-- The row of a root has a place for each node. There stands the node's distance from the root, or
-- nothing exactly where there is no walk, and the node's tight link, which the root and a node that
-- is not reached do not have.
pub record IsRow (network : Network) (set : List Bool) (root : ℕ) (row : Distances) : Type 0 where
  pub rooted : row.root ≡ root
  pub dist_places : length row.dist ≡ length network.nodes
  pub tight_places : length row.tight ≡ length network.nodes
  pub distances : (v : ℕ) → v < length network.nodes
      → MatchOption (distance_of row v) (¬ Reaches network set root v)
      (IsDistance network set root v)
  pub root_has_none : tight_link_of row root ≡ None
  pub unreached_have_none : (v : ℕ) → v < length network.nodes
      → (¬ Reaches network set root v) → tight_link_of row v ≡ None
  pub tight_links : (v : ℕ) → v < length network.nodes → v ≢ root → Reaches network set root v
      → IsSomeAnd (tight_link_of row v) (IsTightLink network set root v)
