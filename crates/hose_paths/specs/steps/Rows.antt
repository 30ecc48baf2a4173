-- The rows of all nodes, and rows without tight links.
use Rattle.std.specs.Prelude.{◌≡◌, ℕ, ◌<◌, ◌≤◌, Bool, List, length, MatchOption, slice_get, Some}
use Rattle.hose_graph.specs.Network.{Network}
use Rattle.hose_graph.specs.Row.{Distances, distance_of}
use Rattle.hose_graph.specs.steps.Row.{HasBoundedDistances}
use Rattle.hose_law.specs.Row.{IsRow}
use Rattle.hose_law.specs.Walk.{IsDistance, Reaches}

-- In each node's place stands its distance from a root over a set of links, or nothing exactly
-- where there is no walk, and no distance is above the greatest. Of tight links nothing is said.
pub record HasDistances (network : Network) (set : List Bool) (root : ℕ) (row : Distances) :
    Type 0 where
  pub rooted : row.root ≡ root
  pub dist_places : length row.dist ≡ length network.nodes
  pub distances : (v : ℕ) → v < length network.nodes
      → MatchOption (distance_of row v) (¬ Reaches network set root v)
      (IsDistance network set root v)
  pub bounded : HasBoundedDistances row

-- this is the row of a root over a set of links
pub record IsRowOf (network : Network) (links : List Bool) (root : ℕ) (row : Distances) :
    Type 0 where
  pub is_row : IsRow network links root row
  pub bounded : HasBoundedDistances row

-- there is a row for each of the first nodes over a set of links, in order of nodes
pub record AreFirstRows (network : Network) (links : List Bool) (rows : List Distances) :
    Type 0 where
  pub few : length rows ≤ length network.nodes
  pub each : (root : ℕ) (row : Distances) → slice_get rows root ≡ Some row
      → IsRowOf network links root row

-- there is a row for each node over a set of links, in order of nodes
pub record AreRows (network : Network) (links : List Bool) (rows : List Distances) : Type 0 where
  pub places : length rows ≡ length network.nodes
  pub each : (root : ℕ) (row : Distances) → slice_get rows root ≡ Some row
      → IsRowOf network links root row
