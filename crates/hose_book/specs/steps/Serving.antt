-- The links in service beside those that are out, as a book keeps them.
use Rattle.std.specs.Prelude.{◌≡◌, ◌≢◌, ℕ, ◌<◌, ◌≤◌, Bool, false, not, List, length, All, AllPairs, slice_index_or}
use Rattle.hose_graph.specs.Limits.{most_links}
use Rattle.hose_law.specs.Service.{is_out}

-- the set of the links in service, and the links that are out
pub record Served : Type 0 where
  pub links : List Bool
  pub out : List ℕ

-- The set has just the links that are not out. Each that is out has a place in it, and is out once.
pub record IsSetInService (served : Served) : Type 0 where
  pub few : length served.links ≤ most_links
  pub each : (l : ℕ) → l < length served.links
      → slice_index_or served.links l false ≡ not (is_out served.out l)
  pub below : All (λ (l : ℕ). l < length served.links) served.out
  pub once : AllPairs ◌≢◌ served.out
