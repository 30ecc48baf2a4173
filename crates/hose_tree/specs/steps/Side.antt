-- The sides of a link of a tree, and what goes from one to the other.
use Rattle.std.specs.Prelude.{◌≡◌, ℕ, Bool, false, List, length, nat_lt, slice_index_or, if◌then◌else◌}
use Rattle.hose_graph.specs.Limits.{most_nodes}
use Rattle.hose_graph.specs.Hose.{Endpoint}
use Rattle.hose_law.specs.steps.Heaviest.{common}
use Rattle.hose_law.specs.Matrix.{sum_below, demand, node_at, rate_at}
use Rattle.hose_law.specs.Route.{one_alone}
use Rattle.hose_law.specs.Tree.{Growth, goes_along, way_up}

-- A mark for each node that a network can have says whether the node lies beyond the link: whether
-- its way up goes along it.
pub record AreBeyond (tree : Growth) (link : ℕ) (marks : List Bool) : Type 0 where
  pub places : length marks ≡ most_nodes
  pub each : (v : ℕ) → slice_index_or marks v false ≡ goes_along (way_up tree v) link

-- endpoint i is at a marked node
abbrev pub is_marked : List Endpoint → List Bool → ℕ → Bool
is_marked hose marks i = slice_index_or marks (node_at hose i) false

-- what endpoint i sends to the endpoints on the other side
abbrev pub sent_across : List Endpoint → List Bool → List (List ℕ) → ℕ → ℕ
sent_across hose marks matrix i =
    sum_below (length hose) (λ j.
    if one_alone (is_marked hose marks i) (is_marked hose marks j) then demand matrix i j else 0)

-- what is paired off of the rates of endpoints i and j, in the row of the lower-numbered one
abbrev pub paired : List Endpoint → List Bool → ℕ → ℕ → ℕ
paired hose marks i j =
    if nat_lt i j then common (rate_at hose) (is_marked hose marks) i j else 0
