-- Routes on a tree, and what a matrix puts on its links.
use Rattle.std.specs.Prelude.{ℕ, Bool, true, false, not, List, length, if◌then◌else◌}
use Rattle.hose_graph.specs.Hose.{Endpoint}
use Rattle.hose_law.specs.Matrix.{sum_below, demand, node_at}
use Rattle.hose_law.specs.Tree.{Growth, way_up, goes_along}

-- just one of two holds
abbrev pub one_alone : Bool → Bool → Bool
one_alone true other = not other
one_alone false other = other

-- The route of two nodes of a tree has the links that are on the way up of one of them and not on
-- that of the other.
abbrev pub is_on_route : Growth → ℕ → ℕ → ℕ → Bool
is_on_route tree u v l =
    one_alone (goes_along (way_up tree u) l) (goes_along (way_up tree v) l)

-- the load that a matrix puts on a link: the sum of its entries over the ordered pairs of endpoints
-- whose route has the link
abbrev pub matrix_load : Growth → List Endpoint → List (List ℕ) → ℕ → ℕ
matrix_load tree hose matrix l =
    sum_below (length hose) (λ i. sum_below (length hose) (λ j.
    if is_on_route tree (node_at hose i) (node_at hose j) l then demand matrix i j else 0))
