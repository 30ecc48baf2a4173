-- What contracts see of a row.
use Rattle.std.specs.Prelude.{ℕ, List, Option, None, slice_index_or}

-- the distances of all nodes from a root, and their tight links, each with a place for every node
pub record Distances : Type 0 where
  pub root : ℕ
  pub dist : List (Option ℕ)
  pub tight : List (Option ℕ)

-- the distance of a node, or none where it has none
abbrev pub distance_of : Distances → ℕ → Option ℕ
distance_of row v = slice_index_or row.dist v None

-- the tight link of a node, or none where it has none
abbrev pub tight_link_of : Distances → ℕ → Option ℕ
tight_link_of row v = slice_index_or row.tight v None
