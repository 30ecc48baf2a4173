-- The plan of a hose over a set of links: the tree of shortest walks from the best root, whichever
-- node that is.
use Rattle.std.specs.Prelude.{◌≡◌, ℕ, ◌+◌, ◌*◌, ◌<◌, ◌≤◌, ◌↔◌, Bool, List, [], ◌∷◌, length, Contains}
use Rattle.hose_graph.specs.Amounts.{ReservedLink}
use Rattle.hose_graph.specs.Hose.{Endpoint, node_of, rate_of}
use Rattle.hose_graph.specs.Network.{Network}
use Rattle.hose_law.specs.Walk.{IsDistance, Joins}
use Rattle.hose_law.specs.Row.{IsTightLink}
use Rattle.hose_law.specs.Tree.{Growth, IsTree, IsTreeOver, JoinsHose, IsReservation, links_of}

-- The weight of a root: the sum of each endpoint's rate times its distance. There is one where the
-- root reaches all endpoints.
abbrev pub IsWeight : Network → List Bool → ℕ → List Endpoint → ℕ → Type 0
IsWeight network set root [] weight = weight ≡ 0
IsWeight network set root (end ∷ ends) weight =
    (distance : ℕ) × (rest : ℕ) × IsDistance network set root (node_of end) distance
    × IsWeight network set root ends rest × (weight ≡ rate_of end * distance + rest)

-- the root: the lowest-numbered node of least weight, an endpoint or not
pub record IsRoot (network : Network) (set : List Bool) (hose : List Endpoint)
    (root weight : ℕ) : Type 0 where
  pub is_node : root < length network.nodes
  pub is_weight : IsWeight network set root hose weight
  pub least : (other heavier : ℕ) → other < length network.nodes
      → IsWeight network set other hose heavier → weight ≤ heavier
  pub lowest : (other : ℕ) → other < length network.nodes
      → IsWeight network set other hose weight → root ≤ other

-- the way of a node to a root along tight links
abbrev pub IsTightWay : Network → List Bool → ℕ → ℕ → List ℕ → Type 0
IsTightWay network set root v [] = v ≡ root
IsTightWay network set root v (l ∷ way) =
    IsTightLink network set root v l
    × ((nearer : ℕ) × Joins network l v nearer × IsTightWay network set root nearer way)

-- a link is on the way of an endpoint to the root
pub record IsOnWay (network : Network) (set : List Bool) (root : ℕ) (hose : List Endpoint)
    (l : ℕ) : Type 0 where
  pub end : Endpoint
  pub is_end : Contains hose end
  pub way : List ℕ
  pub is_way : IsTightWay network set root (node_of end) way
  pub on_way : Contains way l

-- The tree of a root: it starts there, and its links are those of the endpoints' ways to the root.
pub record IsCanonicalTree (network : Network) (set : List Bool) (hose : List Endpoint)
    (root : ℕ) (tree : Growth) : Type 0 where
  pub starts : tree.start ≡ root
  pub is_tree : IsTree network tree
  pub over : IsTreeOver set tree
  pub joins : JoinsHose tree hose
  pub union : (l : ℕ) → Contains (links_of tree) l ↔ IsOnWay network set root hose l

-- the plan: what the hose reserves on the tree of its root
pub record IsCanonicalPlan (network : Network) (set : List Bool) (hose : List Endpoint)
    (plan : List ReservedLink) : Type 0 where
  pub root : ℕ
  pub weight : ℕ
  pub is_root : IsRoot network set hose root weight
  pub tree : Growth
  pub is_canonical : IsCanonicalTree network set hose root tree
  pub reserves : IsReservation tree hose plan
