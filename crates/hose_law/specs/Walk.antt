-- Walks over a set of links, distances, and what a node reaches.
use Rattle.std.specs.Prelude.{◌≡◌, ◌⊎◌, ℕ, ◌+◌, ◌≤◌, Bool, true, false, List, [], ◌∷◌, map, length, IsTrue, IsSomeAnd, replicate, slice_get, slice_index, slice_index_or}
use Rattle.hose_graph.specs.declared.topology.Link.{Link}
use Rattle.hose_graph.specs.Network.{Network}

-- what a unit of bandwidth costs on a link, or 0 where there is no such link
abbrev pub cost_of : Network → ℕ → ℕ
cost_of network l = slice_index (map (λ (link : Link). link.cost) network.links) l

-- what a link can carry, in both directions together, or 0 where there is no such link
abbrev pub capacity_of : Network → ℕ → ℕ
capacity_of network l = slice_index (map (λ (link : Link). link.capacity) network.links) l

-- the link joins the two nodes, whichever of them it names first
abbrev pub Joins : Network → ℕ → ℕ → ℕ → Type 0
Joins network l u v =
    IsSomeAnd (slice_get network.links l)
    (λ (link : Link). ((link.a ≡ u) × (link.b ≡ v)) ⊎ ((link.a ≡ v) × (link.b ≡ u)))

-- A set of links has a truth value for each link: this link is in it.
abbrev pub IsIn : List Bool → ℕ → Type 0
IsIn set l = IsTrue (slice_index_or set l false)

-- the set of all links of the network
abbrev pub all_links : Network → List Bool
all_links network = replicate (length network.links) true

-- A walk over a set of links is the list of the links that it goes along, from a node to a node.
abbrev pub IsWalk : Network → List Bool → ℕ → ℕ → List ℕ → Type 0
IsWalk network set u v [] = u ≡ v
IsWalk network set u v (l ∷ walk) =
    (x : ℕ) × IsIn set l × Joins network l u x × IsWalk network set x v walk

-- what a walk costs: the sum of its links' costs
abbrev pub walk_cost : Network → List ℕ → ℕ
walk_cost network [] = 0
walk_cost network (l ∷ walk) = cost_of network l + walk_cost network walk

-- the distance of two nodes over a set: what a walk of theirs costs than which none costs less
pub record IsDistance (network : Network) (set : List Bool) (u v distance : ℕ) : Type 0 where
  pub walk : List ℕ
  pub walks : IsWalk network set u v walk
  pub costs : walk_cost network walk ≡ distance
  pub least : (other : List ℕ) → IsWalk network set u v other → distance ≤ walk_cost network other

-- there is a walk from the one node to the other
abbrev pub Reaches : Network → List Bool → ℕ → ℕ → Type 0
Reaches network set u v = (walk : List ℕ) × IsWalk network set u v walk
