-- Trees of links, the ways on them, and what a hose reserves on their links.
use Rattle.std.specs.Prelude.{◌≡◌, ◌⊎◌, ℕ, ◌-◌, ◌<◌, ◌≤◌, ◌==◌, ◌↔◌, min, Bool, List, [], ◌∷◌, map, length, reverse, All, Contains, sum_by, if◌then◌else◌}
use Rattle.std.specs.List.{list_any}
use Rattle.hose_graph.specs.Ascending.{IsAscending}
use Rattle.hose_graph.specs.Amounts.{ReservedLink, amount_of}
use Rattle.hose_graph.specs.Hose.{Endpoint, node_of, rate_of, total_rate}
use Rattle.hose_graph.specs.Network.{Network}
use Rattle.hose_graph.specs.declared.topology.Step.{Step}
use Rattle.hose_law.specs.Walk.{IsIn, Joins}

-- a start node, and the steps by which a tree grows from it
pub record Growth : Type 0 where
  pub start : ℕ
  pub steps : List Step

-- the links of steps
abbrev pub step_links : List Step → List ℕ
step_links steps = map (λ (step : Step). step.link) steps

-- the nodes that steps lead to
abbrev pub new_nodes : List Step → List ℕ
new_nodes steps = map (λ (step : Step). step.new) steps

-- a node is on what steps grow from a start: it is the start, or a step leads to it
abbrev pub IsOn : ℕ → List Step → ℕ → Type 0
IsOn start steps v = (v ≡ start) ⊎ Contains (new_nodes steps) v

-- Steps, the last one first, grow a tree: each is a link that joins a node of the tree before it to
-- one that is not on it.
abbrev pub Grow : Network → ℕ → List Step → Type 0
Grow network start [] = start < length network.nodes
Grow network start (step ∷ earlier) =
    Grow network start earlier × IsOn start earlier step.old × (¬ IsOn start earlier step.new)
    × Joins network step.link step.old step.new

-- a tree of the network's links
abbrev pub IsTree : Network → Growth → Type 0
IsTree network tree = Grow network tree.start (reverse tree.steps)

-- the links of a tree
abbrev pub links_of : Growth → List ℕ
links_of tree = step_links tree.steps

-- all links of the tree are in the set
abbrev pub IsTreeOver : List Bool → Growth → Type 0
IsTreeOver set tree = All (IsIn set) (links_of tree)

-- the tree joins the hose: each endpoint is on it
abbrev pub JoinsHose : Growth → List Endpoint → Type 0
JoinsHose tree hose = All (λ (end : Endpoint). IsOn tree.start tree.steps (node_of end)) hose

-- the links from a node up to the start, by steps of which the last one comes first
abbrev pub links_up : List Step → ℕ → List ℕ
links_up [] v = []
links_up (step ∷ earlier) v =
    if v == step.new then step.link ∷ links_up earlier step.old else links_up earlier v

-- the way of a node on a tree, up to the start
abbrev pub way_up : Growth → ℕ → List ℕ
way_up tree v = links_up (reverse tree.steps) v

-- a way goes along a link
abbrev pub goes_along : List ℕ → ℕ → Bool
goes_along way l = list_any (λ other. other == l) way

-- the sum of the rates on the side of a link that is away from the start
abbrev pub rate_beyond : Growth → List Endpoint → ℕ → ℕ
rate_beyond tree hose l =
    sum_by
    (λ (end : Endpoint). if goes_along (way_up tree (node_of end)) l then rate_of end else 0) hose

-- the smaller side's rate sum of a link, which is what is reserved on it
abbrev pub smaller_side : Growth → List Endpoint → ℕ → ℕ
smaller_side tree hose l =
    min (rate_beyond tree hose l) (total_rate hose - rate_beyond tree hose l)

-- what a hose reserves on a tree: on each of its links the smaller side's rate sum, in the order of
-- links
pub record IsReservation (tree : Growth) (hose : List Endpoint)
    (pairs : List ReservedLink) : Type 0 where
  pub ascending : IsAscending pairs
  pub each : (l amount : ℕ)
      → Contains pairs (l, amount)
      ↔ (Contains (links_of tree) l × (amount ≡ smaller_side tree hose l))

-- What a hose reserves on some tree over a set of links that joins it, of which each link needs a
-- part of its rates.
pub record IsTreeReservation (network : Network) (set : List Bool) (hose : List Endpoint)
    (pairs : List ReservedLink) : Type 0 where
  pub tree : Growth
  pub is_tree : IsTree network tree
  pub over : IsTreeOver set tree
  pub joins : JoinsHose tree hose
  pub reserves : IsReservation tree hose pairs
  pub some : All (λ (pair : ReservedLink). 1 ≤ amount_of pair) pairs
