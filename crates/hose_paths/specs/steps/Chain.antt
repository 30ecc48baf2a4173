-- The links of a set at each node, one after another, from the last to the first.
use Rattle.std.specs.Prelude.{◌≡◌, ℕ, ◌*◌, ◌<◌, ◌≤◌, Bool, List, Option, Some, length, MatchOption, slice_get}
use Rattle.hose_graph.specs.declared.topology.Link.{Link}
use Rattle.hose_graph.specs.Network.{Network}
use Rattle.hose_law.specs.Walk.{cost_of, IsIn, Joins}
use Rattle.hose_paths.specs.declared.chains.Arc.{Arc}
use Rattle.hose_paths.specs.declared.chains.Chains.{Chains}
use Rattle.hose_paths.specs.steps.Table.{entry}

-- a link of the set joins this node to some other
pub record Meets (network : Network) (set : List Bool) (v l : ℕ) : Type 0 where
  pub in_set : IsIn set l
  pub other : ℕ
  pub joins : Joins network l v other

-- An arc leads from a node over a link of the set, at the link's cost.
pub record LeadsFrom (network : Network) (set : List Bool) (v : ℕ) (arc : Arc) : Type 0 where
  pub in_set : IsIn set arc.link
  pub joins : Joins network arc.link v arc.to
  pub cost : arc.cost ≡ cost_of network arc.link

-- at a place stands an arc that leads from a node over a link of the set
pub record IsArcOf (network : Network) (set : List Bool) (arcs : List Arc) (v place : ℕ) :
    Type 0 where
  pub arc : Arc
  pub there : slice_get arcs place ≡ Some arc
  pub leads : LeadsFrom network set v arc

-- At a place stands an arc from a node over a link of the set below a number, and no link of the
-- set between that one and the number meets the node.
pub record IsLastArc (network : Network) (set : List Bool) (arcs : List Arc)
    (v number place : ℕ) : Type 0 where
  pub arc : Arc
  pub there : slice_get arcs place ≡ Some arc
  pub leads : LeadsFrom network set v arc
  pub below : arc.link < number
  pub last : (k : ℕ) → arc.link < k → k < number → ¬ Meets network set v k

-- This is the place of the arc from a node over the last link of the set below a number that meets
-- it, or none where none does.
abbrev pub IsLastBelow : Network → List Bool → List Arc → ℕ → ℕ → Option ℕ → Type 0
IsLastBelow network set arcs v number place =
    MatchOption place ((l : ℕ) → l < number → ¬ Meets network set v l)
    (IsLastArc network set arcs v number)

-- For each node stands the place of its arc over the last of the first links of the set that meets
-- it, and each arc has the place of the one over the link of the set before it at its node.
pub record AreChains (network : Network) (set : List Bool) (number : ℕ)
    (last : List (Option ℕ)) (arcs : List Arc) : Type 0 where
  pub places : length last ≡ length network.nodes
  pub few : length arcs ≤ 2 * number
  pub lasts : (v : ℕ) → IsLastBelow network set arcs v number (entry last v)
  pub each : (place v : ℕ) (arc : Arc) → slice_get arcs place ≡ Some arc
      → LeadsFrom network set v arc → IsLastBelow network set arcs v arc.link arc.before

-- These are the chains of all links of a set.
abbrev pub AreChainsOver : Network → List Bool → Chains → Type 0
AreChainsOver network set chains =
    AreChains network set (length network.links) chains.last.items chains.arcs.items

-- the arc over a link from its node a, where these are the last arcs so far
abbrev pub arc_from_a : List (Option ℕ) → ℕ → Link → Arc
arc_from_a last number link =
    record { link = number; to = link.b; cost = link.cost; before = entry last link.a }

-- the arc over a link from its node b, where these are the last arcs so far
abbrev pub arc_from_b : List (Option ℕ) → ℕ → Link → Arc
arc_from_b last number link =
    record { link = number; to = link.a; cost = link.cost; before = entry last link.b }
