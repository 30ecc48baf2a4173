-- Trees along tight links, while node after node is attached to them.
use Rattle.std.specs.Prelude.{◌⊎◌, ◌↔◌, ℕ, ◌≤◌, Bool, List, All, Contains}
use Rattle.hose_graph.specs.declared.topology.Step.{Step}
use Rattle.hose_graph.specs.Network.{Network}
use Rattle.hose_law.specs.Walk.{IsIn, IsDistance}
use Rattle.hose_law.specs.Row.{IsTightLink}
use Rattle.hose_law.specs.Tree.{Grow, IsOn, step_links, new_nodes}
use Rattle.hose_law.specs.CanonicalPlan.{IsTightWay}

-- Steps, the last one first, grow a tree from the root along tight links, and a truth value for
-- each node says whether a step leads to it.
pub record IsTightTree (network : Network) (set : List Bool) (root : ℕ) (steps : List Step)
    (on : List Bool) : Type 0 where
  pub grows : Grow network root steps
  pub tight : All (λ (step : Step). IsTightLink network set root step.new step.link) steps
  pub marks : (v : ℕ) → IsIn on v ↔ Contains (new_nodes steps) v

-- a link is on the tight way of a node to the root
abbrev pub IsOnTightWay : Network → List Bool → ℕ → ℕ → ℕ → Type 0
IsOnTightWay network set root v l =
    (way : List ℕ) × IsTightWay network set root v way × Contains way l

-- a node is no farther from the root than another
abbrev pub IsNoFarther : Network → List Bool → ℕ → ℕ → ℕ → Type 0
IsNoFarther network set root u v =
    (near far : ℕ) → IsDistance network set root u near → IsDistance network set root v far
    → near ≤ far

-- A node was attached: it is on the tree, as all that was there before, and all that joined the
-- tree is on its way to the root.
pub record IsAttached (network : Network) (set : List Bool) (root v : ℕ) (old new : List Step)
    (on : List Bool) : Type 0 where
  pub is_tree : IsTightTree network set root new on
  pub here : IsOn root new v
  pub keeps : (u : ℕ) → IsOn root old u → IsOn root new u
  pub nodes : (u : ℕ) → Contains (new_nodes new) u
      → Contains (new_nodes old) u ⊎ IsNoFarther network set root u v
  pub keeps_links : (l : ℕ) → Contains (step_links old) l → Contains (step_links new) l
  pub links : (l : ℕ) → Contains (step_links new) l
      → Contains (step_links old) l ⊎ IsOnTightWay network set root v l
