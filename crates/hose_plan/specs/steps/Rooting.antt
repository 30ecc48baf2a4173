-- What some endpoints cost from each node, and the root.
use Rattle.std.specs.Prelude.{◌≡◌, ℕ, ◌+◌, ◌*◌, ◌<◌, ◌≤◌, Bool, List, length, All, Option, None, Some, Result, IfNone, IfOk, IfSome, MatchOption}
use Rattle.hose_graph.specs.Limits.{most_amount, most_rate, most_tree_links}
use Rattle.hose_graph.specs.steps.Limits.{most_distance}
use Rattle.hose_graph.specs.Amounts.{ReservedLink, amount_of}
use Rattle.hose_graph.specs.Hose.{Endpoint, IsHose}
use Rattle.hose_graph.specs.Network.{IsNetwork, Network}
use Rattle.hose_graph.specs.Row.{Distances}
use Rattle.hose_law.specs.CanonicalPlan.{IsCanonicalPlan, IsRoot, IsWeight}
use Rattle.hose_paths.specs.steps.Rows.{HasDistances}
use Rattle.hose_root.specs.steps.Choice.{weight_at}
use Rattle.hose_tree.specs.steps.Amounts.{AreOnLinks}

-- each has the distances from its root over a set of links
abbrev pub AreDistancesOver : Network → List Bool → List Distances → Type 0
AreDistancesOver network set rows =
    All (λ (row : Distances). HasDistances network set row.root row) rows

-- each node has the weight of these endpoints, or none where it does not reach them all
pub record AreWeights (network : Network) (set : List Bool) (ends : List Endpoint)
    (weights : List (Option ℕ)) : Type 0 where
  pub places : length weights ≡ length network.nodes
  pub each : (v : ℕ) → v < length network.nodes
      → MatchOption (weight_at weights v) ((weight : ℕ) → ¬ IsWeight network set v ends weight)
      (IsWeight network set v ends)

-- a weight with that of an endpoint more, which has this rate and is at this distance
abbrev pub heavier : Option ℕ → ℕ → Option ℕ → Option ℕ
heavier None rate distance = None
heavier (Some weight) rate None = None
heavier (Some weight) rate (Some distance) = Some (weight + rate * distance)

-- the most that an endpoint weighs: the greatest rate at the greatest distance
abbrev pub most_share : ℕ
most_share = most_rate * most_distance

-- no weight is more than that of this many endpoints
abbrev pub AreLight : ℕ → List (Option ℕ) → Type 0
AreLight ends weights = All (λ weight. IfSome weight (λ w. w ≤ ends * most_share)) weights

-- this is the root of the hose over the set; or no node is
abbrev pub IsBestRoot : Network → List Bool → List Endpoint → Option ℕ → Type 0
IsBestRoot network set hose found =
    MatchOption found ((root weight : ℕ) → ¬ IsRoot network set hose root weight)
    (λ root. (weight : ℕ) × IsRoot network set hose root weight)

-- this is the plan of the hose over the set; or there is none
abbrev pub IsPlanOver : Network → List Bool → List Endpoint → Option (List ReservedLink) → Type 0
IsPlanOver network set hose found =
    MatchOption found ((plan : List ReservedLink) → ¬ IsCanonicalPlan network set hose plan)
    (IsCanonicalPlan network set hose)

-- What is told where the plan of a hose over a set of links was asked for: the plan, on links of
-- the network and within the limits, or that no root has one; or memory was wanting.
pub record MakesPlan {E : Type 0} (top : Network) (set : List Bool) (ends : List Endpoint)
    (result : Result (Option (List ReservedLink)) E) : Type 0 where
  pub plan : IfOk result (IsPlanOver top set ends)
  pub no_root : IfOk result (λ found. IfNone found (IsBestRoot top set ends None))
  pub links : IfOk result (λ found. IfSome found (AreOnLinks top))
  pub few : IfOk result (λ found. IfSome found (λ reserved. length reserved ≤ most_tree_links))
  pub amounts : IfOk result
      (λ found. IfSome found (All (λ pair. amount_of pair ≤ most_amount)))
  pub network : IsNetwork top
  pub hose : IsHose ends
