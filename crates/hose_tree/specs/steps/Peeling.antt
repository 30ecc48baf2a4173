-- Judging amounts by taking one leaf after another off their links: what is left of the pairs, and
-- where the rates are.
use Rattle.std.specs.Prelude.{◌≡◌, ◌↔◌, ◌≢◌, ℕ, ◌+◌, ◌-◌, ◌*◌, ◌^◌, ◌<◌, ◌≤◌, ◌==◌, min, Option, None, Some, List, length, All, Contains, sum_by, slice_get, slice_index, if◌then◌else◌}
use Rattle.std.specs.List.{IsDistinct}
use Rattle.hose_graph.specs.Amounts.{ReservedLink, link_of, amount_of}
use Rattle.hose_graph.specs.Ascending.{firsts}
use Rattle.hose_graph.specs.Hose.{Endpoint, node_of, rate_of, total_rate}
use Rattle.hose_graph.specs.Network.{Network, IsNetwork}
use Rattle.hose_graph.specs.Limits.{most_nodes}
use Rattle.hose_graph.specs.declared.topology.Link.{Link}
use Rattle.hose_graph.specs.declared.topology.Step.{Step}
use Rattle.hose_law.specs.Tree.{Grow, IsOn, step_links, links_up, goes_along}
use Rattle.hose_tree.specs.steps.Rates.{AreRatesOf}
use Rattle.hose_tree.specs.declared.judge.Forest.{Forest}

-- a number for each end of a link that is at a node
abbrev pub at_ends : Option Link → ℕ → ℕ → ℕ
at_ends None v number = 0
at_ends (Some link) v number =
    (if link.a == v then number else 0) + (if link.b == v then number else 0)

-- the sum of a number of each pair whose link ends at a node
abbrev pub sum_at : Network → (ReservedLink → ℕ) → List ReservedLink → ℕ → ℕ
sum_at network number pairs v =
    sum_by
    (λ (pair : ReservedLink). at_ends (slice_get network.links (link_of pair)) v (number pair))
    pairs

-- these are the sums at each node
abbrev pub AreSumsOf : Network → (ReservedLink → ℕ) → List ReservedLink → List ℕ → Type 0
AreSumsOf network number pairs sums =
    (v : ℕ) → slice_index sums v ≡ sum_at network number pairs v

-- A pair could be of what a hose of this total reserves in a network of so many links.
pub record IsPossible (links total : ℕ) (pair : ReservedLink) : Type 0 where
  pub link : link_of pair < links
  pub some : 1 ≤ amount_of pair
  pub within : amount_of pair ≤ total

-- the smaller side's rate sum of a link, on the tree that steps grow, the last one first
abbrev pub smaller_up : List Step → List Endpoint → ℕ → ℕ
smaller_up steps ends l =
    let beyond = sum_by
    (λ (end : Endpoint). if goes_along (links_up steps (node_of end)) l then rate_of end else 0)
    ends in min beyond (total_rate ends - beyond)

-- The pairs are what ends reserve on some tree that joins them.
pub record IsTreeOf (network : Network) (ends : List Endpoint)
    (pairs : List ReservedLink) : Type 0 where
  pub start : ℕ
  pub steps : List Step
  pub grows : Grow network start steps
  pub links : (l : ℕ) → Contains (step_links steps) l ↔ Contains (firsts pairs) l
  pub joins : All (λ (end : Endpoint). IsOn start steps (node_of end)) ends
  pub amounts : All (λ (pair : ReservedLink). amount_of pair ≡ smaller_up steps ends (link_of pair))
      pairs

-- what was asked: whether these pairs are what these ends reserve
pub record Question : Type 0 where
  pub ends : List Endpoint
  pub pairs : List ReservedLink

-- The answer is yes.
abbrev pub IsYes : Network → Question → Type 0
IsYes network question = IsTreeOf network question.ends question.pairs

-- What a forest has of ends and pairs: the pairs' sums at each node, the ends' rates, and how many
-- pairs there are.
pub record IsForestOf (network : Network) (ends : List Endpoint) (pairs : List ReservedLink)
    (forest : Forest) : Type 0 where
  pub degrees : AreSumsOf network (λ pair. 1) pairs forest.degrees
  pub links : AreSumsOf network link_of pairs forest.links
  pub amounts : AreSumsOf network amount_of pairs forest.amounts
  pub rates : AreRatesOf ends forest.rates
  pub left : forest.left ≡ length pairs

-- A forest is of ends and pairs for which the answer is the same as for those of the question.
pub record StandsForQuestion (top : Network) (total : ℕ) (question : Question)
    (forest : Forest) : Type 0 where
  pub ends : List Endpoint
  pub pairs : List ReservedLink
  pub is_forest : IsForestOf top ends pairs forest
  pub network : IsNetwork top
  pub distinct : IsDistinct ◌==◌ (firsts pairs)
  pub possible : All (IsPossible (length top.links) total) pairs
  pub rates : All (λ end. 1 ≤ rate_of end) ends
  pub sum : total_rate ends ≡ total
  pub same : IsTreeOf top ends pairs ↔ IsYes top question

-- a forest stands for some question
abbrev pub StandsForSome : Network → ℕ → Forest → Type 0
StandsForSome top total forest = (question : Question) × StandsForQuestion top total question forest

-- for whatever question one forest stands, another stands too
abbrev pub KeepsQuestions : Network → ℕ → Forest → Forest → Type 0
KeepsQuestions top total before after =
    (question : Question) → StandsForQuestion top total question before
    → StandsForQuestion top total question after

-- the answer is no, for whatever question a forest stands
abbrev pub IsNo : Network → ℕ → Forest → Type 0
IsNo top total forest =
    (question : Question) → StandsForQuestion top total question forest → ¬ IsYes top question

-- a number was added at both ends of a link
abbrev pub IsAddedAt : Link → ℕ → List ℕ → List ℕ → Type 0
IsAddedAt link number before after =
    (v : ℕ) → slice_index after v ≡ slice_index before v + at_ends (Some link) v number

-- A link of this number and amount was added to a forest.
pub record IsLinked (link : Link) (number amount : ℕ) (before after : Forest) : Type 0 where
  pub degrees : IsAddedAt link 1 before.degrees after.degrees
  pub links : IsAddedAt link number before.links after.links
  pub amounts : IsAddedAt link amount before.amounts after.amounts
  pub rates : after.rates ≡ before.rates
  pub left : after.left ≡ before.left + 1

-- both nodes of a link have a place
pub record HasNodePlaces (link : Link) : Type 0 where
  pub a : link.a < most_nodes
  pub b : link.b < most_nodes

-- a number can be added at both
abbrev pub HasRoom : ℕ → List ℕ → Type 0
HasRoom number sums = (v : ℕ) → slice_index sums v + 2 * number < 2 ^ 64

-- a small number can
abbrev pub HasSmallRoom : ℕ → List ℕ → Type 0
HasSmallRoom number sums = (v : ℕ) → slice_index sums v + 2 * number < 2 ^ 32

-- it is part of the sums there
abbrev pub IsInSums : Link → ℕ → List ℕ → Type 0
IsInSums link number sums = (v : ℕ) → at_ends (Some link) v number ≤ slice_index sums v

-- no node below a number has just one link left
abbrev pub HasNoLeafBelow : ℕ → Forest → Type 0
HasNoLeafBelow n forest = (v : ℕ) → v < n → slice_index forest.degrees v ≢ 1

-- a leaf was taken off: no node but the other one of its link has become a leaf
abbrev pub AreLeavesStill : ℕ → ℕ → Forest → Forest → Type 0
AreLeavesStill leaf other before after =
    (v : ℕ) → v ≢ other → slice_index after.degrees v ≡ 1
    → (v ≢ leaf) × (slice_index before.degrees v ≡ 1)
