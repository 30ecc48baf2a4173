-- Amounts on the links of a network, and the loads that its links carry.
use Rattle.std.specs.Prelude.{◌≡◌, ℕ, ◌<◌, ◌≤◌, List, length, All, slice_index}
use Rattle.hose_graph.specs.Amounts.{ReservedLink, link_of}
use Rattle.hose_graph.specs.Network.{Network}
use Rattle.hose_law.specs.Walk.{capacity_of}

-- each amount is on a link of the network
abbrev pub AreOnLinks : Network → List ReservedLink → Type 0
AreOnLinks network amounts =
    All (λ (pair : ReservedLink). link_of pair < length network.links) amounts

-- there is a load for each link, and none is above its link's capacity
pub record AreWithinCapacities (network : Network) (loads : List ℕ) : Type 0 where
  pub places : length loads ≡ length network.links
  pub within : (l : ℕ) → l < length network.links → slice_index loads l ≤ capacity_of network l
