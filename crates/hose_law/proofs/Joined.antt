-- The link of a network that joins two nodes.
use Rattle.std.proofs.Common.{◌≡◌, ◌≢◌, ◌⊎◌, ◌∙◌, ℕ, ◌<◌, ◌≤◌, Option, None, Some, length, refl, sym, ap, subst, inl, inr, arith}
use Rattle.std.specs.Option.{IsSomeAnd}
use Rattle.std.specs.List.{slice_get}
use Rattle.std.proofs.lemmas.List.{get_or-map}
use Rattle.std.proofs.lemmas.Option.{slice_get_within, get_or_from_slice_get}
use Rattle.hose_graph.specs.declared.topology.Link.{Link}
use Rattle.hose_graph.specs.declared.limits.TheConstants.{MOST_COST}
use Rattle.hose_graph.specs.Network.{Network, IsNetwork, IsLink}
use Rattle.hose_law.specs.Walk.{capacity_of, cost_of, Joins}

-- what is known of a link that joins two nodes
pub record IsJoined (network : Network) (l u v : ℕ) : Type 0 where
  pub link : Link
  pub there : slice_get network.links l ≡ Some link
  pub is_link : IsLink network link
  pub ends : ((link.a ≡ u) × (link.b ≡ v)) ⊎ ((link.a ≡ v) × (link.b ≡ u))

joined_at : (network : Network) → IsNetwork network → (l u v : ℕ) (found : Option Link) → slice_get network.links l ≡ found
    → IsSomeAnd found (λ (k : Link). ((k.a ≡ u) × (k.b ≡ v)) ⊎ ((k.a ≡ v) × (k.b ≡ u)))
    → IsJoined network l u v
joined_at network is l u v None there joins = absurd joins
joined_at network is l u v (Some k) there joins =
    record {
      link = k;
      there = there;
      is_link = subst (IsLink network) (get_or_from_slice_get network.links l k k there) (is.links l k (slice_get_within network.links l k there));
      ends = joins;
    }

pub joined : (network : Network) → IsNetwork network → (l u v : ℕ) → Joins network l u v → IsJoined network l u v
joined network is l u v joins = joined_at network is l u v (slice_get network.links l) refl joins

-- the link that is there joins its two nodes, and no others
pub joins_ends : (network : Network) (l : ℕ) (k : Link) → slice_get network.links l ≡ Some k → Joins network l k.a k.b
joins_ends network l k there =
    let P : Option Link → Type 0 = λ o. IsSomeAnd o (λ (link : Link). ((link.a ≡ k.a) × (link.b ≡ k.b)) ⊎ ((link.a ≡ k.b) × (link.b ≡ k.a))) in
    subst P (sym there) (inl (refl, refl))

pub joins_its_ends : (network : Network) (l u v : ℕ) (k : Link) → slice_get network.links l ≡ Some k → Joins network l u v
    → ((k.a ≡ u) × (k.b ≡ v)) ⊎ ((k.a ≡ v) × (k.b ≡ u))
joins_its_ends network l u v k there joins =
    let P : Option Link → Type 0 = λ o. IsSomeAnd o (λ (link : Link). ((link.a ≡ u) × (link.b ≡ v)) ⊎ ((link.a ≡ v) × (link.b ≡ u))) in
    subst P there joins

-- what a link costs that is there
pub cost_of_link : (network : Network) (l : ℕ) (k : Link) → slice_get network.links l ≡ Some k → cost_of network l ≡ k.cost
cost_of_link network l k there =
    get_or-map (λ (link : Link). link.cost) network.links l k 0 (slice_get_within network.links l k there)
    ∙ ap (λ (link : Link). link.cost) (get_or_from_slice_get network.links l k k there)

-- what a link can carry that is there
pub capacity_of_link : (network : Network) (l : ℕ) (k : Link) → slice_get network.links l ≡ Some k → capacity_of network l ≡ k.capacity
capacity_of_link network l k there =
    get_or-map (λ (link : Link). link.capacity) network.links l k 0 (slice_get_within network.links l k there)
    ∙ ap (λ (link : Link). link.capacity) (get_or_from_slice_get network.links l k k there)

-- a link joins two nodes of the network, which are not the same
pub joins_nodes : (network : Network) → IsNetwork network → (l u v : ℕ) → Joins network l u v
    → (u < length network.nodes) × (v < length network.nodes) × (u ≢ v)
joins_nodes network is l u v joins =
    let by = joined network is l u v joins in
    let a = by.is_link.in_range.a in
    let b = by.is_link.in_range.b in
    elim by.ends [
      | inl same ↦ (omega arith, omega arith, λ loop. by.is_link.no_loop (same.0 ∙ loop ∙ sym same.1))
      | inr turned ↦ (omega arith, omega arith, λ loop. by.is_link.no_loop (turned.0 ∙ sym loop ∙ sym turned.1))
    ]

-- a link that joins two nodes costs at least 1, and no more than the greatest cost
pub joins_costs : (network : Network) → IsNetwork network → (l u v : ℕ) → Joins network l u v
    → (1 ≤ cost_of network l) × (cost_of network l ≤ MOST_COST)
joins_costs network is l u v joins =
    let by = joined network is l u v joins in
    rw (cost_of_link network l by.link by.there) by.is_link.in_range.cost
