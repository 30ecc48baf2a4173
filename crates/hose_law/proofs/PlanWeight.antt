-- What a canonical plan costs is the weight of its root.
use Rattle.std.proofs.Common.{◌≡◌, ◌∙◌, ℕ, ◌*◌, ◌≤◌, Bool, List, reverse, sym, ap}
use Rattle.std.specs.List.{Contains, sum_by}
use Rattle.hose_graph.specs.Ascending.{firsts}
use Rattle.hose_graph.specs.Hose.{total_rate}
use Rattle.hose_graph.specs.Network.{Network, IsNetwork}
use Rattle.hose_graph.specs.declared.topology.Step.{Step}
use Rattle.hose_law.specs.CanonicalPlan.{IsRoot, IsCanonicalTree, IsCanonicalPlan}
use Rattle.hose_law.specs.Plan.{plan_cost}
use Rattle.hose_law.specs.Tree.{Growth, IsReservation, links_of, rate_beyond, step_links}
use Rattle.hose_law.specs.Walk.{cost_of}
use Rattle.hose_law.proofs.Apart.{AreApart, apart_links, apart_rising, same_sums, alike_sums, sum_of_map}
use Rattle.hose_law.proofs.CanonicalTrees.{grows, in_tree, in_steps, end_distance, half_at_most}
use Rattle.hose_law.proofs.Counting.{way_cost, counted_twice}
use Rattle.hose_law.proofs.Halves.{weight_is}
use Rattle.hose_law.proofs.Reservations.{smaller_is, reserved_in_tree, tree_in_reserved}

-- A reservation costs what the tree's links, in any order, cost for what lies beyond them, where that is half of the total at most.
reservation_cost : (network : Network) (tree : Growth) (hose plan : List (ℕ × ℕ)) (links : List ℕ) → AreApart links
    → ((l : ℕ) → Contains links l → Contains (links_of tree) l) → ((l : ℕ) → Contains (links_of tree) l → Contains links l)
    → ((l : ℕ) → Contains links l → 2 * rate_beyond tree hose l ≤ total_rate hose) → IsReservation tree hose plan
    → plan_cost network plan ≡ sum_by (λ (l : ℕ). cost_of network l * rate_beyond tree hose l) links
reservation_cost network tree hose plan links apart inside all halves reserves =
    let first : ℕ × ℕ → ℕ = λ p. p.0 in
    let cost : ℕ → ℕ = λ l. cost_of network l * rate_beyond tree hose l in
    let amounts : plan_cost network plan ≡ sum_by (λ (pair : ℕ × ℕ). cost pair.0) plan =
    alike_sums (λ (pair : ℕ × ℕ). cost_of network pair.0 * pair.1) (λ (pair : ℕ × ℕ). cost pair.0) plan
    (λ pair there.
    let reserved = (reserves.each pair.0 pair.1).0 there in
    ap (λ (n : ℕ). cost_of network pair.0 * n) (reserved.1 ∙ smaller_is tree hose pair.0 (halves pair.0 (all pair.0 reserved.0)))) in
    let onto : (l : ℕ) → Contains (firsts plan) l → Contains links l = λ l there. all l (reserved_in_tree tree hose plan reserves l there) in
    let back : (l : ℕ) → Contains links l → Contains (firsts plan) l = λ l there. tree_in_reserved tree hose plan reserves l (inside l there) in
    amounts ∙ sym (sum_of_map cost first plan) ∙ same_sums cost (firsts plan) links (apart_rising (firsts plan) reserves.ascending) apart onto back

-- The cost of the plan of a canonical tree is the weight of its root.
tree_cost : (network : Network) → IsNetwork network → (set : List Bool) (hose plan : List (ℕ × ℕ)) (root weight : ℕ) → IsRoot network set hose root weight
    → (tree : Growth) → IsCanonicalTree network set hose root tree → IsReservation tree hose plan → plan_cost network plan ≡ weight
tree_cost network is set hose plan root weight is_root tree canonical reserves =
    let steps : List Step = reverse tree.steps in
    let grown = grows network is set hose root tree canonical in
    let inside : (l : ℕ) → Contains (step_links steps) l → Contains (links_of tree) l = in_tree network is set hose root tree canonical in
    let halves : (l : ℕ) → Contains (step_links steps) l → 2 * rate_beyond tree hose l ≤ total_rate hose =
    λ l there. half_at_most network is set hose root tree canonical weight is_root l (inside l there) in
    let costs = reservation_cost network tree hose plan (step_links steps) (apart_links network root steps grown) inside
    (in_steps network is set hose root tree canonical) halves reserves in
    costs ∙ counted_twice network root steps hose grown
    ∙ sym (weight_is network set root (way_cost network steps) hose (end_distance network is set hose root tree canonical) weight is_root.is_weight)

-- What a canonical plan costs is the weight of its root.
pub plan_weight : (network : Network) → IsNetwork network → (set : List Bool) (hose plan : List (ℕ × ℕ)) → IsCanonicalPlan network set hose plan
    → (root : ℕ) × (weight : ℕ) × IsRoot network set hose root weight × (plan_cost network plan ≡ weight)
plan_weight network is set hose plan canonical =
    let root = canonical.root in
    let weight = canonical.weight in
    (root, weight, canonical.is_root, tree_cost network is set hose plan root weight canonical.is_root canonical.tree canonical.is_canonical canonical.reserves)
