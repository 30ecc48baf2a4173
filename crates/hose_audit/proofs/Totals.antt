-- What the loads of some links cost together, link by link.
use Rattle.std.proofs.Common.{◌≡◌, ℕ, ◌+◌, ◌*◌, ◌<◌, ◌≤◌, List, Some, length, get_or, take, ◌∙◌, ap, sym, arith}
use Rattle.std.specs.List.{slice_get, sum_by}
use Rattle.std.proofs.Math.Nat.{mul-le-mul}
use Rattle.hose_graph.specs.Network.{Network, IsLink}
use Rattle.hose_graph.specs.declared.limits.TheConstants.{MOST_CAPACITY, MOST_COST}
use Rattle.hose_graph.specs.declared.topology.Link.{Link}
use Rattle.hose_law.specs.Book.{Book, load_of, loads_of}
use Rattle.hose_law.specs.Walk.{cost_of}
use Rattle.hose_law.proofs.Joined.{capacity_of_link, cost_of_link}
use Rattle.hose_tree.specs.steps.Amounts.{AreWithinCapacities}
use Rattle.hose_audit.specs.Audit.{link_numbers, load_cost}
use Rattle.hose_audit.proofs.Numbers.{load_told, sum_more}

-- a load costs little
pub little_cost : (network : Network) (loads : List ℕ) → AreWithinCapacities network loads → (l : ℕ) → l < length network.links → (link : Link) → slice_get network.links l ≡ Some link → IsLink network link
    → get_or loads l 0 * link.cost ≤ MOST_CAPACITY * MOST_COST
little_cost network loads carried l below link there is_link =
    let load : get_or loads l 0 ≤ MOST_CAPACITY = omega (arith, carried.within l below, capacity_of_link network l link there, is_link.in_range.capacity.1) in
    mul-le-mul load is_link.in_range.cost.1

-- the load of one link more
pub total_more : (network : Network) (book : Book) (loads : List ℕ) → loads ≡ loads_of network book → (l : ℕ) → l < length network.links → (link : Link) → slice_get network.links l ≡ Some link
    → (total : ℕ) → total ≡ sum_by (load_cost network book) (take l (link_numbers network)) → total + get_or loads l 0 * link.cost ≡ sum_by (load_cost network book) (take (l + 1) (link_numbers network))
total_more network book loads told l below link there total same =
    let more = sum_more (load_cost network book) (length network.links) l below in
    let each : get_or loads l 0 * link.cost ≡ load_of book l * cost_of network l =
    ap (λ (n : ℕ). n * link.cost) (load_told network book loads l told below) ∙ ap (λ (n : ℕ). load_of book l * n) (sym (cost_of_link network l link there)) in
    omega (arith, same, more, each)
