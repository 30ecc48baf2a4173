-- What a part of some amounts costs, amount by amount.
use Rattle.std.proofs.Common.{◌≡◌, ℕ, ◌+◌, ◌*◌, ◌<◌, ◌≤◌, List, Some, length, get_or, take, All, ◌∙◌, ap, sym, subst, arith}
use Rattle.std.specs.List.{slice_get}
use Rattle.std.proofs.Math.Nat.{mul-le-mul}
use Rattle.std.proofs.lemmas.List.{take_more}
use Rattle.std.proofs.lemmas.List.Sums.{sum_by_push}
use Rattle.hose_graph.specs.declared.topology.Link.{Link}
use Rattle.hose_graph.specs.declared.limits.TheConstants.{MOST_AMOUNT, MOST_COST}
use Rattle.hose_graph.specs.Network.{Network}
use Rattle.hose_law.specs.Walk.{cost_of}
use Rattle.hose_law.specs.Plan.{plan_cost}
use Rattle.hose_law.proofs.Joined.{cost_of_link}

-- one amount more adds what its link costs, so many times
pub cost_more : (network : Network) (amounts : List (ℕ × ℕ)) (i : ℕ) → i < length amounts → (link : Link) → slice_get network.links (get_or amounts i (0, 0)).0 ≡ Some link
    → plan_cost network (take (i + 1) amounts) ≡ plan_cost network (take i amounts) + link.cost * (get_or amounts i (0, 0)).1
cost_more network amounts i inside link is =
    let pair = get_or amounts i (0, 0) in
    ap (plan_cost network) (take_more amounts i (0, 0) inside) ∙ sum_by_push (λ (p : ℕ × ℕ). cost_of network p.0 * p.1) (take i amounts) pair
    ∙ ap (λ (n : ℕ). plan_cost network (take i amounts) + n * pair.1) (cost_of_link network pair.0 link is)

-- a small amount costs little
pub cost_little : (amounts items : List (ℕ × ℕ)) → items ≡ amounts → All (λ (pair : ℕ × ℕ). pair.1 ≤ MOST_AMOUNT) amounts → (i : ℕ) → i < length items
    → (unit : ℕ) → unit ≤ MOST_COST → unit * (get_or items i (0, 0)).1 ≤ MOST_COST * MOST_AMOUNT
cost_little amounts items same small i inside unit little =
    let each : All (λ (pair : ℕ × ℕ). pair.1 ≤ MOST_AMOUNT) items = subst (All (λ (pair : ℕ × ℕ). pair.1 ≤ MOST_AMOUNT)) (sym same) small in
    omega (arith, mul-le-mul little (each i (0, 0) inside))
