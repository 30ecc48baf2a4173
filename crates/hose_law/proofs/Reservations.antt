-- Reservations: their pairs begin with the links of the tree, and an amount is the smaller side's.
use Rattle.std.proofs.Common.{◌≡◌, ◌∙◌, ℕ, ◌*◌, ◌<◌, ◌≤◌, List, length, get_or, refl, sym, ap, arith}
use Rattle.std.specs.List.{Contains}
use Rattle.std.proofs.Math.Nat.{min-eq_left}
use Rattle.std.proofs.lemmas.List.{get_or-map, get_or_default, length-map}
use Rattle.hose_graph.specs.Ascending.{firsts}
use Rattle.hose_graph.specs.Hose.{total_rate}
use Rattle.hose_law.specs.Tree.{Growth, IsReservation, links_of, rate_beyond, smaller_side}

-- a pair of a list begins with one of its firsts, and each first begins a pair
pub first_there : (pairs : List (ℕ × ℕ)) (pair : ℕ × ℕ) → Contains pairs pair → Contains (firsts pairs) pair.0
first_there pairs pair (k, below, same) =
    let first : ℕ × ℕ → ℕ = λ p. p.0 in
    (k, omega (arith, below, length-map pairs first), get_or-map first pairs k pair pair.0 below ∙ ap first same)

pub pair_there : (pairs : List (ℕ × ℕ)) (l : ℕ) → Contains (firsts pairs) l → (amount : ℕ) × Contains pairs (l, amount)
pair_there pairs l (k, within, same) =
    let first : ℕ × ℕ → ℕ = λ p. p.0 in
    let below : k < length pairs = omega (arith, within, length-map pairs first) in
    let pair = get_or pairs k (0, 0) in
    let here : pair.0 ≡ l = sym (get_or-map first pairs k (0, 0) l below) ∙ same in
    (pair.1, (k, below, get_or_default pairs k (l, pair.1) (0, 0) below ∙ ap (λ (n : ℕ). (n, pair.1)) here))

-- the smaller side is what lies beyond, where that is half of the total at most
pub smaller_is : (tree : Growth) (hose : List (ℕ × ℕ)) (l : ℕ) → 2 * rate_beyond tree hose l ≤ total_rate hose → smaller_side tree hose l ≡ rate_beyond tree hose l
smaller_is tree hose l half = min-eq_left (omega (arith, half))

module _ (tree : Growth) (hose pairs : List (ℕ × ℕ)) (reserves : IsReservation tree hose pairs) where
  -- the pairs begin with links of the tree, and with each of them
  pub reserved_in_tree : (l : ℕ) → Contains (firsts pairs) l → Contains (links_of tree) l
  reserved_in_tree l there = let found = pair_there pairs l there in ((reserves.each l found.0).0 found.1).0

  pub tree_in_reserved : (l : ℕ) → Contains (links_of tree) l → Contains (firsts pairs) l
  tree_in_reserved l there = first_there pairs (l, smaller_side tree hose l) ((reserves.each l (smaller_side tree hose l)).1 (there, refl))
