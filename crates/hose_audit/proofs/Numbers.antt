-- The numbers of links: the text and the sum of one link more, and what is reserved on one.
use Rattle.std.proofs.Common.{◌≡◌, ℕ, ◌+◌, ◌<◌, ◌≤◌, List, length, get_or, take, ◌∙◌, ap, arith}
use Rattle.std.specs.List.{range_with_len, sum_by}
use Rattle.std.proofs.lemmas.List.{take_all, take_more}
use Rattle.std.proofs.lemmas.List.FromFn.{get_or-map-range_with_len, get_or-range_with_len, length-range_with_len}
use Rattle.std.proofs.lemmas.List.Sums.{sum_by_push}
use Rattle.hose_graph.specs.Network.{Network}
use Rattle.hose_law.specs.Book.{Book, load_of, loads_of}

-- a number is at its own place
pub number_at : (n i : ℕ) → i < n → get_or (range_with_len 0 n) i 0 ≡ i
number_at n i below = omega (arith, get_or-range_with_len 0 n i 0 below)

-- a place of a link is one of its number
pub number_inside : (n i : ℕ) → i < n → i < length (range_with_len 0 n)
number_inside n i below = omega (arith, below, length-range_with_len 0 n)

-- all numbers were taken
pub numbers_taken : (n i : ℕ) → n ≤ i → take i (range_with_len 0 n) ≡ range_with_len 0 n
numbers_taken n i past = take_all i (range_with_len 0 n) (omega (arith, past, length-range_with_len 0 n))

-- the sum of one number more
pub sum_more : (f : ℕ → ℕ) (n i : ℕ) → i < n → sum_by f (take (i + 1) (range_with_len 0 n)) ≡ sum_by f (take i (range_with_len 0 n)) + f i
sum_more f n i below =
    let all = range_with_len 0 n in
    ap (sum_by f) (take_more all i 0 (number_inside n i below)) ∙ sum_by_push f (take i all) (get_or all i 0)
    ∙ ap (λ (k : ℕ). sum_by f (take i all) + f k) (number_at n i below)

-- what loads tell of a link
pub load_told : (network : Network) (book : Book) (loads : List ℕ) (l : ℕ) → loads ≡ loads_of network book → l < length network.links → get_or loads l 0 ≡ load_of book l
load_told network book loads l told below =
    ap (λ (all : List ℕ). get_or all l 0) told ∙ get_or-map-range_with_len (load_of book) 0 (length network.links) l l 0 below (omega arith)
