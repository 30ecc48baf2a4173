-- What an entry does to the loads.
use Rattle.std.proofs.Common.{◌≡◌, ℕ, zero, suc, ◌+◌, ◌≤◌, List, [], ◌∷◌, map, get_or, All, arith}
use Rattle.std.proofs.lemmas.List.Elements.{All-head, All-tail}
use Rattle.std.proofs.lemmas.List.Sums.{sum_by_push}
use Rattle.hose_graph.specs.declared.topology.Link.{Link}
use Rattle.hose_graph.specs.declared.entry.Vpn.{Vpn}
use Rattle.hose_graph.specs.declared.entry.Entry.TheVariants.{Admit}
use Rattle.hose_graph.specs.Network.{Network, IsNetwork, IsLink}
use Rattle.hose_law.specs.Walk.{capacity_of}
use Rattle.hose_law.specs.Book.{Book, amount_on, load_of}
use Rattle.hose_law.specs.History.{next_book}
use Rattle.hose_graph.specs.declared.limits.TheConstants.{MOST_CAPACITY}

-- a link carries at most the greatest capacity
pub capacity_small : (network : Network) (l : ℕ) → IsNetwork network → capacity_of network l ≤ MOST_CAPACITY
capacity_small network l is_network = at network.links l is_network.links
  where
    at : (links : List Link) (k : ℕ) → All (IsLink network) links → get_or (map (λ (m : Link). m.capacity) links) k 0 ≤ MOST_CAPACITY
    at [] k all = omega arith
    at (m ∷ links) zero all = let is_link : IsLink network m = All-head (IsLink network) m links all in is_link.in_range.capacity.1
    at (m ∷ links) (suc k) all = at links k (All-tail (IsLink network) m links all)

-- an admission adds its amounts to the loads
pub load_more : (book : Book) (customer : List ℕ) (hose amounts : List (ℕ × ℕ)) (l : ℕ) → load_of (next_book book (Admit customer hose amounts)) l ≡ load_of book l + amount_on l amounts
load_more book customer hose amounts l =
    let vpn : Vpn = record { id = book.epoch + 1; customer = customer; hose = hose; amounts = amounts } in
    sum_by_push (λ (v : Vpn). amount_on l v.amounts) book.live vpn
