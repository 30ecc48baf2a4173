-- The room that a book leaves: all of the book that a decision on a hose rests on.
use Rattle.std.specs.Prelude.{ℕ, ◌-◌, ◌/◌, ◌&&◌, Bool, false, List, map, length, nat_le, slice_index, slice_index_or}
use Rattle.std.specs.List.{range_with_len}
use Rattle.hose_graph.specs.Hose.{Endpoint, total_rate}
use Rattle.hose_graph.specs.Network.{Network}
use Rattle.hose_law.specs.Book.{Book, loads_of}
use Rattle.hose_law.specs.Service.{links_in_service}
use Rattle.hose_law.specs.Walk.{capacity_of}

-- the set of links over which the first plan is made, and what each link has free
pub record Room : Type 0 where
  pub links : List Bool
  pub free : List ℕ

-- the links over which a book lets the first plan be made, and of which any tree may be: those in
-- service
abbrev pub first_links : Network → Book → List Bool
first_links network book = links_in_service network book.out

-- what each link has free beside its load: the rest of its capacity
abbrev pub free_rates : Network → List ℕ → List ℕ
free_rates network loads =
    map (λ l. capacity_of network l - slice_index loads l) (range_with_len 0 (length network.links))

-- the room that a book leaves
abbrev pub room_of : Network → Book → Room
room_of network book = record {
  links = first_links network book;
  free = free_rates network (loads_of network book);
}

-- half of a hose's rates, rounded down, which no amount of a plan exceeds
abbrev pub half_rate : List Endpoint → ℕ
half_rate hose = total_rate hose / 2

-- the links that are safe for a hose: those of the first plan's set with half of its rates free
abbrev pub safe_links : Room → List Endpoint → List Bool
safe_links room hose =
    map
    (λ l. slice_index_or room.links l false && nat_le (half_rate hose) (slice_index room.free l))
    (range_with_len 0 (length room.links))
