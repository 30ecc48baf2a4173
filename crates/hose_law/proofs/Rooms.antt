-- Rooms: loads and free rates have a place for each link, and the safe links are links of the first plan's set.
use Rattle.std.proofs.Common.{◌≡◌, ◌∙◌, ℕ, ◌-◌, ◌<◌, ◌≤◌, Bool, true, false, List, length, sym, inl, inr, arith}
use Rattle.std.specs.Prelude.{nat_le, slice_index, slice_index_or, ◌&&◌}
use Rattle.std.proofs.lemmas.Bool.{and_parts, leb-true, cases_lt, false≢true}
use Rattle.std.proofs.lemmas.List.{get_or_past}
use Rattle.std.proofs.lemmas.List.FromFn.{fill_by_all, get_or-map-range_with_len, length-map-range_with_len}
use Rattle.hose_graph.specs.Hose.{Endpoint}
use Rattle.hose_graph.specs.Network.{Network}
use Rattle.hose_law.specs.Book.{Book, load_of, loads_of}
use Rattle.hose_law.specs.Room.{Room, free_rates, half_rate, room_of, safe_links}
use Rattle.hose_law.specs.Walk.{IsIn, capacity_of}

module _ (network : Network) where
  pub loads_of-at : (book : Book) (l : ℕ) → l < length network.links → slice_index (loads_of network book) l ≡ load_of book l
  loads_of-at book l below = get_or-map-range_with_len (load_of book) 0 (length network.links) l l 0 below (omega arith)

  -- a list that has the load of each link is the list of the loads
  pub loads_of-from : (book : Book) (loads : List ℕ) → length loads ≡ length network.links
      → ((l : ℕ) → l < length network.links → slice_index loads l ≡ load_of book l) → loads ≡ loads_of network book
  loads_of-from book loads places each = fill_by_all (load_of book) loads (length network.links) 0 places each

  pub length-free_rates : (loads : List ℕ) → length (free_rates network loads) ≡ length network.links
  length-free_rates loads = length-map-range_with_len (λ l. capacity_of network l - slice_index loads l) 0 (length network.links)

  pub free_rates-at : (loads : List ℕ) (l : ℕ) → l < length network.links
      → slice_index (free_rates network loads) l ≡ capacity_of network l - slice_index loads l
  free_rates-at loads l below = get_or-map-range_with_len (λ k. capacity_of network k - slice_index loads k) 0 (length network.links) l l 0 below (omega arith)

  -- what a book leaves free on a link is within its capacity beside the load, whether there is such a link or not
  pub room_of-within : (book : Book) (l : ℕ) → slice_index (room_of network book).free l ≤ capacity_of network l - load_of book l
  room_of-within book l = elim (cases_lt l (length network.links)) [
    | inl below ↦ omega (arith, free_rates-at (loads_of network book) l below, loads_of-at book l below)
    | inr past ↦
        let free = (room_of network book).free in
        omega (arith, get_or_past free l 0 (omega (arith, past, length-free_rates (loads_of network book))))
  ]

module _ (room : Room) (hose : List Endpoint) where
  abbrev is_safe : ℕ → Bool
  is_safe l = slice_index_or room.links l false && nat_le (half_rate hose) (slice_index room.free l)

  -- a safe link is one of the first plan's set that has half of the rates free
  pub safe_link : (l : ℕ) → IsIn (safe_links room hose) l → IsIn room.links l × (half_rate hose ≤ slice_index room.free l)
  safe_link l safe = elim (cases_lt l (length room.links)) [
    | inl below ↦
        let is : is_safe l ≡ true = sym (get_or-map-range_with_len is_safe 0 (length room.links) l l false below (omega arith)) ∙ safe in
        let both = and_parts (slice_index_or room.links l false) (nat_le (half_rate hose) (slice_index room.free l)) is in
        (both.0, leb-true (half_rate hose) (slice_index room.free l) both.1)
    | inr past ↦
        let long = length-map-range_with_len is_safe 0 (length room.links) in
        absurd (false≢true (sym (get_or_past (safe_links room hose) l false (omega (arith, long, past))) ∙ safe))
  ]
