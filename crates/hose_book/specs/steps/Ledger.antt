-- The ledger, as contracts see it: a network, its book and recent changes; and what a book keeps:
-- steps of proofs.
use Rattle.std.specs.Prelude.{◌≡◌, ℕ, ◌<◌, ◌≤◌, List, [], ◌∷◌, ◌++◌, All, length, slice_index}
use Rattle.hose_graph.specs.declared.entry.Vpn.{Vpn}
use Rattle.hose_graph.specs.Limits.{most_amount, most_tree_links}
use Rattle.hose_graph.specs.Amounts.{ReservedLink, amount_of}
use Rattle.hose_graph.specs.Network.{Network}
use Rattle.hose_law.specs.Walk.{capacity_of}
use Rattle.hose_law.specs.steps.Plan.{AreNodes}
use Rattle.hose_graph.specs.declared.entry.Entry.{Entry}
use Rattle.hose_law.specs.Book.{Book, load_of}
use Rattle.hose_law.specs.History.{next_book, opening_book}
use Rattle.hose_law.specs.steps.Tracks.{Tracks, touched_links}
use Rattle.hose_book.specs.steps.Changes.{opening_recent, with_changes}
use Rattle.hose_tree.specs.steps.Amounts.{AreOnLinks}
use Rattle.hose_book.specs.Ledger.{HasBookOf, Ledger}

-- the ledger of a network that begins at an epoch, with nothing live
abbrev pub opening_ledger : Network → ℕ → Ledger
opening_ledger network epoch = record {
  network = network;
  book = opening_book epoch;
  recent = opening_recent epoch;
}

-- the ledger after an entry
abbrev pub next_ledger : Ledger → Entry → Ledger
next_ledger ledger entry = record {
  network = ledger.network;
  book = next_book ledger.book entry;
  recent = with_changes ledger.recent ledger.book.epoch (touched_links ledger.book entry);
}

-- what tracks a history at one ledger tracks it with the entry at another
abbrev pub TracksOn : Ledger → Entry → Ledger → Type 0
TracksOn old entry new = (epoch : ℕ) (history : List Entry) → HasBookOf epoch history old
    → Tracks epoch history old.recent → Tracks epoch (history ++ entry ∷ []) new.recent

-- there is a load for each link, which is that of the book, and none is above its link's capacity
pub record AreKeptLoads (network : Network) (book : Book) (loads : List ℕ) : Type 0 where
  pub places : length loads ≡ length network.links
  pub each : (l : ℕ) → l < length network.links → slice_index loads l ≡ load_of book l
  pub none_oversold : (l : ℕ) → load_of book l ≤ capacity_of network l

-- what is kept of each live VPN: its endpoints are nodes, and its amounts are on links, few and
-- small enough to be summed up
pub record IsKept (network : Network) (vpn : Vpn) : Type 0 where
  pub nodes : AreNodes network vpn.hose
  pub links : AreOnLinks network vpn.amounts
  pub few : length vpn.amounts ≤ most_tree_links
  pub amounts : All (λ (pair : ReservedLink). amount_of pair ≤ most_amount) vpn.amounts
