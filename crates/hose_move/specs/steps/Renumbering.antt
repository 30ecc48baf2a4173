-- The book that what is live leads to: the old one, with other numbers.
use Rattle.std.specs.Prelude.{◌≡◌, ℕ, ◌+◌, List, [], ◌∷◌, length}
use Rattle.hose_graph.specs.Network.{Network}
use Rattle.hose_graph.specs.declared.entry.Vpn.{Vpn}
use Rattle.hose_law.specs.Book.{Book, load_of}
use Rattle.hose_law.specs.History.{book_of}
use Rattle.hose_move.specs.Stating.{links_out, live_entries}

-- the VPNs with the numbers from this one on, in order
abbrev pub renumbered : ℕ → List Vpn → List Vpn
renumbered number [] = []
renumbered number (vpn ∷ live) = record vpn { id = number } ∷ renumbered (number + 1) live

-- the book that what is live at a book leads to
abbrev pub live_book : Network → Book → Book
live_book network book = book_of 0 (live_entries network book)

-- It has the same VPNs in order, numbered from 1 on, with their customers, hoses and amounts; each
-- link carries what it did, and the same links of the network are out of service.
pub record IsRenumbered (network : Network) (book : Book) : Type 0 where
  pub live : (live_book network book).live ≡ renumbered 1 book.live
  pub loads : (link : ℕ) → load_of (live_book network book) link ≡ load_of book link
  pub out : (live_book network book).out ≡ links_out (length network.links) book
