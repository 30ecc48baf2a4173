-- Which links the recent entries of a history touched: only their loads may have changed, and
-- whether they are in service: steps of proofs.
use Rattle.std.specs.Prelude.{◌≡◌, ℕ, ◌+◌, ◌<◌, ◌≤◌, List, [], ◌∷◌, ◌++◌, filter, length, map, take, Contains}
use Rattle.std.specs.List.{flat_map}
use Rattle.hose_graph.specs.declared.entry.Entry.{Entry}
use Rattle.hose_graph.specs.declared.entry.Entry.TheVariants.{Admit, Release, Down, Up}
use Rattle.hose_graph.specs.declared.entry.Vpn.{Vpn}
use Rattle.hose_graph.specs.Ascending.{firsts}
use Rattle.hose_law.specs.Book.{Book, load_of}
use Rattle.hose_law.specs.History.{book_of, is_vpn, next_book}
use Rattle.hose_law.specs.Recent.{Change, Recent}
use Rattle.hose_law.specs.Service.{is_out}

-- the links that an entry touches at a book: those of the amounts that it admits or gives up, or
-- the one that it takes out of service or puts back
abbrev pub touched_links : Book → Entry → List ℕ
touched_links book (Admit customer hose amounts) = firsts amounts
touched_links book (Release customer id) =
    flat_map (λ (vpn : Vpn). firsts vpn.amounts) (filter (is_vpn customer id) book.live)
touched_links book (Down link) = link ∷ []
touched_links book (Up link) = link ∷ []

-- links as changes of an epoch
abbrev pub changes_of : ℕ → List ℕ → List Change
changes_of epoch links = map (λ link. (epoch, link)) links

-- the changes of entries, in order, from a book on
abbrev pub changes_from : Book → List Entry → List Change
changes_from book [] = []
changes_from book (entry ∷ entries) =
    changes_of (book.epoch + 1) (touched_links book entry)
    ++ changes_from (next_book book entry) entries

-- The changes are those of the entries of a history that came since a floor, which is an epoch of
-- the history.
pub record Tracks (epoch : ℕ) (history : List Entry) (recent : Recent) : Type 0 where
  pub before : List Entry
  pub since : List Entry
  pub whole : history ≡ before ++ since
  pub floor : recent.floor ≡ epoch + length before
  pub changes : recent.changes ≡ changes_from (book_of epoch before) since

-- a change of a later epoch names the link
abbrev pub IsNamedSince : List Change → ℕ → ℕ → Type 0
IsNamedSince changes seen link = (epoch : ℕ) × (seen < epoch) × Contains changes (epoch, link)

-- from each place whose epoch is at least the floor on, what a link carries stays as it is where no
-- change of a later epoch names the link
abbrev pub LoadsStay : ℕ → List Entry → Recent → Type 0
LoadsStay epoch history recent = (place link : ℕ)
    → place ≤ length history → recent.floor ≤ epoch + place
    → ¬ IsNamedSince recent.changes (epoch + place) link
    → load_of (book_of epoch (take place history)) link ≡ load_of (book_of epoch history) link

-- from each place whose epoch is at least the floor on, whether a link is out of service stays as
-- it is where no change of a later epoch names the link
abbrev pub ServiceStays : ℕ → List Entry → Recent → Type 0
ServiceStays epoch history recent = (place link : ℕ)
    → place ≤ length history → recent.floor ≤ epoch + place
    → ¬ IsNamedSince recent.changes (epoch + place) link
    → is_out (book_of epoch (take place history)).out link ≡ is_out (book_of epoch history).out link
