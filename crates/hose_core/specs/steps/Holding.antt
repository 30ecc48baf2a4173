-- What a core holds: its books, and the quotes of its customers, which fit a history.
use Rattle.std.specs.Prelude.{◌≡◌, ℕ, ◌≤◌, List, Option, Some, length, take, MatchOption, IsNone, unwrap_or, if◌then◌else◌}
use Rattle.std.specs.BTreeMap.{is_at}
use Rattle.std.specs.Cmp.Lexicographic.{slice_cmp}
use Rattle.std.specs.Map.{lookup}
use Rattle.std.specs.Ordering.{nat_cmp}
use Rattle.std.specs.Str.{bytes_eq}
use Rattle.hose_graph.specs.declared.entry.Entry.{Entry}
use Rattle.hose_graph.specs.Limits.{most_quotes}
use Rattle.hose_graph.specs.Hose.{IsHose}
use Rattle.hose_graph.specs.Network.{Network}
use Rattle.hose_graph.specs.Ranges.{AreInRanges}
use Rattle.hose_law.specs.Book.{Book, load_of, loads_of}
use Rattle.hose_law.specs.History.{book_of}
use Rattle.hose_law.specs.Quotes.{Holding, HeldQuote, at_number, none_held}
use Rattle.hose_law.specs.Room.{first_links, room_of}
use Rattle.hose_law.specs.Service.{is_out}
use Rattle.hose_law.specs.steps.Tracks.{IsNamedSince}
use Rattle.hose_book.specs.Ledger.{Ledger}
use Rattle.hose_plan.specs.steps.Planning.{AreMadeSince, IsDecision}
use Rattle.hose_plan.specs.declared.decision.Decision.TheVariants.{Plan}
use Rattle.hose_core.specs.declared.quotes.Quote.{Quote}

-- ---- quotes

-- the quote is the decision on its hose at a book
pub record IsMadeAt (network : Network) (book : Book) (quote : Quote) : Type 0 where
  pub is_hose : IsHose quote.hose
  pub ranges : AreInRanges quote.amounts
  pub seen : quote.seen ≡ book.epoch
  pub decision : IsDecision network (room_of network book) quote.hose
      (Plan quote.grounds quote.amounts quote.cost)

-- the quote is the decision on its hose at some book
abbrev pub IsMade : Network → Quote → Type 0
IsMade network quote = (book : Book) × IsMadeAt network book quote

-- where a ledger has all changes since the quote, the quote's grounds are those of a hose beside
-- loads and links in service that are as they were, but for the links that such a change names
abbrev pub HasGroundsSince : Ledger → Quote → Type 0
HasGroundsSince ledger quote = ledger.recent.floor ≤ quote.seen
    → AreMadeSince ledger.network (first_links ledger.network ledger.book)
    (loads_of ledger.network ledger.book) quote.grounds ledger.recent.changes quote.seen

-- a link carries at one book what it does at the other, and is out of service at both or at neither
pub record LinkStays (one other : Book) (link : ℕ) : Type 0 where
  pub load : load_of one link ≡ load_of other link
  pub out : is_out one.out link ≡ is_out other.out link

-- The quote was made at a book that a ledger came from. Where no entry came since, each link is as
-- it was; and where the ledger has all changes since, so is each that none of them names.
pub record WasMadeBefore (ledger : Ledger) (quote : Quote) : Type 0 where
  pub book : Book
  pub made : IsMadeAt ledger.network book quote
  pub seen : quote.seen ≤ ledger.book.epoch
  pub fresh : quote.seen ≡ ledger.book.epoch
      → (link : ℕ) → LinkStays book ledger.book link
  pub since : ledger.recent.floor ≤ quote.seen → (link : ℕ)
      → ¬ IsNamedSince ledger.recent.changes quote.seen link
      → LinkStays book ledger.book link

-- there are as many numbers as quotes can have, and what is held under them was made before
pub record AreKept (ledger : Ledger) (quotes : List (Option Quote)) : Type 0 where
  pub numbers : length quotes ≡ most_quotes
  pub made : (number : ℕ) (quote : Quote) → at_number quotes number ≡ Some quote
      → WasMadeBefore ledger quote

-- the quote is the one that is held: of its hose, and made at its place of a history
pub record IsQuoteOf (network : Network) (epoch : ℕ) (history : List Entry) (held : HeldQuote)
    (quote : Quote) : Type 0 where
  pub there : held.place ≤ length history
  pub hose : held.hose ≡ quote.hose
  pub made : IsMadeAt network (book_of epoch (take held.place history)) quote

-- nothing stands at a number for what is not held, and for what is held that quote
abbrev pub FitsQuote : Network → ℕ → List Entry → Option HeldQuote → Option Quote → Type 0
FitsQuote network epoch history held quote = MatchOption held (IsNone quote)
    (λ one. (other : Quote) × (quote ≡ Some other) × IsQuoteOf network epoch history one other)

-- the quotes are those that a customer holds at a history
pub record AreHeld (network : Network) (epoch : ℕ) (history : List Entry) (held : Holding)
    (quotes : List (Option Quote)) : Type 0 where
  pub numbers : length held ≡ length quotes
  pub each : (number : ℕ)
      → FitsQuote network epoch history (at_number held number) (at_number quotes number)

-- ---- customers

-- the quotes of each customer who has been quoted, by name
abbrev pub AllQuotes : Type 0
AllQuotes = List (List ℕ × List (Option Quote))

-- the quotes of a customer
abbrev pub quotes_in : AllQuotes → List ℕ → List (Option Quote)
quotes_in all customer =
    unwrap_or (lookup (is_at (slice_cmp nat_cmp customer)) all) none_held

-- what each customer holds was made before
abbrev pub AreAllKept : Ledger → AllQuotes → Type 0
AreAllKept ledger all = (customer : List ℕ) → AreKept ledger (quotes_in all customer)

-- a customer's quotes are these now, and those of the others are as before
abbrev pub HoldsNow : AllQuotes → List ℕ → List (Option Quote) → AllQuotes → Type 0
HoldsNow old customer quotes new = (name : List ℕ)
    → quotes_in new name ≡ (if bytes_eq customer name then quotes else quotes_in old name)

-- ---- cores

-- a core as contracts see it: its books, and the quotes of its customers
pub record State (K : Type 0) : Type 0 where
  pub books : K
  pub quotes : AllQuotes

-- the quotes of a customer
abbrev pub quotes_of : {K : Type 0} → State K → List ℕ → List (Option Quote)
quotes_of state customer = quotes_in state.quotes customer
