-- Quotes that were made at a book before: their grounds since then, and that they stay so as entries come.
use Rattle.std.proofs.Common.{◌≡◌, ◌∙◌, ℕ, ◌+◌, ◌<◌, ◌≤◌, Bool, IfSome, true, false, not, List, ◌++◌, Option, length, nat_lt, Contains, refl, sym, ap, subst, inl, inr, arith, cond}
use Rattle.std.proofs.lemmas.List.Elements.{Contains-append_left, Contains-append_right}
use Rattle.hose_graph.specs.Network.{Network}
use Rattle.hose_graph.specs.declared.entry.Entry.{Entry}
use Rattle.hose_law.specs.Book.{Book, loads_of}
use Rattle.hose_law.specs.Room.{first_links}
use Rattle.hose_law.specs.Recent.{Change, Recent}
use Rattle.hose_law.specs.steps.Tracks.{IsNamedSince, changes_of, touched_links}
use Rattle.hose_law.proofs.Entries.{next_epoch, untouched, untouched_out}
use Rattle.hose_law.proofs.Rooms.{loads_of-at}
use Rattle.hose_law.proofs.Serving.{length-links_in_service, links_in_service-at}
use Rattle.hose_law.proofs.Tracked.{is_change}
use Rattle.hose_paths.specs.steps.Kept.{KeptRows}
use Rattle.hose_plan.specs.steps.Planning.{AreMadeSince}
use Rattle.hose_plan.specs.declared.decision.Grounds.{Grounds}
use Rattle.hose_book.specs.Ledger.{Ledger}
use Rattle.hose_book.specs.steps.Ledger.{next_ledger}
use Rattle.hose_book.specs.declared.recent.TheConstants.{MOST_CHANGES}
use Rattle.hose_core.specs.steps.Holding.{AreKept, HasGroundsSince, IsMadeAt, LinkStays, WasMadeBefore}
use Rattle.hose_core.specs.steps.Stepping.{IsSameOrNext}
use Rattle.hose_core.specs.declared.quotes.Quote.{Quote}

-- ---- a link at two books

link_same : (book : Book) (link : ℕ) → LinkStays book book link
link_same book link = record { load = refl; out = refl }

link_on : (one other next : Book) (link : ℕ) → LinkStays one other link → LinkStays other next link → LinkStays one next link
link_on one other next link first second = record { load = first.load ∙ second.load; out = first.out ∙ second.out }

-- a quote that is made at the book of a ledger was made before
pub made_now : (ledger : Ledger) (quote : Quote) → IsMadeAt ledger.network ledger.book quote → WasMadeBefore ledger quote
made_now ledger quote made = record {
  book = ledger.book;
  made = made;
  seen = omega (arith, made.seen);
  fresh = λ same link. link_same ledger.book link;
  since = λ above link none. link_same ledger.book link;
}

-- ---- grounds since a quote

-- where the other links are as at the quote's book, its grounds are those of its hose since then
pub grounds_beside : (ledger : Ledger) (quote : Quote) (earlier : Book) → IsMadeAt ledger.network earlier quote
    → (ledger.recent.floor ≤ quote.seen → (link : ℕ) → (IsNamedSince ledger.recent.changes quote.seen link → ⊥) → LinkStays earlier ledger.book link)
    → HasGroundsSince ledger quote
grounds_beside ledger quote earlier made stays above = record {
  hose = quote.hose;
  served = first_links ledger.network earlier;
  before = loads_of ledger.network earlier;
  places = length-links_in_service ledger.network earlier.out;
  same_service = λ link below none.
      links_in_service-at ledger.network earlier.out link false below ∙ ap not (stays above link none).out ∙ sym (links_in_service-at ledger.network ledger.book.out link false below);
  same = λ link below none. loads_of-at ledger.network earlier link below ∙ (stays above link none).load ∙ sym (loads_of-at ledger.network ledger.book link below);
  are = made.decision.2;
}

pub grounds_since : (ledger : Ledger) (quote : Quote) → WasMadeBefore ledger quote → HasGroundsSince ledger quote
grounds_since ledger quote before = grounds_beside ledger quote before.book before.made before.since

-- they are so by those of the changes that are of later epochs
pub grounds_by_last : (network : Network) (service : List Bool) (loads : List ℕ) (grounds : Grounds) (changes last : List Change) (seen : ℕ)
    → ((epoch link : ℕ) → seen < epoch → Contains changes (epoch, link) → Contains last (epoch, link))
    → AreMadeSince network service loads grounds changes seen → AreMadeSince network service loads grounds last seen
grounds_by_last network service loads grounds changes last seen whole made = record {
  hose = made.hose;
  served = made.served;
  before = made.before;
  places = made.places;
  same_service = λ link below none. made.same_service link below (λ named. none (named.0, named.1, whole named.0 link named.1 named.2));
  same = λ link below none. made.same link below (λ named. none (named.0, named.1, whole named.0 link named.1 named.2));
  are = made.are;
}

-- ---- as entries come

module _ (ledger : Ledger) (entry : Entry) (quote : Quote) (before : WasMadeBefore ledger quote) where
  abbrev book : Book
  book = ledger.book

  abbrev now : ℕ
  now = book.epoch + 1

  abbrev added : List Change
  added = changes_of now (touched_links book entry)

  abbrev recent : Bool → Recent
  recent over = cond over (record { floor = book.epoch; changes = added }) (record { floor = ledger.recent.floor; changes = ledger.recent.changes ++ added })

  -- a link that the entry does not touch is as before
  untouched_since : (link : ℕ) → (Contains added (now, link) → ⊥) → LinkStays book (next_ledger ledger entry).book link
  untouched_since link none =
      let free : Contains (touched_links book entry) link → ⊥ = λ there. none (is_change now (touched_links book entry) link there) in
      record { load = untouched book entry link free; out = untouched_out book entry link free }

  stays : (over : Bool) → (recent over).floor ≤ quote.seen → (link : ℕ) → (IsNamedSince (recent over).changes quote.seen link → ⊥) → LinkStays before.book (next_ledger ledger entry).book link
  stays true above link none =
      link_on before.book book (next_ledger ledger entry).book link (before.fresh (omega (arith, above, before.seen)) link)
      (untouched_since link (λ there. none (now, omega (arith, before.seen), there)))
  stays false above link none =
      link_on before.book book (next_ledger ledger entry).book link
      (before.since above link (λ named. none (named.0, named.1, Contains-append_left ledger.recent.changes added (named.0, link) named.2)))
      (untouched_since link (λ there. none (now, omega (arith, before.seen), Contains-append_right ledger.recent.changes added (now, link) there)))

  before_next : WasMadeBefore (next_ledger ledger entry) quote
  before_next = record {
    book = before.book;
    made = before.made;
    seen = omega (arith, before.seen, next_epoch book entry);
    fresh = λ same link. absurd (omega (arith, same, before.seen, next_epoch book entry));
    since = stays (nat_lt MOST_CHANGES (length ledger.recent.changes + length (touched_links book entry)));
  }

-- a quote that was made before a ledger was made before the one after it
pub before_on : (old new : Ledger) → IsSameOrNext old new → (quote : Quote) → WasMadeBefore old quote → WasMadeBefore new quote
before_on old new (inl same) quote before = subst (λ (l : Ledger). WasMadeBefore l quote) (sym same) before
before_on old new (inr (entry, next)) quote before = subst (λ (l : Ledger). WasMadeBefore l quote) (sym next) (before_next old entry quote before)

pub kept_on : (old new : Ledger) → IsSameOrNext old new → (quotes : List (Option Quote)) → AreKept old quotes → AreKept new quotes
kept_on old new goes quotes kept = record { numbers = kept.numbers; made = λ number quote there. before_on old new goes quote (kept.made number quote there) }

-- rows that are kept of a network are those of the network after an entry, which is the same
pub table_on : (old new : Ledger) → IsSameOrNext old new → (table : Option KeptRows)
    → IfSome table (λ rows. rows.network ≡ old.network) → IfSome table (λ rows. rows.network ≡ new.network)
table_on old new (inl same) table are = subst (λ (l : Ledger). IfSome table (λ rows. rows.network ≡ l.network)) (sym same) are
table_on old new (inr (entry, next)) table are = subst (λ (l : Ledger). IfSome table (λ rows. rows.network ≡ l.network)) (sym next) are
