-- The grounds of a quote over the links in service and beside the loads of now, where the ledger has all changes since.
use Rattle.std.proofs.Common.{◌≡◌, ◌∙◌, ℕ, ◌+◌, List, take, sym, ap, arith}
use Rattle.std.proofs.lemmas.List.{length-take-le}
use Rattle.hose_graph.specs.declared.entry.Entry.{Entry}
use Rattle.hose_law.specs.Book.{Book, load_of}
use Rattle.hose_law.specs.History.{book_of}
use Rattle.hose_law.specs.Quotes.{HeldQuote}
use Rattle.hose_law.specs.Service.{is_out}
use Rattle.hose_law.specs.steps.Tracks.{IsNamedSince, Tracks}
use Rattle.hose_law.proofs.Tracked.{loads_stay, service_stays}
use Rattle.hose_book.specs.Ledger.{HasBookOf, Ledger}
use Rattle.hose_core.specs.steps.Holding.{HasGroundsSince, IsQuoteOf}
use Rattle.hose_core.specs.declared.quotes.Quote.{Quote}
use Rattle.hose_core.proofs.Earlier.{grounds_beside}
use Rattle.hose_law.proofs.Epochs.{epoch_of}

-- a quote of a history, at the ledger of the history
pub grounds_since : (ledger : Ledger) (history : List Entry) (one : HeldQuote) (quote : Quote) → HasBookOf 0 history ledger → Tracks 0 history ledger.recent
    → IsQuoteOf ledger.network 0 history one quote → HasGroundsSince ledger quote
grounds_since ledger history one quote is tracks of =
    let place : quote.seen ≡ one.place = of.made.seen ∙ epoch_of (take one.place history) ∙ length-take-le one.place history of.there in
    let free_since : (l : ℕ) → (IsNamedSince ledger.recent.changes quote.seen l → ⊥) → IsNamedSince ledger.recent.changes (0 + one.place) l → ⊥ = λ l none named. none (named.0, omega (arith, named.1, place), named.2) in
    grounds_beside ledger quote (book_of 0 (take one.place history)) of.made (λ above l none. record {
      load = loads_stay 0 history ledger.recent tracks one.place l of.there (omega (arith, above, place)) (free_since l none) ∙ ap (λ (b : Book). load_of b l) (sym is);
      out = service_stays 0 history ledger.recent tracks one.place l of.there (omega (arith, above, place)) (free_since l none) ∙ ap (λ (b : Book). is_out b.out l) (sym is);
    })
