-- Quotes that are held at a history: at a longer one, and with one more or one less.
use Rattle.std.proofs.Common.{◌≡◌, ◌≢◌, ◌⊎◌, ◌∙◌, ◌≤◌, ℕ, List, [], ◌∷◌, Bool, true, false, Option, None, Some, IfSome, is_none, length, take, inl, inr, refl, sym, ap, subst, arith}
use Rattle.std.specs.Prelude.{if◌then◌else◌}
use Rattle.std.specs.Str.{bytes_eq}
use Rattle.std.proofs.lemmas.Bool.{cases_eq}
use mathlib.Core.List.{IsPrefix}
use Rattle.std.proofs.lemmas.List.{length-append, take-append-le}
use Rattle.hose_graph.specs.Network.{Network}
use Rattle.hose_graph.specs.declared.entry.Entry.{Entry}
use Rattle.hose_graph.specs.declared.command.Reply.{Reply}
use Rattle.hose_graph.specs.declared.command.Reply.TheVariants.{Memory, Quoted as QuotedReply}
use Rattle.hose_graph.specs.declared.limits.TheConstants.{MOST_QUOTES}
use Rattle.hose_law.specs.Answer.{with_entry}
use Rattle.hose_law.specs.History.{book_of}
use Rattle.hose_law.specs.Quotes.{Holding, HeldQuote, Holdings, at_number, free_number, none_held, with_held, with_number}
use Rattle.hose_law.proofs.Numbers.{at_none_held, at_with_other, at_with_same, length_with, same_free, some_at}
use Rattle.hose_book.specs.Ledger.{Ledger}
use Rattle.hose_core.specs.steps.Holding.{AreHeld, AreKept, FitsQuote, HoldsNow, IsMadeAt, IsQuoteOf, AllQuotes, WasMadeBefore, quotes_in}
use Rattle.hose_core.specs.steps.Planning.{HasTold}
use Rattle.hose_core.specs.declared.quotes.Quote.{Quote}

-- ---- a longer history

-- the one history begins the other
abbrev pub IsFront : List Entry → List Entry → Type 0
IsFront history next = (place : ℕ) → place ≤ length history → (place ≤ length next) × (take place next ≡ take place history)

pub front_same : (history next : List Entry) → next ≡ history → IsFront history next
front_same history next same = subst (IsFront history) (sym same) (λ place there. (there, refl))

pub front_with : (history next : List Entry) (entry : Option Entry) → next ≡ with_entry history entry → IsFront history next
front_with history next None same = front_same history next same
front_with history next (Some entry) same =
    subst (IsFront history) (sym same) (λ place there. (omega (arith, there, length-append history (entry ∷ [])), take-append-le place history (entry ∷ []) there))

pub front_prefix : (history next : List Entry) → IsPrefix history next → IsFront history next
front_prefix history next (rest, same) = subst (IsFront history) same (λ place there. (omega (arith, there, length-append history rest), take-append-le place history rest there))

module _ (network : Network) (epoch : ℕ) (history next : List Entry) (front : IsFront history next) where
  fits_longer : (held : Option HeldQuote) (quote : Option Quote) → FitsQuote network epoch history held quote → FitsQuote network epoch next held quote
  fits_longer None quote fits = fits
  fits_longer (Some one) quote (other, is, of) =
      let goes = front one.place of.there in
      (other, is, record { there = goes.0; hose = of.hose; made = subst (λ (h : List Entry). IsMadeAt network (book_of epoch h) other) (sym goes.1) of.made })

  pub held_longer : (held : Holding) (quotes : List (Option Quote)) → AreHeld network epoch history held quotes → AreHeld network epoch next held quotes
  held_longer held quotes are = record { numbers = are.numbers; each = λ number. fits_longer (at_number held number) (at_number quotes number) (are.each number) }

pub held_on : {network : Network} {epoch : ℕ} {history next : List Entry} {held : Holding} {quotes : List (Option Quote)} → IsPrefix history next → AreHeld network epoch history held quotes → AreHeld network epoch next held quotes
held_on {network} {epoch} {history} {next} {held} {quotes} prefix are = held_longer network epoch history next (front_prefix history next prefix) held quotes are

-- ---- one more or one less

module _ (network : Network) (epoch : ℕ) (history : List Entry) (held : Holding) (quotes : List (Option Quote)) (are : AreHeld network epoch history held quotes) where
  -- a number has nothing in both or something in both
  same_none : (one : Option HeldQuote) (other : Option Quote) → FitsQuote network epoch history one other → is_none one ≡ is_none other
  same_none None None fits = refl
  same_none None (Some other) fits = absurd (cc fits)
  same_none (Some one) None (other, is, of) = absurd (cc is)
  same_none (Some one) (Some other) fits = refl

  -- the lowest free number is the same
  pub free_alike : free_number held ≡ free_number quotes
  free_alike = same_free held quotes are.numbers (λ number. same_none (at_number held number) (at_number quotes number) (are.each number))

  -- nothing is held where nothing is quoted
  nothing_from : (one : Option HeldQuote) (other : Option Quote) → FitsQuote network epoch history one other → other ≡ None → one ≡ None
  nothing_from None other fits none = refl
  nothing_from (Some one) other (quote, is, of) none = absurd (cc (is, none))

  pub none_alike : (number : ℕ) → at_number quotes number ≡ None → at_number held number ≡ None
  none_alike number none = nothing_from (at_number held number) (at_number quotes number) (are.each number) none

  -- and what is quoted is held
  something_from : (one : Option HeldQuote) (other : Option Quote) (quote : Quote) → FitsQuote network epoch history one other → other ≡ Some quote → (there : HeldQuote) × (one ≡ Some there) × IsQuoteOf network epoch history there quote
  something_from None other quote fits some = absurd (cc (fits, some))
  something_from (Some one) other quote (found, is, of) some = (one, refl, subst (IsQuoteOf network epoch history one) (same_quote found quote (sym is ∙ some)) of)
    where
      same_quote : (one other : Quote) → Some one ≡ Some other → one ≡ other
      same_quote one other same = cc same

  pub some_alike : (number : ℕ) (quote : Quote) → at_number quotes number ≡ Some quote → (there : HeldQuote) × (at_number held number ≡ Some there) × IsQuoteOf network epoch history there quote
  some_alike number quote some = something_from (at_number held number) (at_number quotes number) quote (are.each number) some

  -- under a number that there is
  pub held_there : (number : ℕ) (quote : Quote) → at_number quotes number ≡ Some quote → (1 ≤ number) × (number ≤ length quotes) × ((there : HeldQuote) × (at_number held number ≡ Some there) × IsQuoteOf network epoch history there quote)
  held_there number quote some = let range = some_at quotes number quote some in (range.0, range.1, some_alike number quote some)

  -- with the same at a number
  pub held_with : (number : ℕ) (one : Option HeldQuote) (quote : Option Quote) → 1 ≤ number → number ≤ length quotes → FitsQuote network epoch history one quote
      → AreHeld network epoch history (with_number held number one) (with_number quotes number quote)
  held_with number one quote some most fits = record {
    numbers = length_with held number one ∙ are.numbers ∙ sym (length_with quotes number quote);
    each = λ other. at other (cases_eq other number);
  }
    where
      at : (other : ℕ) → (other ≡ number) ⊎ (other ≢ number) → FitsQuote network epoch history (at_number (with_number held number one) other) (at_number (with_number quotes number quote) other)
      at other (inl same) =
          let mine : at_number (with_number held number one) other ≡ one = ap (at_number (with_number held number one)) same ∙ at_with_same held number one some (omega (arith, most, are.numbers)) in
          let theirs : at_number (with_number quotes number quote) other ≡ quote = ap (at_number (with_number quotes number quote)) same ∙ at_with_same quotes number quote some most in
          subst (λ (o : Option HeldQuote). FitsQuote network epoch history o (at_number (with_number quotes number quote) other)) (sym mine) (subst (FitsQuote network epoch history one) (sym theirs) fits)
      at other (inr differs) =
          subst (λ (o : Option HeldQuote). FitsQuote network epoch history o (at_number (with_number quotes number quote) other)) (sym (at_with_other held number other one differs))
          (subst (FitsQuote network epoch history (at_number held other)) (sym (at_with_other quotes number other quote differs)) (are.each other))

-- ---- what is kept

module _ (ledger : Ledger) where
  -- with one that was made before, or none, at a number
  pub kept_with : (quotes : List (Option Quote)) (number : ℕ) (quote : Option Quote) → 1 ≤ number → number ≤ MOST_QUOTES → IfSome quote (WasMadeBefore ledger) → AreKept ledger quotes → AreKept ledger (with_number quotes number quote)
  kept_with quotes number quote some most made kept = record { numbers = length_with quotes number quote ∙ kept.numbers; made = λ other found there. at other found (cases_eq other number) there }
    where
      one_made : (given : Option Quote) (found : Quote) → given ≡ Some found → IfSome given (WasMadeBefore ledger) → WasMadeBefore ledger found
      one_made given found is made_so = subst (λ (o : Option Quote). IfSome o (WasMadeBefore ledger)) is made_so

      at : (other : ℕ) (found : Quote) → (other ≡ number) ⊎ (other ≢ number) → at_number (with_number quotes number quote) other ≡ Some found → WasMadeBefore ledger found
      at other found (inl same) there =
          one_made quote found (sym (at_with_same quotes number quote some (omega (arith, most, kept.numbers))) ∙ ap (at_number (with_number quotes number quote)) (sym same) ∙ there) made
      at other found (inr differs) there = kept.made other found (sym (at_with_other quotes number other quote differs) ∙ there)

  -- with one that was told, or none where memory was wanting
  pub kept_told : (quotes now : List (Option Quote)) (number : ℕ) (quote : Quote) (answer : Reply) → 1 ≤ number → number ≤ MOST_QUOTES → WasMadeBefore ledger quote → AreKept ledger quotes → HasTold number quote quotes now answer
      → AreKept ledger now
  kept_told quotes now number quote Memory some most made kept told = subst (AreKept ledger) (sym told) kept
  kept_told quotes now number quote (QuotedReply given cost at amounts) some most made kept told = subst (AreKept ledger) (sym told.4) (kept_with quotes number (Some quote) some most made kept)
  kept_told quotes now number quote answer some most made kept told = absurd told

  -- what each customer has is kept where one customer's is
  pub kept_now : (old new : AllQuotes) (customer : List ℕ) (quotes : List (Option Quote)) → HoldsNow old customer quotes new → AreKept ledger quotes → ((name : List ℕ) → AreKept ledger (quotes_in old name))
      → (name : List ℕ) → AreKept ledger (quotes_in new name)
  kept_now old new customer quotes holds one others name = subst (AreKept ledger) (sym (holds name)) (at (bytes_eq customer name))
    where
      at : (here : Bool) → AreKept ledger (if here then quotes else quotes_in old name)
      at true = one
      at false = others name

-- what each customer holds fits where one customer's does
pub held_now : (network : Network) (epoch : ℕ) (history : List Entry) (holdings : Holdings) (after : Holding) (old new : AllQuotes) (customer : List ℕ) (quotes : List (Option Quote)) → HoldsNow old customer quotes new
    → AreHeld network epoch history after quotes → ((name : List ℕ) → AreHeld network epoch history (holdings name) (quotes_in old name))
    → (name : List ℕ) → AreHeld network epoch history (with_held holdings customer after name) (quotes_in new name)
held_now network epoch history holdings after old new customer quotes holds one others name =
    subst (AreHeld network epoch history (with_held holdings customer after name)) (sym (holds name)) (at (bytes_eq customer name))
  where
    at : (here : Bool) → AreHeld network epoch history (if here then after else holdings name) (if here then quotes else quotes_in old name)
    at true = one
    at false = others name

-- nothing is held by one who holds nothing
pub none_are_held : (network : Network) (epoch : ℕ) (history : List Entry) → AreHeld network epoch history none_held none_held
none_are_held network epoch history = record { numbers = refl; each = λ number. rw (at_none_held {X = HeldQuote} number, at_none_held {X = Quote} number) refl }
