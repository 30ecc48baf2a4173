-- A core that answered a command goes on: it fits what the step leads to.
use Rattle.std.proofs.Common.{◌≡◌, ◌≢◌, ◌⊎◌, ◌∙◌, ◌≤◌, ℕ, Bool, true, false, List, Option, None, Some, IsSome, length, inl, inr, refl, sym, ap, subst, arith}
use Rattle.std.proofs.lemmas.List.{take_all}
use Rattle.hose_graph.specs.Limits.{operator}
use Rattle.hose_graph.specs.steps.Naming.{NamesPlaces}
use Rattle.hose_graph.specs.Network.{Network}
use Rattle.hose_graph.specs.declared.command.Command.{Command}
use Rattle.hose_graph.specs.declared.command.Command.TheVariants as command
use Rattle.hose_graph.specs.declared.entry.Entry.{Entry}
use Rattle.hose_graph.specs.declared.command.Reply.{Reply}
use Rattle.hose_graph.specs.declared.command.Reply.TheVariants as reply
use Rattle.hose_law.specs.Answer.{IsStepOf, IsTakeAnswer, MayWantMemory}
use Rattle.hose_law.specs.steps.Answer.{ChangesHeld}
use Rattle.hose_law.specs.Book.{Book}
use Rattle.hose_law.specs.Decision.{IsPlanned, IsRefused}
use Rattle.hose_law.specs.History.{book_of}
use Rattle.hose_law.specs.Quotes.{Holding, HeldQuote, Holdings, at_number, free_number, with_held, with_number}
use Rattle.hose_law.specs.Room.{room_of}
use Rattle.hose_law.proofs.Numbers.{some_at}
use Rattle.hose_law.proofs.Steps.{IsAnswered, IsIdle, step_cases, step_keeps}
use Rattle.hose_plan.specs.steps.Planning.{allowed_links}
use Rattle.hose_book.specs.declared.books.Books.{Ghosts}
use Rattle.hose_book.specs.declared.books.Committed.TheVariants.{Done}
use Rattle.hose_book.specs.Ledger.{Ledger}
use Rattle.hose_core.specs.steps.Bound.{admission_command}
use Rattle.hose_core.specs.steps.Holding.{AllQuotes, AreHeld, HoldsNow, IsMadeAt, IsQuoteOf, State, quotes_in}
use Rattle.hose_core.specs.steps.Planning.{HasTold, IsNotPlanned}
use Rattle.hose_core.specs.steps.Service.{service_command}
use Rattle.hose_core.specs.steps.Stepping.{FitsHistory, HasAnswered, HasStepped, HaveAnswered, Steps, StepsAtEach, StepsOn, committed_of}
use Rattle.hose_core.proofs.Leading.{decided, leads}
use Rattle.hose_core.specs.declared.quotes.Quote.{Quote}
use Rattle.hose_core.proofs.Answering.{answered_same}
use Rattle.hose_core.proofs.Customers.{holds_same}
use Rattle.hose_core.proofs.ServiceEntries.{order_answer, order_wants}
use Rattle.hose_core.proofs.Told.{told_step}
use Rattle.hose_core.proofs.HeldQuotes.{IsFront, free_alike, front_same, front_with, held_longer, held_now, held_with, none_alike, some_alike}

-- ---- one step

module _ {K R : Type 0} (books : Ghosts K R) (old new : K) (epoch : ℕ) (history : List Entry) (customer : List ℕ) (held : Holding) (asked : Command) (answer : Reply)
    (stepped : HasStepped books old new epoch history customer held asked answer) where
  abbrev Cases : Type 0
  Cases = IsIdle (books.ledger old).network epoch history customer held answer stepped.entry stepped.next stepped.after
      ⊎ IsAnswered (books.ledger old).network epoch history customer held asked stepped.entry stepped.next stepped.after

  cases : Cases
  cases = step_cases (books.ledger old).network epoch history customer held asked answer stepped.entry stepped.next stepped.after stepped.step

  -- a history begins what its step leads to
  pub front_of : IsFront history stepped.next
  front_of = at cases
    where
      at : Cases → IsFront history stepped.next
      at (inl idle) = front_same history stepped.next idle.stays
      at (inr answered) = elim answered.goes [
        | inl stays ↦ front_same history stepped.next stays
        | inr goes ↦ front_with history stepped.next stepped.entry goes
      ]

-- an order of the operator leaves what is held
pub order_keeps : (down : Bool) (link : ℕ) → ¬ ChangesHeld (service_command down link)
order_keeps true link = λ changes. changes
order_keeps false link = λ changes. changes

-- and so does an admission, bound to a number or to none
pub admission_keeps : (known : Option ℕ) (hose : List (ℕ × ℕ)) → ¬ ChangesHeld (admission_command known hose)
admission_keeps None hose = λ changes. changes
admission_keeps (Some known) hose = λ changes. changes

-- ---- what the core holds then

module _ {K R : Type 0} (books : Ghosts K R) (old new : State K) (epoch : ℕ) (history : List Entry) (holdings : Holdings) (customer : List ℕ) (fits : FitsHistory books old epoch history holdings)
    (same : (books.ledger new.books).network ≡ (books.ledger old.books).network) where
  abbrev network : Network
  network = (books.ledger old.books).network

  abbrev held : Holding
  held = holdings customer

  abbrev Stepped : Command → Reply → Type 0
  Stepped asked answer = HasStepped books old.books new.books epoch history customer held asked answer

  abbrev On : Command → Reply → Type 0
  On asked answer = StepsOn books old new epoch history holdings customer asked answer

  -- a customer's quotes are others now
  pub changes_on : (asked : Command) (answer : Reply) (stepped : Stepped asked answer) (quotes : List (Option Quote)) → HoldsNow old.quotes customer quotes new.quotes
      → AreHeld network epoch stepped.next stepped.after quotes → On asked answer
  changes_on asked answer stepped quotes holds one = record {
    stepped = stepped;
    decided = decided network epoch history customer held asked answer stepped.entry stepped.next stepped.after stepped.step stepped.sound;
    leads = leads network epoch history customer held asked answer stepped.entry stepped.next stepped.after stepped.step;
    fits = record {
      book = stepped.book;
      held = subst (λ (n : Network). (name : List ℕ) → AreHeld n epoch stepped.next (with_held holdings customer stepped.after name) (quotes_in new.quotes name)) (sym same)
          (held_now network epoch stepped.next holdings stepped.after old.quotes new.quotes customer quotes holds one
          (λ name. held_longer network epoch history stepped.next (front_of books old.books new.books epoch history customer held asked answer stepped) (holdings name) (quotes_in old.quotes name) (fits.held name)));
    };
  }

  -- the quotes are as before
  pub stays_on : (asked : Command) (answer : Reply) (stepped : Stepped asked answer) → stepped.after ≡ held → new.quotes ≡ old.quotes → On asked answer
  stays_on asked answer stepped keeps unchanged =
      let quotes : List (Option Quote) = quotes_in old.quotes customer in
      let holds = subst (HoldsNow old.quotes customer quotes) (sym unchanged) (holds_same old.quotes customer quotes refl) in
      let longer = held_longer network epoch history stepped.next (front_of books old.books new.books epoch history customer held asked answer stepped) held quotes (fits.held customer) in
      changes_on asked answer stepped quotes holds (subst (λ (h : Holding). AreHeld network epoch stepped.next h quotes) (sym keeps) longer)

  pub keeps_on : (asked : Command) (answer : Reply) → ¬ ChangesHeld asked → Stepped asked answer → new.quotes ≡ old.quotes → On asked answer
  keeps_on asked answer keeping stepped unchanged =
      stays_on asked answer stepped (step_keeps network epoch history customer held asked answer stepped.entry stepped.next stepped.after keeping stepped.step) unchanged

  -- the quote under a number is taken
  pub taken_on : (number : ℕ) (quote : Quote) (answer : Reply) → at_number (quotes_in old.quotes customer) number ≡ Some quote → answer ≢ reply.Memory → Stepped (command.Take number) answer
      → HoldsNow old.quotes customer (with_number (quotes_in old.quotes customer) number None) new.quotes → On (command.Take number) answer
  taken_on number quote answer there told stepped holds =
      let quotes : List (Option Quote) = quotes_in old.quotes customer in
      let one = some_alike network epoch history held quotes (fits.held customer) number quote there in
      let range = some_at quotes number quote there in
      let longer = held_longer network epoch history stepped.next (front_of books old.books new.books epoch history customer held (command.Take number) answer stepped) (with_number held number None) (with_number quotes number None)
      (held_with network epoch history held quotes (fits.held customer) number None None range.0 range.1 refl) in
      changes_on (command.Take number) answer stepped (with_number quotes number None) holds
      (subst (λ (h : Holding). AreHeld network epoch stepped.next h (with_number quotes number None)) (sym (at one.0 one.1 (cases books old.books new.books epoch history customer held (command.Take number) answer stepped))) longer)
    where
      taken : (found : Option HeldQuote) (one : HeldQuote) (given : Reply) → found ≡ Some one → IsTakeAnswer network epoch history customer number held found given stepped.entry stepped.after → stepped.after ≡ with_number held number None
      taken None one given is answered = absurd (cc is)
      taken (Some found) one given is answered = answered.1

      at : (one : HeldQuote) → at_number held number ≡ Some one → Cases books old.books new.books epoch history customer held (command.Take number) answer stepped → stepped.after ≡ with_number held number None
      at one is (inl idle) = absurd (told idle.tells)
      at one is (inr answered) = taken (at_number held number) one answered.given is answered.is

-- ---- steps that leave the books

module _ {K R : Type 0} (books : Ghosts K R) (old : State K) (epoch : ℕ) (history : List Entry) (holdings : Holdings) (customer : List ℕ) (fits : FitsHistory books old epoch history holdings) where
  abbrev was : Ledger
  was = books.ledger old.books

  abbrev mine : Holding
  mine = holdings customer

  abbrev quotes : List (Option Quote)
  quotes = quotes_in old.quotes customer

  abbrev Stays : Command → Reply → Type 0
  Stays asked answer = StepsOn books old old epoch history holdings customer asked answer

  -- an answer without an entry, which leaves what is held
  told_on : (asked : Command) (answer : Reply) → IsStepOf was.network epoch history customer mine asked answer None history mine → Stays asked answer
  told_on asked answer step = stays_on books old old epoch history holdings customer fits refl asked answer (told_step books old.books epoch history customer mine fits.book asked answer step) refl refl

  -- want of memory
  pub memory_on : (asked : Command) → MayWantMemory (book_of epoch history) customer mine asked → Stays asked reply.Memory
  memory_on asked may = told_on asked reply.Memory (may, refl, refl, refl)

  here : (at : ℕ) → at ≡ was.book.epoch → at ≡ (book_of epoch history).epoch
  here at is = is ∙ ap (λ (b : Book). b.epoch) fits.book

  -- no number is free
  pub too_many_on : (hose : List (ℕ × ℕ)) (at : ℕ) → at ≡ was.book.epoch → free_number quotes ≡ None → Stays (command.Quote hose) (reply.TooMany at)
  too_many_on hose at is none =
      told_on (command.Quote hose) (reply.TooMany at) ((refl, (here at is, free_alike was.network epoch history mine quotes (fits.held customer) ∙ none, refl)), refl)

  some_free : (number : ℕ) → free_number quotes ≡ Some number → free_number mine ≡ Some number
  some_free number free = free_alike was.network epoch history mine quotes (fits.held customer) ∙ free

  -- the hose is refused
  refused_on : (hose : List (ℕ × ℕ)) (number at : ℕ) (side : List ℕ) → at ≡ was.book.epoch → free_number quotes ≡ Some number → IsRefused was.network (room_of was.network was.book) hose side
      → Stays (command.Quote hose) (reply.Refused at side)
  refused_on hose number at side is free refused =
      let refuses = subst (λ (b : Book). IsRefused was.network (room_of was.network b) hose side) fits.book refused in
      let some : IsSome (free_number mine) = subst IsSome (sym (some_free number free)) refl in
      told_on (command.Quote hose) (reply.Refused at side) ((refl, (here at is, some, refuses, refl)), refl)

  quote_memory_on : (hose : List (ℕ × ℕ)) (number : ℕ) → free_number quotes ≡ Some number → Stays (command.Quote hose) reply.Memory
  quote_memory_on hose number free = memory_on (command.Quote hose) (subst IsSome (sym (some_free number free)) refl)

  -- nothing was planned
  pub unplanned_on : (hose : List (ℕ × ℕ)) (number : ℕ) (answer : Reply) → free_number quotes ≡ Some number → IsNotPlanned was.network was.book hose answer → Stays (command.Quote hose) answer
  unplanned_on hose number reply.Memory free is = quote_memory_on hose number free
  unplanned_on hose number (reply.Refused at side) free is = refused_on hose number at side is.0 free is.1
  unplanned_on hose number answer free is = absurd is

  -- nothing stands at the number
  pub no_quote_on : (number at : ℕ) → at ≡ was.book.epoch → at_number quotes number ≡ None → Stays (command.Take number) (reply.NoQuote number at)
  no_quote_on number at is none =
      let answer = subst (λ (found : Option HeldQuote). IsTakeAnswer was.network epoch history customer number mine found (reply.NoQuote number at) None mine)
      (sym (none_alike was.network epoch history mine quotes (fits.held customer) number none)) (ap (reply.NoQuote number) (here at is), refl, refl) in
      told_on (command.Take number) (reply.NoQuote number at) (answer, refl)

  pub take_memory_on : (number : ℕ) (quote : Quote) → at_number quotes number ≡ Some quote → Stays (command.Take number) reply.Memory
  take_memory_on number quote there =
      let one = some_alike was.network epoch history mine quotes (fits.held customer) number quote there in
      memory_on (command.Take number) (subst IsSome (sym one.1) refl)

  -- a customer who is not the operator is denied
  pub denied_on : (down : Bool) (link at : ℕ) → at ≡ was.book.epoch → customer ≢ operator → Stays (service_command down link) (reply.Denied at)
  denied_on down link at is other =
      told_on (service_command down link) (reply.Denied at) (order_answer was.network epoch history customer mine down link (reply.Denied at) None (here at is, other), refl)

  -- and where this is the operator, memory may be wanting
  pub order_memory_on : (down : Bool) (link : ℕ) → customer ≡ operator → Stays (service_command down link) reply.Memory
  order_memory_on down link is = memory_on (service_command down link) (order_wants (book_of epoch history) customer mine down link is)

  -- ---- a quote that is put

  quoted_on : (new : State K) (number : ℕ) (quote : Quote) → 1 ≤ number → number ≤ length quotes → free_number quotes ≡ Some number → IsMadeAt was.network was.book quote → new.books ≡ old.books
      → HoldsNow old.quotes customer (with_number quotes number (Some quote)) new.quotes
      → StepsOn books old new epoch history holdings customer (command.Quote quote.hose) (reply.Quoted number quote.cost quote.seen quote.amounts)
  quoted_on new number quote some most free made same holds =
      let one : HeldQuote = record { hose = quote.hose; place = length history } in
      let made_here = subst (λ (b : Book). IsMadeAt was.network b quote) fits.book made in
      let made_there = subst (λ (h : List Entry). IsMadeAt was.network (book_of epoch h) quote) (sym (take_all (length history) history (omega arith))) made_here in
      let of : IsQuoteOf was.network epoch history one quote = record { there = omega arith; hose = refl; made = made_there } in
      let planned : IsPlanned was.network (room_of was.network (book_of epoch history)) quote.hose quote.amounts = (allowed_links (room_of was.network (book_of epoch history)) quote.grounds, made_here.decision.0) in
      let stepped : HasStepped books old.books new.books epoch history customer mine (command.Quote quote.hose) (reply.Quoted number quote.cost quote.seen quote.amounts) = record {
        entry = None;
        next = history;
        after = with_number mine number (Some one);
        step = ((refl, (made_here.seen, some_free number free, planned, made_here.decision.1, refl)), refl);
        sound = tt;
        goes = same;
        book = ap (λ (k : K). (books.ledger k).book) same ∙ fits.book;
      } in
      changes_on books old new epoch history holdings customer fits (ap (λ (k : K). (books.ledger k).network) same) (command.Quote quote.hose) (reply.Quoted number quote.cost quote.seen quote.amounts) stepped
      (with_number quotes number (Some quote)) holds (held_with was.network epoch history mine quotes (fits.held customer) number (Some one) (Some quote) some most (quote, refl, of))

  -- or memory was wanting
  starved_on : (new : State K) (number : ℕ) (hose : List (ℕ × ℕ)) (now : List (Option Quote)) → free_number quotes ≡ Some number → new.books ≡ old.books → now ≡ quotes → HoldsNow old.quotes customer now new.quotes
      → StepsOn books old new epoch history holdings customer (command.Quote hose) reply.Memory
  starved_on new number hose now free same is holds =
      let some : IsSome (free_number mine) = subst IsSome (sym (some_free number free)) refl in
      let stepped : HasStepped books old.books new.books epoch history customer mine (command.Quote hose) reply.Memory = record {
        entry = None;
        next = history;
        after = mine;
        step = (some, refl, refl, refl);
        sound = tt;
        goes = same;
        book = ap (λ (k : K). (books.ledger k).book) same ∙ fits.book;
      } in
      changes_on books old new epoch history holdings customer fits (ap (λ (k : K). (books.ledger k).network) same) (command.Quote hose) reply.Memory stepped now holds
      (subst (AreHeld was.network epoch history mine) (sym is) (fits.held customer))

  -- by what is told of it
  pub held_on : (new : State K) (number : ℕ) (quote : Quote) (now : List (Option Quote)) (answer : Reply) → 1 ≤ number → number ≤ length quotes → free_number quotes ≡ Some number → IsMadeAt was.network was.book quote
      → new.books ≡ old.books → HasTold number quote quotes now answer → HoldsNow old.quotes customer now new.quotes → StepsOn books old new epoch history holdings customer (command.Quote quote.hose) answer
  held_on new number quote now reply.Memory some most free made same told holds = starved_on new number quote.hose now free same told holds
  held_on new number quote now (reply.Quoted given cost at amounts) some most free made same (is_number, is_cost, is_at, is_amounts, is_now) holds =
      subst (λ (r : Reply). StepsOn books old new epoch history holdings customer (command.Quote quote.hose) r) (cc (is_number, is_cost, is_at, is_amounts))
      (quoted_on new number quote some most free made same (subst (λ (q : List (Option Quote)). HoldsNow old.quotes customer q new.quotes) is_now holds))
  held_on new number quote now answer some most free made same told holds = absurd told

-- such a reply names no place, and no entry of its was committed
pub told_names : (network : Network) (number : ℕ) (quote : Quote) (old new : List (Option Quote)) (answer : Reply) → HasTold number quote old new answer → NamesPlaces network answer
told_names _ number quote old new reply.Memory told = tt
told_names _ number quote old new (reply.Quoted given cost at amounts) told = tt
told_names _ number quote old new answer told = absurd told

pub told_done : (number : ℕ) (quote : Quote) (old new : List (Option Quote)) (answer : Reply) → HasTold number quote old new answer → committed_of answer ≡ Done
told_done number quote old new reply.Memory told = refl
told_done number quote old new (reply.Quoted given cost at amounts) told = refl
told_done number quote old new answer told = absurd told

-- What is shown of a core by its fields is shown of it.
pub of_fields : {K R : Type 0} (books : Ghosts K R) (fields old new : State K) (epoch : ℕ) (history : List Entry) (holdings : Holdings) (customer : List ℕ) (asked : Command) (answer : Reply) → fields ≡ old
    → (FitsHistory books fields epoch history holdings → StepsOn books fields new epoch history holdings customer asked answer)
    → FitsHistory books old epoch history holdings → StepsOn books old new epoch history holdings customer asked answer
of_fields {K = K} books fields old new epoch history holdings customer asked answer same on =
    subst (λ (s : State K). FitsHistory books s epoch history holdings → StepsOn books s new epoch history holdings customer asked answer) same on

-- ---- what books answered that left what is held

abbrev with_books : {K : Type 0} → AllQuotes → K → State K
with_books quotes books = record { books = books; quotes = quotes }

module _ {K R : Type 0} {books : Ghosts K R} {was : K} {quotes : AllQuotes} {state : State K} {answer : Reply} (customer : List ℕ) (asked : Command) (keeping : ¬ ChangesHeld asked) where
  -- a core with these books and quotes answered so
  pub keeps_answered : {now : K} → with_books quotes was ≡ state → HaveAnswered books was now answer → StepsAtEach books was now customer asked answer → HasAnswered books state (with_books quotes now) customer asked answer
  keeps_answered {now = now} same answered steps = record {
    step = λ epoch history holdings.
        of_fields books (with_books quotes was) state (with_books quotes now) epoch history holdings customer asked answer same
        (λ fits. keeps_on books (with_books quotes was) (with_books quotes now) epoch history holdings customer fits answered.network asked answer keeping (steps epoch history (holdings customer) fits.book) refl);
    answered = subst (λ (s : State K). HaveAnswered books s.books now answer) same answered;
  }

  -- and stays as it was where its books do
  pub reads_answered : with_books quotes was ≡ state → StepsAtEach books was was customer asked answer → committed_of answer ≡ Done → NamesPlaces (books.ledger was).network answer → HasAnswered books state state customer asked answer
  reads_answered same steps done names = subst (λ (s : State K). HasAnswered books s s customer asked answer) same (record {
    step = λ epoch history holdings fits. keeps_on books (with_books quotes was) (with_books quotes was) epoch history holdings customer fits refl asked answer keeping (steps epoch history (holdings customer) fits.book) refl;
    answered = answered_same books was answer done names;
  })

-- a core that stays as it is answered by a step
pub stays_answered : {K R : Type 0} (books : Ghosts K R) (old : State K) (customer : List ℕ) (asked : Command) (answer : Reply) → Steps books old old customer asked answer → committed_of answer ≡ Done → NamesPlaces (books.ledger old.books).network answer
    → HasAnswered books old old customer asked answer
stays_answered books old customer asked answer step done names = record { step = step; answered = answered_same books old.books answer done names }
