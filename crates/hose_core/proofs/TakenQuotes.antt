-- What becomes of a quote that is taken.
use Rattle.std.proofs.Common.{◌≡◌, ℕ, List, Bool, Option, None, Some, take, refl, sym, subst}
use Rattle.std.specs.Prelude.{◌↔◌, IsTrue}
use Rattle.hose_graph.specs.Network.{IsNetwork, Network}
use Rattle.hose_graph.specs.declared.command.Command.TheVariants as command
use Rattle.hose_graph.specs.declared.entry.Entry.{Entry}
use Rattle.hose_graph.specs.declared.entry.Entry.TheVariants.{Admit}
use Rattle.hose_graph.specs.declared.command.Reply.{Reply}
use Rattle.hose_graph.specs.declared.command.Reply.TheVariants as reply
use Rattle.hose_law.specs.Answer.{IsAnswer, IsPlannedAnswer, IsTakeAnswer, IsTakingAnswer}
use Rattle.hose_law.specs.Book.{Book, loads_of}
use Rattle.hose_law.specs.Decision.{HaveEqualGrounds, IsPlannedOver}
use Rattle.hose_law.specs.History.{book_of}
use Rattle.hose_law.specs.Quotes.{Holding, HeldQuote, at_number, with_number}
use Rattle.hose_law.specs.Room.{first_links, room_of}
use Rattle.hose_law.proofs.CanonicalPlans.{planned_sound, same_decisions}
use Rattle.hose_plan.specs.steps.Planning.{AreGroundsOf, allowed_links}
use Rattle.hose_book.specs.declared.books.Books.{Ghosts}
use Rattle.hose_book.specs.Ledger.{Ledger}
use Rattle.hose_core.specs.steps.Claiming.{IsClaimOf, IsPlannedEntry}
use Rattle.hose_core.specs.declared.claim.Claim.{Claim}
use Rattle.hose_core.specs.steps.Holding.{IsMadeAt, IsQuoteOf}
use Rattle.hose_core.specs.steps.Stepping.{AnswersBy, HasStepped}
use Rattle.hose_core.specs.declared.quotes.Quote.{Quote}
use Rattle.hose_core.proofs.Answering.{answers_without}
use Rattle.hose_core.proofs.Stepped.{stepped_by}

-- a quote whose grounds are as they were is the plan of its hose, and can be reserved
pub still_planned : (ledger : Ledger) → IsNetwork ledger.network → (earlier : Book) (quote : Quote) (customer : List ℕ) (entry : Entry) → IsMadeAt ledger.network earlier quote
    → HaveEqualGrounds ledger.network earlier ledger.book quote.hose → entry ≡ Admit customer quote.hose quote.amounts → IsPlannedEntry ledger customer quote.hose quote.amounts entry
still_planned ledger is earlier quote customer entry made equal admits =
    let set : List Bool = allowed_links (room_of ledger.network earlier) quote.grounds in
    let here = room_of ledger.network ledger.book in
    let same = same_decisions ledger.network earlier ledger.book quote.hose equal in
    let planned : IsPlannedOver ledger.network here quote.hose set quote.amounts = (same.plans set quote.amounts).0 made.decision.0 in
    record { admits = admits; planned = (set, planned); sound = planned_sound ledger.network is here quote.hose set quote.amounts made.is_hose planned }

-- a planned hose whose grounds are as they were is answered so
taking_of : (network : Network) (earlier book : Book) (customer : List ℕ) (hose : List (ℕ × ℕ)) (given : Reply) (entry : Option Entry) → HaveEqualGrounds network earlier book hose
    → IsPlannedAnswer network book customer hose given entry → IsTakingAnswer network earlier book customer hose given entry
taking_of network earlier book customer hose (reply.Spent at) None equal answer = (equal, answer)
taking_of network earlier book customer hose (reply.Full at) None equal answer = (equal, answer)
taking_of network earlier book customer hose (reply.Admitted id cost at amounts) (Some entry) equal answer = (equal, answer)
taking_of network earlier book customer hose given entry equal answer = absurd answer

module _ {K R : Type 0} (books : Ghosts K R) (old new : K) (epoch number : ℕ) (history : List Entry) (customer : List ℕ) (held : Holding) (one : HeldQuote) (quote : Quote)
    (here : (books.ledger old).book ≡ book_of epoch history) (there : at_number held number ≡ Some one) (is : IsQuoteOf (books.ledger old).network epoch history one quote) where
  abbrev network : Network
  network = (books.ledger old).network

  abbrev earlier : Book
  earlier = book_of epoch (take one.place history)

  abbrev Stepped : Reply → Type 0
  Stepped answer = HasStepped books old new epoch history customer held (command.Take number) answer

  taken : (given : Reply) (entry : Option Entry) → IsTakingAnswer network earlier (books.ledger old).book customer quote.hose given entry
      → IsAnswer network epoch history customer held (command.Take number) given entry (with_number held number None)
  taken given entry answer =
      let at_history = subst (λ (b : Book). IsTakingAnswer network earlier b customer quote.hose given entry) here answer in
      let of_one = subst (λ (h : List (ℕ × ℕ)). IsTakingAnswer network earlier (book_of epoch history) customer h given entry) (sym is.hose) at_history in
      subst (λ (found : Option HeldQuote). IsTakeAnswer network epoch history customer number held found given entry (with_number held number None)) (sym there) (of_one, refl)

  by_taking : (answer : Reply) → AnswersBy books old new (IsTakingAnswer network earlier (books.ledger old).book customer quote.hose) answer → Stepped answer
  by_taking answer by = stepped_by books old new epoch history customer held (with_number held number None) (command.Take number) answer (IsTakingAnswer network earlier (books.ledger old).book customer quote.hose) here taken by

  -- the quote is entered where its grounds are as they were
  pub take_step : HaveEqualGrounds network earlier (books.ledger old).book quote.hose → (answer : Reply) → AnswersBy books old new (IsPlannedAnswer network (books.ledger old).book customer quote.hose) answer → Stepped answer
  take_step equal answer by = by_taking answer (record {
    given = by.given;
    entry = by.entry;
    is = taking_of network earlier (books.ledger old).book customer quote.hose by.given by.entry equal by.is;
    sound = by.sound;
    goes = by.goes;
    told = by.told;
  })

  -- and is stale where they differ
  pub stale_step : (HaveEqualGrounds network earlier (books.ledger old).book quote.hose → ⊥) → (now : ℕ) → now ≡ (books.ledger old).book.epoch → new ≡ old → Stepped (reply.Stale quote.seen now)
  stale_step differ now at same =
      let given = reply.Stale quote.seen now in
      by_taking given (answers_without books old new (IsTakingAnswer network earlier (books.ledger old).book customer quote.hose) given (is.made.seen, at, differ) same)

-- what is known of grounds over the links in service of a book and beside its loads is known of them at the book
pub holds_beside : (top network : Network) (service : List Bool) (loads : List ℕ) (book : Book) (quote : Quote) (result : Bool) → top ≡ network → service ≡ first_links network book → loads ≡ loads_of network book
    → ((hose : List (ℕ × ℕ)) (earlier now : Book) → service ≡ first_links top now → loads ≡ loads_of top now → AreGroundsOf top (room_of top earlier) hose quote.grounds → IsTrue result ↔ HaveEqualGrounds top earlier now hose)
    → (earlier : Book) → IsMadeAt network earlier quote → IsTrue result ↔ HaveEqualGrounds network earlier book quote.hose
holds_beside top network service loads book quote result is_top is_service is_loads holds earlier made =
    subst
    (λ (n : Network). (hose : List (ℕ × ℕ)) (earlier now : Book) → service ≡ first_links n now → loads ≡ loads_of n now → AreGroundsOf n (room_of n earlier) hose quote.grounds → IsTrue result ↔ HaveEqualGrounds n earlier now hose)
    is_top holds quote.hose earlier book is_service is_loads made.decision.2

-- what is known of grounds at a book is known of it as it is called
pub holds_there : (here ledger : Ledger) → here ≡ ledger → (quote : Quote) (result : Bool)
    → ((earlier : Book) → IsMadeAt here.network earlier quote → IsTrue result ↔ HaveEqualGrounds here.network earlier here.book quote.hose)
    → (earlier : Book) → IsMadeAt ledger.network earlier quote → IsTrue result ↔ HaveEqualGrounds ledger.network earlier ledger.book quote.hose
holds_there here ledger same quote result holds =
    subst (λ (l : Ledger). (earlier : Book) → IsMadeAt l.network earlier quote → IsTrue result ↔ HaveEqualGrounds l.network earlier l.book quote.hose) same holds

-- the claim's entry is planned, with what the claim tells
pub claim_planned : {K R : Type 0} (books : Ghosts K R) (ledger : Ledger) → IsNetwork ledger.network → (earlier : Book) (quote : Quote) (customer : List ℕ) (claim : Claim K R) → IsClaimOf books claim customer quote → IsMadeAt ledger.network earlier quote
    → HaveEqualGrounds ledger.network earlier ledger.book quote.hose → IsPlannedEntry ledger customer quote.hose claim.told claim.entry
claim_planned books ledger is earlier quote customer claim of_quote made equal =
    subst (λ (plan : List (ℕ × ℕ)). IsPlannedEntry ledger customer quote.hose plan claim.entry) (sym of_quote.told) (still_planned ledger is earlier quote customer claim.entry made equal of_quote.entry)
