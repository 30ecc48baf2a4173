-- What becomes of an order to take a link out of service, or to put it back.
use Rattle.std.proofs.Common.{◌≡◌, ◌+◌, ◌<◌, ◌∙◌, ℕ, Bool, true, false, not, List, Option, None, Some, refl, sym, ap, subst}
use Rattle.hose_graph.specs.Limits.{operator, most_epoch}
use Rattle.hose_graph.specs.steps.Naming.{NamesPlaces}
use Rattle.hose_graph.specs.Network.{IsLinkOf, Network}
use Rattle.hose_graph.specs.declared.entry.Entry.{Entry}
use Rattle.hose_graph.specs.declared.command.Reply.{Reply}
use Rattle.hose_graph.specs.declared.command.Reply.TheVariants as reply
use Rattle.hose_law.specs.Answer.{IsAnswer, IsOperatorAnswer, IsServiceAnswer, MayWantMemory}
use Rattle.hose_law.specs.Book.{Book}
use Rattle.hose_law.specs.History.{IsSoundAt, book_of}
use Rattle.hose_law.specs.Quotes.{Holding}
use Rattle.hose_law.specs.steps.ReplyKind.{kind_of}
use Rattle.hose_law.specs.steps.ReplyKind.ReplyKind.{ByTheBook}
use Rattle.hose_law.specs.Service.{LinkStands}
use Rattle.hose_law.specs.steps.Service.{service_entry}
use Rattle.hose_book.specs.declared.books.Books.{Ghosts}
use Rattle.hose_book.specs.Ledger.{Ledger}
use Rattle.hose_core.specs.steps.Service.{service_command, service_reply}
use Rattle.hose_core.specs.steps.Stepping.{AnswersBy, Goes, HasStepped, IsToldAs}
use Rattle.hose_core.proofs.Answering.{answers_entered, answers_without}
use Rattle.hose_core.proofs.Stepped.{stepped_by}

-- ---- orders

-- what holds of the same order holds of this one
pub as_ordered : (Is : Bool → ℕ → Type 0) (down other : Bool) (link more : ℕ) → other ≡ down → more ≡ link → Is other more → Is down link
as_ordered Is down other link more ordered numbered is = subst (λ (b : Bool). Is b link) ordered (subst (Is other) numbered is)

-- it may want memory where the operator gives it
pub order_wants : (book : Book) (customer : List ℕ) (held : Holding) (down : Bool) (link : ℕ) → customer ≡ operator → MayWantMemory book customer held (service_command down link)
order_wants book customer held true link is = is
order_wants book customer held false link is = is

-- its reply, where it is done
pub done_kind : (down : Bool) (link at : ℕ) → kind_of (service_reply down link at) ≡ ByTheBook
done_kind true link at = refl
done_kind false link at = refl

pub done_names : (network : Network) (down : Bool) (link at : ℕ) → IsLinkOf network link → NamesPlaces network (service_reply down link at)
done_names network true link at is = is
done_names network false link at is = is

-- ---- answers

-- the operator's order is answered so
by_operator : (network : Network) (book : Book) (down : Bool) (link : ℕ) (given : Reply) (entry : Option Entry) → IsServiceAnswer network book down link given entry → IsOperatorAnswer network book operator down link given entry
by_operator network book true link (reply.Already told at) None answer = (refl, answer)
by_operator network book false link (reply.Already told at) None answer = (refl, answer)
by_operator network book true link (reply.Spent at) None answer = (refl, answer)
by_operator network book false link (reply.Spent at) None answer = (refl, answer)
by_operator network book true link (reply.Down told at) (Some entry) answer = (refl, answer)
by_operator network book false link (reply.Up told at) (Some entry) answer = (refl, answer)
by_operator network book down link given entry answer = absurd answer

-- what answers a customer's order is an answer to the command
pub order_answer : (network : Network) (epoch : ℕ) (history : List Entry) (customer : List ℕ) (held : Holding) (down : Bool) (link : ℕ) (given : Reply) (entry : Option Entry)
    → IsOperatorAnswer network (book_of epoch history) customer down link given entry → IsAnswer network epoch history customer held (service_command down link) given entry held
order_answer network epoch history customer held true link given entry answer = (answer, refl)
order_answer network epoch history customer held false link given entry answer = (answer, refl)

module _ {K R : Type 0} (books : Ghosts K R) (old new : K) (down : Bool) (link : ℕ) (entry : Entry) (orders : entry ≡ service_entry down link) where
  abbrev ledger : Ledger
  ledger = books.ledger old

  abbrev book : Book
  book = ledger.book

  abbrev Is : Reply → Option Entry → Type 0
  Is = IsServiceAnswer ledger.network book down link

  abbrev Answers : Reply → Type 0
  Answers = AnswersBy books old new Is

  pub already_answers : (told at : ℕ) → told ≡ link → at ≡ book.epoch → LinkStands ledger.network book link down → new ≡ old → Answers (reply.Already told at)
  already_answers told at tells here stands = answers_without books old new Is (reply.Already told at) (tells, here, stands)

  pub spent_answers : (at : ℕ) → at ≡ book.epoch → LinkStands ledger.network book link (not down) → at ≡ most_epoch → new ≡ old → Answers (reply.Spent at)
  spent_answers at here stands last = answers_without books old new Is (reply.Spent at) (here, sym here ∙ last, stands)

  module _ (at : ℕ) (here : at ≡ book.epoch) (epoch : book.epoch < most_epoch) (stands : LinkStands ledger.network book link (not down)) where
    abbrev done : Reply
    done = service_reply down link (at + 1)

    is_done : Is done (Some entry)
    is_done = by down stands orders
      where
        by : (down : Bool) → LinkStands ledger.network book link (not down) → entry ≡ service_entry down link → IsServiceAnswer ledger.network book down link (service_reply down link (at + 1)) (Some entry)
        by true stands is = (epoch, stands, refl, ap (λ n. n + 1) here, is)
        by false stands is = (epoch, stands, refl, ap (λ n. n + 1) here, is)

    -- the entry is sound
    pub sound_at : IsSoundAt ledger.network book entry
    sound_at = by down stands orders
      where
        by : (down : Bool) → LinkStands ledger.network book link (not down) → entry ≡ service_entry down link → IsSoundAt ledger.network book entry
        by true stands is = subst (IsSoundAt ledger.network book) (sym is) (epoch, stands)
        by false stands is = subst (IsSoundAt ledger.network book) (sym is) (epoch, stands)

    pub done_answers : (told answer : Reply) → told ≡ done → Goes books old answer (Some entry) new → IsToldAs told (Some entry) answer book (books.ledger new).book → Answers answer
    done_answers told answer tells goes is =
        answers_entered books old new Is done entry answer is_done sound_at goes (subst (λ (r : Reply). IsToldAs r (Some entry) answer book (books.ledger new).book) tells is)

  -- and that is a step of the operator
  pub service_step : (epoch : ℕ) (history : List Entry) (held : Holding) (answer : Reply) → book ≡ book_of epoch history → Answers answer → HasStepped books old new epoch history operator held (service_command down link) answer
  service_step epoch history held answer here by =
      stepped_by books old new epoch history operator held held (service_command down link) answer Is here
      (λ given more is.
      order_answer ledger.network epoch history operator held down link given more
      (by_operator ledger.network (book_of epoch history) down link given more (subst (λ (b : Book). IsServiceAnswer ledger.network b down link given more) here is))) by
