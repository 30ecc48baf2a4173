-- One command, one step: what a call does to books and to the quotes of customers.
use Rattle.std.specs.Prelude.{◌≡◌, ◌⊎◌, ℕ, Bool, List, Option, None, Some, IfSome, IsSome, ⊤}
use Rattle.hose_graph.specs.Amounts.{ReservedLink}
use Rattle.hose_graph.specs.Hose.{Endpoint}
use Rattle.hose_graph.specs.steps.Naming.{NamesPlaces}
use Rattle.hose_graph.specs.Network.{Network}
use Rattle.hose_graph.specs.declared.command.Command.{Command}
use Rattle.hose_graph.specs.declared.entry.Entry.{Entry}
use Rattle.hose_graph.specs.declared.command.Reply.{Reply}
use Rattle.hose_graph.specs.declared.command.Reply.TheVariants as reply
use Rattle.hose_law.specs.Answer.{IsPlannedAnswer, IsStepOf}
use Rattle.hose_law.specs.Book.{Book}
use Rattle.hose_law.specs.Cheapest.{IsCheapest}
use Rattle.hose_law.specs.Decision.{HaveEqualGrounds, IsAllowed}
use Rattle.hose_law.specs.History.{IsDecidedAt, book_of, next_book}
use Rattle.hose_law.specs.steps.History.{IsSoundWith}
use Rattle.hose_law.specs.Quotes.{Holding, Holdings, nothing_held, with_held}
use Rattle.hose_law.specs.steps.ReplyKind.{ReplyKind, kind_of}
use Rattle.hose_law.specs.steps.ReplyKind.ReplyKind.{ByTheBook, ForDisk, ForMemory, ForNoCommand}
use Rattle.hose_law.specs.Room.{room_of}
use Rattle.hose_book.specs.steps.Commit.{IsMet, history_after}
use Rattle.hose_book.specs.Ledger.{HasBookOf, Ledger}
use Rattle.hose_book.specs.steps.Ledger.{next_ledger}
use Rattle.hose_book.specs.declared.books.Books.{Ghosts}
use Rattle.hose_book.specs.declared.books.Committed.{Committed}
use Rattle.hose_book.specs.declared.books.Committed.TheVariants.{Done, Disk}
use Rattle.hose_core.specs.steps.Holding.{AreHeld, State, quotes_of}
use Rattle.hose_core.specs.declared.quotes.Quote.{Quote}

-- what the commit of a command's entry answered, by the kind of the reply
abbrev pub committed_for : ReplyKind → Committed
committed_for ByTheBook = Done
committed_for (ForDisk at) = Disk
committed_for ForMemory = Done
committed_for ForNoCommand = Done

-- and by the reply
abbrev pub committed_of : Reply → Committed
committed_of reply = committed_for (kind_of reply)

-- the books are as before where a command has no entry, and else one commit took them on
abbrev pub Goes : {K R : Type 0} → Ghosts K R → K → Reply → Option Entry → K → Type 0
Goes books old answer None new = new ≡ old
Goes books old answer (Some entry) new = books.went old entry (committed_of answer) new

-- the ledger is as before, or the next one after an entry
abbrev pub IsSameOrNext : Ledger → Ledger → Type 0
IsSameOrNext old new = (new ≡ old) ⊎ ((entry : Entry) × (new ≡ next_ledger old entry))

-- the history after the commit of an entry, if there is one
abbrev pub history_with : List Entry → Option Entry → Committed → List Entry
history_with history None result = history
history_with history (Some entry) result = history_after history entry result

-- the book after an entry, if there is one
abbrev pub book_with : Book → Option Entry → Book
book_with book None = book
book_with book (Some entry) = next_book book entry

-- The reply is the answer, and the book is the one after its entry; or the disk failed to keep the
-- entry, and the book is as before.
abbrev pub IsToldAs : Reply → Option Entry → Reply → Book → Book → Type 0
IsToldAs given entry answer old new = ((answer ≡ given) × (new ≡ book_with old entry))
    ⊎ ((answer ≡ reply.Disk old.epoch) × IsSome entry × (new ≡ old))

-- Books answered a command that has these answers, each a reply and an entry or none.
pub record AnswersBy {K R : Type 0} (books : Ghosts K R) (old new : K)
    (Is : Reply → Option Entry → Type 0) (answer : Reply) : Type 0 where
  pub given : Reply
  pub entry : Option Entry
  pub is : Is given entry
  pub sound : IsSoundWith (books.ledger old).network (books.ledger old).book entry
  pub goes : Goes books old answer entry new
  pub told : IsToldAs given entry answer (books.ledger old).book (books.ledger new).book

-- What an admission reserves is a cheapest way to carry the hose over the links that are allowed at
-- a book.
abbrev pub AdmitsCheapest : Network → Book → List Endpoint → Reply → Type 0
AdmitsCheapest network book hose (reply.Admitted id cost at amounts) =
    (set : List Bool) × IsAllowed network (room_of network book) hose set
    × IsCheapest network set hose amounts
AdmitsCheapest network book hose answer = ⊤

-- an admission tells this plan, and this cost
abbrev pub TellsPlan : List ReservedLink → ℕ → Reply → Type 0
TellsPlan plan cost (reply.Admitted id told at amounts) = (amounts ≡ plan) × (told ≡ cost)
TellsPlan plan cost answer = ⊤

-- A customer took a quote that was made at an earlier book. Where its grounds differ between that
-- book and this one, it is stale, and nothing has changed; else its plan is the answer of an
-- admission at this book.
abbrev pub Takes : {K R : Type 0} → Ghosts K R → K → K → Book → List ℕ → Quote → Reply → Type 0
Takes books old new earlier customer quote answer =
    ((¬ HaveEqualGrounds (books.ledger old).network earlier (books.ledger old).book quote.hose)
    × (answer ≡ reply.Stale quote.seen (books.ledger old).book.epoch) × (new ≡ old))
    ⊎ (HaveEqualGrounds (books.ledger old).network earlier (books.ledger old).book quote.hose
    × AnswersBy books old new (IsPlannedAnswer (books.ledger old).network (books.ledger old).book
    customer quote.hose) answer)

-- A command of a customer who holds this was answered by a step at a history, whose entry is sound
-- there, and what the step leads to is the book now.
pub record HasStepped {K R : Type 0} (books : Ghosts K R) (old new : K) (epoch : ℕ)
    (history : List Entry) (customer : List ℕ) (held : Holding) (command : Command)
    (answer : Reply) : Type 0 where
  pub entry : Option Entry
  pub next : List Entry
  pub after : Holding
  pub step : IsStepOf (books.ledger old).network epoch history customer held command answer
      entry next after
  pub sound : IsSoundWith (books.ledger old).network (book_of epoch history) entry
  pub goes : Goes books old answer entry new
  pub book : HasBookOf epoch next (books.ledger new)

-- Books answered a command by a step at each history that they stand for, whatever its customer
-- holds.
abbrev pub StepsAtEach : {K R : Type 0} → Ghosts K R → K → K → List ℕ → Command → Reply → Type 0
StepsAtEach books old new customer command answer = (epoch : ℕ) (history : List Entry)
    (held : Holding) → HasBookOf epoch history (books.ledger old)
    → HasStepped books old new epoch history customer held command answer

-- Books answered a command, whatever it was: their network stays, and they have one entry more or
-- none. They failed to keep one exactly where the reply tells so, and it names what is there.
pub record HaveAnswered {K R : Type 0} (books : Ghosts K R) (old new : K) (answer : Reply)
    : Type 0 where
  pub network : (books.ledger new).network ≡ (books.ledger old).network
  pub ledger : IsSameOrNext (books.ledger old) (books.ledger new)
  pub met : IsMet (books.frame old) (committed_of answer) (books.frame new)
  pub names : NamesPlaces (books.ledger old).network answer

-- the core's book is that of a history, and its quotes are those that are held there
pub record FitsHistory {K R : Type 0} (books : Ghosts K R) (state : State K) (epoch : ℕ)
    (history : List Entry) (holdings : Holdings) : Type 0 where
  pub book : HasBookOf epoch history (books.ledger state.books)
  pub held : (customer : List ℕ) → AreHeld (books.ledger state.books).network epoch history
      (holdings customer) (quotes_of state customer)

-- a core was made of books, and holds no quote
pub record HoldsNothing {K R : Type 0} (ghosts : Ghosts K R) (made_of : K) (state : State K)
    : Type 0 where
  pub books : state.books ≡ made_of
  pub fits : (epoch : ℕ) (history : List Entry) → HasBookOf epoch history (ghosts.ledger made_of)
      → FitsHistory ghosts state epoch history nothing_held

-- A core that fits a history answered a command by a step there, and fits what the step leads to:
-- the history with the step's entry, which is decided there, unless what keeps the book failed.
pub record StepsOn {K R : Type 0} (books : Ghosts K R) (old new : State K) (epoch : ℕ)
    (history : List Entry) (holdings : Holdings) (customer : List ℕ) (command : Command)
    (answer : Reply) : Type 0 where
  pub stepped : HasStepped books old.books new.books epoch history customer (holdings customer)
      command answer
  pub decided : IfSome stepped.entry
      (IsDecidedAt (books.ledger old.books).network (book_of epoch history))
  pub leads : stepped.next ≡ history_with history stepped.entry (committed_of answer)
  pub fits : FitsHistory books new epoch stepped.next
      (with_held holdings customer stepped.after)

-- A core answered a command by a step at each history that it fits.
abbrev pub Steps : {K R : Type 0} → Ghosts K R → State K → State K → List ℕ → Command → Reply
    → Type 0
Steps books old new customer command answer = (epoch : ℕ) (history : List Entry)
    (holdings : Holdings) → FitsHistory books old epoch history holdings
    → StepsOn books old new epoch history holdings customer command answer

-- A core answered a command by such a step, and so have its books answered.
pub record HasAnswered {K R : Type 0} (books : Ghosts K R) (old new : State K) (customer : List ℕ)
    (command : Command) (answer : Reply) : Type 0 where
  pub step : Steps books old new customer command answer
  pub answered : HaveAnswered books old.books new.books answer
