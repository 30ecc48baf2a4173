-- What books answered is a step.
use Rattle.std.proofs.Common.{◌≡◌, ℕ, List, Option, None, Some, IsSome, inl, inr, refl, sym, ap, subst, ◌∙◌}
use Rattle.hose_graph.specs.Network.{Network}
use Rattle.hose_graph.specs.declared.entry.Entry.{Entry}
use Rattle.hose_graph.specs.declared.command.Command.{Command}
use Rattle.hose_graph.specs.declared.command.Reply.{Reply}
use Rattle.hose_graph.specs.declared.command.Reply.TheVariants as reply
use Rattle.hose_law.specs.Answer.{IsAnswer, IsStepOf, with_entry}
use Rattle.hose_law.specs.Book.{Book}
use Rattle.hose_law.specs.History.{book_of, opening_book}
use Rattle.hose_law.specs.steps.History.{IsSoundWith}
use Rattle.hose_law.specs.Quotes.{Holding}
use Rattle.hose_law.proofs.Scripts.{book_after_push}
use Rattle.hose_law.proofs.Steps.{step_of}
use Rattle.hose_book.specs.declared.books.Books.{Ghosts}
use Rattle.hose_core.specs.steps.Stepping.{AnswersBy, Goes, HasStepped, IsToldAs, book_with}

-- the book after an answer's entry is that of the history with it
pub book_with_entry : (epoch : ℕ) (history : List Entry) (entry : Option Entry) → book_with (book_of epoch history) entry ≡ book_of epoch (with_entry history entry)
book_with_entry epoch history None = refl
book_with_entry epoch history (Some entry) = sym (book_after_push (opening_book epoch) history entry)

module _ {K R : Type 0} (books : Ghosts K R) (old new : K) (epoch : ℕ) (history : List Entry) (customer : List ℕ) (held after : Holding) (command : Command) (given answer : Reply) (entry : Option Entry)
    (here : (books.ledger old).book ≡ book_of epoch history)
    (is : IsAnswer (books.ledger old).network epoch history customer held command given entry after)
    (sound : IsSoundWith (books.ledger old).network (books.ledger old).book entry) (goes : Goes books old answer entry new) where
  abbrev network : Network
  network = (books.ledger old).network

  abbrev Stepped : Reply → Type 0
  Stepped told = HasStepped books old new epoch history customer held command told

  sound_here : IsSoundWith network (book_of epoch history) entry
  sound_here = subst (λ (b : Book). IsSoundWith network b entry) here sound

  -- the reply is the answer
  kept : answer ≡ given → (books.ledger new).book ≡ book_with (books.ledger old).book entry → Stepped answer
  kept same book = record {
    entry = entry;
    next = with_entry history entry;
    after = after;
    step = subst (λ (r : Reply). IsStepOf network epoch history customer held command r entry (with_entry history entry) after) (sym same) (step_of network epoch history customer held command given entry after is);
    sound = sound_here;
    goes = goes;
    book = book ∙ ap (λ (b : Book). book_with b entry) here ∙ book_with_entry epoch history entry;
  }

  -- the disk failed to keep the entry
  failed : answer ≡ reply.Disk (books.ledger old).book.epoch → IsSome entry → (books.ledger new).book ≡ (books.ledger old).book → Stepped answer
  failed same some book = record {
    entry = entry;
    next = history;
    after = after;
    step = subst (λ (r : Reply). IsStepOf network epoch history customer held command r entry history after) (sym same) (ap (λ (b : Book). b.epoch) here, some, (given, is), refl);
    sound = sound_here;
    goes = goes;
    book = book ∙ here;
  }

  pub told_stepped : IsToldAs given entry answer (books.ledger old).book (books.ledger new).book → Stepped answer
  told_stepped (inl told) = kept told.0 told.1
  told_stepped (inr told) = failed told.0 told.1 told.2

-- books that answered a command at a history made a step there
pub stepped_by : {K R : Type 0} (books : Ghosts K R) (old new : K) (epoch : ℕ) (history : List Entry) (customer : List ℕ) (held after : Holding) (command : Command) (answer : Reply) (Is : Reply → Option Entry → Type 0)
    → (books.ledger old).book ≡ book_of epoch history
    → ((given : Reply) (entry : Option Entry) → Is given entry → IsAnswer (books.ledger old).network epoch history customer held command given entry after)
    → AnswersBy books old new Is answer → HasStepped books old new epoch history customer held command answer
stepped_by books old new epoch history customer held after command answer Is here answers by =
    told_stepped books old new epoch history customer held after command by.given answer by.entry here (answers by.given by.entry by.is) by.sound by.goes by.told
