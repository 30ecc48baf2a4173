-- What books answer: without an entry, by one that was entered, or as the disk failed to keep it.
use Rattle.std.proofs.Common.{◌≡◌, ◌∙◌, Option, None, Some, inl, refl, sym, ap, subst}
use Rattle.hose_graph.specs.steps.Naming.{NamesPlaces}
use Rattle.hose_graph.specs.declared.entry.Entry.{Entry}
use Rattle.hose_graph.specs.declared.command.Reply.{Reply}
use Rattle.hose_graph.specs.declared.command.Reply.TheVariants as reply
use Rattle.hose_law.specs.History.{IsSoundAt}
use Rattle.hose_law.specs.steps.ReplyKind.{kind_of}
use Rattle.hose_law.specs.steps.ReplyKind.ReplyKind.{ByTheBook}
use Rattle.hose_book.specs.declared.books.Books.{Ghosts}
use Rattle.hose_book.specs.declared.books.Committed.{Committed}
use Rattle.hose_book.specs.declared.books.Committed.TheVariants.{Done}
use Rattle.hose_book.specs.steps.Commit.{IsMet}
use Rattle.hose_book.specs.Ledger.{Ledger}
use Rattle.hose_core.specs.steps.Stepping.{AnswersBy, Goes, HaveAnswered, IsToldAs, committed_for, committed_of}

module _ {K R : Type 0} (books : Ghosts K R) (old new : K) (Is : Reply → Option Entry → Type 0) where
  abbrev was : Ledger
  was = books.ledger old

  pub answers_without : (given : Reply) → Is given None → new ≡ old → AnswersBy books old new Is given
  answers_without given is same = record {
    given = given;
    entry = None;
    is = is;
    sound = tt;
    goes = same;
    told = inl (refl, ap (λ (k : K). (books.ledger k).book) same);
  }

  -- an entry that is sound was entered, and told so, or the disk failed to keep it
  pub answers_entered : (given : Reply) (entry : Entry) (answer : Reply) → Is given (Some entry) → IsSoundAt was.network was.book entry → Goes books old answer (Some entry) new
      → IsToldAs given (Some entry) answer was.book (books.ledger new).book → AnswersBy books old new Is answer
  answers_entered given entry answer is sound goes told = record { given = given; entry = Some entry; is = is; sound = sound; goes = goes; told = told }

-- ---- whatever was asked

-- books that stay as they are have answered with any reply that names what is there and tells no failure
pub answered_same : {K R : Type 0} (books : Ghosts K R) (old : K) (answer : Reply) → committed_of answer ≡ Done → NamesPlaces (books.ledger old).network answer → HaveAnswered books old old answer
answered_same books old answer done names = record {
  network = refl;
  ledger = inl refl;
  met = subst (λ (result : Committed). IsMet (books.frame old) result (books.frame old)) (sym done) refl;
  names = names;
}

-- a reply by the book tells no failure of the disk, and no want of memory
pub by_the_book : (answer : Reply) → kind_of answer ≡ ByTheBook → committed_of answer ≡ Done
by_the_book answer is = ap committed_for is

pub told_by_the_book : (answer : Reply) → kind_of answer ≡ ByTheBook → answer ≡ reply.Memory → ⊥
told_by_the_book answer is same = absurd (cc (ap kind_of (sym same) ∙ is))
