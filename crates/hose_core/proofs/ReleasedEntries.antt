-- What becomes of a release.
use Rattle.std.proofs.Common.{◌≡◌, ◌+◌, ◌<◌, ℕ, List, Option, Some, refl, sym, ap, subst, ◌∙◌}
use Rattle.hose_graph.specs.declared.entry.Entry.{Entry}
use Rattle.hose_graph.specs.declared.entry.Entry.TheVariants.{Release}
use Rattle.hose_graph.specs.declared.command.Command.TheVariants as command
use Rattle.hose_graph.specs.declared.command.Reply.{Reply}
use Rattle.hose_graph.specs.declared.command.Reply.TheVariants as reply
use Rattle.hose_law.specs.Answer.{IsReleaseAnswer}
use Rattle.hose_law.specs.Book.{Book, HasVpn}
use Rattle.hose_law.specs.History.{IsSoundAt, book_of}
use Rattle.hose_graph.specs.Limits.{most_epoch}
use Rattle.hose_law.specs.Quotes.{Holding}
use Rattle.hose_book.specs.declared.books.Books.{Ghosts}
use Rattle.hose_book.specs.Ledger.{Ledger}
use Rattle.hose_core.specs.steps.Stepping.{AnswersBy, Goes, HasStepped, IsToldAs}
use Rattle.hose_core.proofs.Answering.{answers_entered, answers_without}
use Rattle.hose_core.proofs.Stepped.{stepped_by}

module _ {K R : Type 0} (books : Ghosts K R) (old new : K) (customer : List ℕ) (id : ℕ) (entry : Entry) (releases : entry ≡ Release customer id) where
  abbrev ledger : Ledger
  ledger = books.ledger old

  abbrev book : Book
  book = ledger.book

  abbrev Is : Reply → Option Entry → Type 0
  Is = IsReleaseAnswer book customer id

  abbrev Answers : Reply → Type 0
  Answers = AnswersBy books old new Is

  pub spent_answers : (at : ℕ) → at ≡ book.epoch → HasVpn book customer id → at ≡ most_epoch → new ≡ old → Answers (reply.Spent at)
  spent_answers at here has last = answers_without books old new Is (reply.Spent at) (here, sym here ∙ last, has)

  module _ (told at : ℕ) (tells : told ≡ id) (here : at ≡ book.epoch) (epoch : book.epoch < most_epoch) (has : HasVpn book customer id) where
    abbrev released : Reply
    released = reply.Released told (at + 1)

    is_released : Is released (Some entry)
    is_released = (epoch, has, tells, ap (λ n. n + 1) here, releases)

    -- the entry is sound
    pub sound_at : IsSoundAt ledger.network book entry
    sound_at = subst (IsSoundAt ledger.network book) (sym releases) (epoch, has)

    pub released_answers : (answer : Reply) → Goes books old answer (Some entry) new → IsToldAs released (Some entry) answer book (books.ledger new).book → Answers answer
    released_answers answer = answers_entered books old new Is released entry answer is_released sound_at

  -- and that is a step
  pub release_step : (epoch : ℕ) (history : List Entry) (held : Holding) (answer : Reply) → book ≡ book_of epoch history → Answers answer → HasStepped books old new epoch history customer held (command.Release id) answer
  release_step epoch history held answer here by =
      stepped_by books old new epoch history customer held held (command.Release id) answer Is here
      (λ given more is. (subst (λ (b : Book). IsReleaseAnswer b customer id given more) here is, refl)) by

-- what holds of the same release holds of this one
pub as_released : (Is : List ℕ → ℕ → Type 0) (customer other : List ℕ) (id more : ℕ) → other ≡ customer → more ≡ id → Is other more → Is customer id
as_released Is customer other id more named numbered is = subst (λ (name : List ℕ). Is name id) named (subst (Is other) numbered is)
