-- What becomes of an admission with a plan that was made before: it was answered so, or the plan is stale.
use Rattle.std.proofs.Common.{◌≡◌, ◌≢◌, ◌∙◌, ℕ, true, false, List, Option, None, Some, inl, inr, refl, sym, ap}
use Rattle.std.proofs.lemmas.Bool.{false≢true}
use Rattle.hose_graph.specs.declared.entry.Entry.{Entry}
use Rattle.hose_graph.specs.declared.command.Reply.{Reply}
use Rattle.hose_graph.specs.declared.command.Reply.TheVariants as reply
use Rattle.hose_law.specs.Answer.{IsPlannedAnswer}
use Rattle.hose_law.specs.Book.{Book}
use Rattle.hose_law.specs.Decision.{HaveEqualGrounds}
use Rattle.hose_book.specs.Ledger.{Ledger}
use Rattle.hose_book.specs.declared.books.Books.{Ghosts}
use Rattle.hose_core.specs.steps.Bound.{HasNewest, is_stale}
use Rattle.hose_core.specs.steps.Claiming.{IsClaimOf}
use Rattle.hose_core.specs.steps.Planning.{AdmitsAtOnce}
use Rattle.hose_core.specs.steps.Stepping.{AdmitsCheapest, AnswersBy, HaveAnswered, Takes, TellsPlan}
use Rattle.hose_core.specs.declared.claim.Claim.{Claim}
use Rattle.hose_core.specs.declared.quotes.Quote.{Quote}
use Rattle.hose_core.proofs.Decided.{admit_step}

pub not_stale : (answer : Reply) → ((seen now : ℕ) → answer ≢ reply.Stale seen now) → is_stale answer ≡ false
not_stale (reply.Stale seen now) other = absurd (other seen now refl)
not_stale answer other = refl

module _ {K R : Type 0} (books : Ghosts K R) (old new : K) (customer : List ℕ) (quote : Quote) (earlier : Book) (answer : Reply) (takes : Takes books old new earlier customer quote answer) where
  abbrev was : Ledger
  was = books.ledger old

  abbrev Is : Reply → Option Entry → Type 0
  Is = IsPlannedAnswer was.network was.book customer quote.hose

  planned_fresh : (given : Reply) (entry : Option Entry) → Is given entry → is_stale given ≡ false
  planned_fresh (reply.Spent at) None is = refl
  planned_fresh (reply.Full at) None is = refl
  planned_fresh (reply.Admitted id cost at amounts) (Some entry) is = refl
  planned_fresh given entry is = absurd is

  answered_fresh : AnswersBy books old new Is answer → is_stale answer ≡ false
  answered_fresh by = elim by.told [
    | inl told ↦ ap is_stale told.0 ∙ planned_fresh by.given by.entry by.is
    | inr told ↦ ap is_stale told.0
  ]

  -- a plan that went stale has other grounds, and the books are as they were
  pub stale_differs : is_stale answer ≡ true → (new ≡ old) × (HaveEqualGrounds was.network earlier was.book quote.hose → ⊥)
  stale_differs stale = elim takes [
    | inl differ ↦ (differ.2, differ.0)
    | inr taken ↦ absurd (false≢true (sym (answered_fresh taken.1) ∙ stale))
  ]

  -- and one that did not has its answer
  fresh_answers : is_stale answer ≡ false → AnswersBy books old new Is answer
  fresh_answers fresh = elim takes [
    | inl differ ↦ absurd (false≢true (sym fresh ∙ ap is_stale differ.1))
    | inr taken ↦ taken.1
  ]

  -- which is that of the admission
  pub claimed_admits : (known : Option ℕ) (claim : Claim K R) → HasNewest was.book customer known → IsClaimOf books claim customer quote → is_stale answer ≡ false → AdmitsCheapest was.network was.book quote.hose answer
      → TellsPlan quote.amounts quote.cost answer → HaveAnswered books old new answer → AdmitsAtOnce books old new customer (record { known = known; hose = quote.hose }) answer (Some claim.entry)
  claimed_admits known claim newest of_quote fresh cheapest tells answered = record {
    step = λ epoch history held here. admit_step books old new epoch history customer held known quote.hose here newest answer (fresh_answers fresh);
    cheapest = cheapest;
    answered = answered;
    none = tt;
    enters = record { plan = quote.amounts; cost = quote.cost; tells = tells; enters = of_quote.entry };
  }
