-- What becomes of an entry whose hose was planned.
use Rattle.std.proofs.Common.{◌≡◌, ◌+◌, ◌<◌, ◌≤◌, ℕ, Bool, List, Option, None, Some, length, inl, inr, refl, sym, ap, subst, ◌∙◌}
use Rattle.hose_graph.specs.declared.entry.Entry.{Entry}
use Rattle.hose_graph.specs.declared.entry.Entry.TheVariants.{Admit}
use Rattle.hose_graph.specs.declared.command.Reply.{Reply}
use Rattle.hose_graph.specs.declared.command.Reply.TheVariants as reply
use Rattle.hose_graph.specs.Network.{IsNetwork, Network}
use Rattle.hose_law.specs.Answer.{IsPlannedAnswer}
use Rattle.hose_law.specs.Cheapest.{IsCheapest}
use Rattle.hose_law.specs.Decision.{CanBeReserved, IsAllowed, IsPlanned}
use Rattle.hose_law.specs.Room.{room_of}
use Rattle.hose_law.proofs.CanonicalPlans.{planned_sound}
use Rattle.hose_law.proofs.Cheapest.{canonical_cheapest}
use Rattle.hose_law.specs.Book.{Book}
use Rattle.hose_law.specs.History.{IsSoundAt}
use Rattle.hose_graph.specs.Limits.{most_live, most_epoch}
use Rattle.hose_law.specs.Plan.{plan_cost}
use Rattle.hose_book.specs.declared.books.Books.{Ghosts}
use Rattle.hose_book.specs.Ledger.{Ledger}
use Rattle.hose_plan.specs.steps.Planning.{allowed_links}
use Rattle.hose_core.specs.steps.Claiming.{IsPlannedEntry}
use Rattle.hose_core.specs.steps.Holding.{IsMadeAt}
use Rattle.hose_core.specs.declared.quotes.Quote.{Quote}
use Rattle.hose_core.specs.steps.Stepping.{AdmitsCheapest, AnswersBy, Goes, IsToldAs, TellsPlan}
use Rattle.hose_core.proofs.Answering.{answers_entered, answers_without}

module _ {K R : Type 0} (books : Ghosts K R) (old new : K) (customer : List ℕ) (hose plan : List (ℕ × ℕ)) (entry : Entry)
    (planned : IsPlannedEntry (books.ledger old) customer hose plan entry) where
  abbrev ledger : Ledger
  ledger = books.ledger old

  abbrev book : Book
  book = ledger.book

  abbrev Is : Reply → Option Entry → Type 0
  Is = IsPlannedAnswer ledger.network book customer hose

  -- the entry is sound where an epoch and room are left
  pub sound_entry : book.epoch < most_epoch → length book.live < most_live → IsSoundAt ledger.network book entry
  sound_entry epoch room = subst (IsSoundAt ledger.network book) (sym planned.admits) (epoch, room, planned.sound)

  pub spent_answers : (at : ℕ) → at ≡ book.epoch → at ≡ most_epoch → new ≡ old → AnswersBy books old new Is (reply.Spent at)
  spent_answers at here last = answers_without books old new Is (reply.Spent at) (here, sym here ∙ last, (plan, planned.planned))

  pub full_answers : (at : ℕ) → at ≡ book.epoch → book.epoch < most_epoch → most_live ≤ length book.live → new ≡ old → AnswersBy books old new Is (reply.Full at)
  full_answers at here epoch full = answers_without books old new Is (reply.Full at) (here, epoch, full, (plan, planned.planned))

  module _ (epoch : book.epoch < most_epoch) (room : length book.live < most_live) (at cost : ℕ) (here : at ≡ book.epoch) (costs : cost ≡ plan_cost ledger.network plan) where
    abbrev admitted : Reply
    admitted = reply.Admitted (at + 1) cost (at + 1) plan

    is_admitted : Is admitted (Some entry)
    is_admitted = (epoch, room, planned.planned, ap (λ n. n + 1) here, ap (λ n. n + 1) here, costs, planned.admits)

    pub admitted_answers : (answer : Reply) → Goes books old answer (Some entry) new → IsToldAs admitted (Some entry) answer book (books.ledger new).book → AnswersBy books old new Is answer
    admitted_answers answer = answers_entered books old new Is admitted entry answer is_admitted (sound_entry epoch room)

-- what is told where an admission was entered, or the disk failed
pub tells_entered : (id cost at : ℕ) (plan : List (ℕ × ℕ)) (entry : Option Entry) (answer : Reply) (old new : Book) → IsToldAs (reply.Admitted id cost at plan) entry answer old new → TellsPlan plan cost answer
tells_entered id cost at plan entry answer old new (inl told) = subst (TellsPlan plan cost) (sym told.0) (refl, refl)
tells_entered id cost at plan entry answer old new (inr told) = subst (TellsPlan plan cost) (sym told.0) tt

-- the entry of a hose with what was told of its plan is planned
pub told_entry : (ledger : Ledger) (customer : List ℕ) (hose plan told : List (ℕ × ℕ)) → told ≡ plan → IsPlanned ledger.network (room_of ledger.network ledger.book) hose plan
    → CanBeReserved ledger.network (room_of ledger.network ledger.book) hose plan → IsPlannedEntry ledger customer hose told (Admit customer hose plan)
told_entry ledger customer hose plan told same planned sound =
    subst (λ (p : List (ℕ × ℕ)). IsPlannedEntry ledger customer hose p (Admit customer hose plan)) (sym same) (record { admits = refl; planned = planned; sound = sound })

-- a quote that was made at a ledger has the plan of its hose there, which can be reserved
pub made_entry : (ledger : Ledger) → IsNetwork ledger.network → (customer : List ℕ) (quote : Quote) (told : List (ℕ × ℕ)) → told ≡ quote.amounts → IsMadeAt ledger.network ledger.book quote
    → IsPlannedEntry ledger customer quote.hose told (Admit customer quote.hose quote.amounts)
made_entry ledger is customer quote told same made =
    let here = room_of ledger.network ledger.book in
    let set = allowed_links here quote.grounds in
    told_entry ledger customer quote.hose quote.amounts told same (set, made.decision.0) (planned_sound ledger.network is here quote.hose set quote.amounts made.is_hose made.decision.0)

-- What is planned at a book is a cheapest way to carry the hose over the links that are allowed there.
planned_cheapest : (network : Network) → IsNetwork network → (book : Book) (hose plan : List (ℕ × ℕ)) → IsPlanned network (room_of network book) hose plan
    → (set : List Bool) × IsAllowed network (room_of network book) hose set × IsCheapest network set hose plan
planned_cheapest network is _ hose plan planned = (planned.0, planned.1.allowed, canonical_cheapest network is planned.0 hose plan planned.1.is_plan)

module _ {K R : Type 0} (books : Ghosts K R) (old new : K) (customer : List ℕ) (hose : List (ℕ × ℕ)) (is : IsNetwork (books.ledger old).network) where
  abbrev was : Ledger
  was = books.ledger old

  admitted_planned : (id cost at : ℕ) (plan : List (ℕ × ℕ)) (given : Reply) (entry : Option Entry) → reply.Admitted id cost at plan ≡ given → IsPlannedAnswer was.network was.book customer hose given entry
      → IsPlanned was.network (room_of was.network was.book) hose plan
  admitted_planned id cost at plan given None same answer = absurd (subst (λ (r : Reply). IsPlannedAnswer was.network was.book customer hose r None) (sym same) answer)
  admitted_planned id cost at plan given (Some entry) same answer = (subst (λ (r : Reply). IsPlannedAnswer was.network was.book customer hose r (Some entry)) (sym same) answer).2

  -- so is what an answer admits
  pub admits_cheapest : (answer : Reply) → AnswersBy books old new (IsPlannedAnswer was.network was.book customer hose) answer → AdmitsCheapest was.network was.book hose answer
  admits_cheapest (reply.Admitted id cost at plan) by = elim by.told [
    | inl told ↦ planned_cheapest was.network is was.book hose plan (admitted_planned id cost at plan by.given by.entry told.0 by.is)
    | inr told ↦ absurd (cc told.0)
  ]
  admits_cheapest answer by = tt
