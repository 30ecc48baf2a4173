-- An answer makes a step.
use Rattle.std.proofs.Common.{◌≡◌, ◌⊎◌, ℕ, Bool, true, false, List, Option, None, Some, length, take, inl, inr, refl, ap}
use Rattle.hose_graph.specs.Network.{Network}
use Rattle.hose_graph.specs.declared.entry.Entry.{Entry}
use Rattle.hose_graph.specs.declared.command.Command.{Command}
use Rattle.hose_graph.specs.declared.command.Command.TheVariants.{Admit, AdmitAfter, Quote, Take, Release, Show, Vpns as VpnsCommand, Link, Down as DownCommand, Up as UpCommand}
use Rattle.hose_graph.specs.declared.command.Reply.{Reply}
use Rattle.hose_graph.specs.declared.command.Reply.TheVariants.{Admitted, Quoted, Refused, Stale, Full, Spent, Released, NoVpn, TooMany, Shown, Vpns, Newest, Down, Up, Already, Denied, Disk, Memory}
use Rattle.hose_graph.specs.Hose.{Endpoint}
use Rattle.hose_law.specs.Answer.{IsAdmitAnswer, IsAfterAnswer, IsAnswer, IsLinkAnswer, IsOperatorAnswer, IsPlannedAnswer, IsQuoteAnswer, IsReleaseAnswer, IsServiceAnswer, IsShowAnswer, IsStepOf, IsTakeAnswer, IsTakingAnswer, IsVpnsAnswer, with_entry}
use Rattle.hose_law.specs.steps.Answer.{ChangesHeld}
use Rattle.hose_law.specs.Book.{Book}
use Rattle.hose_law.specs.History.{IsDecidedAt, IsSoundAt, book_of}
use Rattle.hose_law.specs.steps.ReplyKind.{kind_of}
use Rattle.hose_law.specs.steps.ReplyKind.ReplyKind.{ByTheBook}
use Rattle.hose_law.specs.Quotes.{Holding, HeldQuote, at_number}
use Rattle.hose_law.proofs.Scripts.{answer_decided}

-- ---- an answer is by the book

module _ (network : Network) (book : Book) where
  planned_kind : (customer : List ℕ) (hose : List Endpoint) (reply : Reply) (entry : Option Entry) → IsPlannedAnswer network book customer hose reply entry → kind_of reply ≡ ByTheBook
  planned_kind customer hose (Spent at) None answer = refl
  planned_kind customer hose (Full at) None answer = refl
  planned_kind customer hose (Admitted id cost at amounts) (Some entry) answer = refl
  planned_kind customer hose reply entry answer = absurd answer

  admit_kind : (customer : List ℕ) (hose : List Endpoint) (reply : Reply) (entry : Option Entry) → IsAdmitAnswer network book customer hose reply entry → kind_of reply ≡ ByTheBook
  admit_kind customer hose (Refused at side) None answer = refl
  admit_kind customer hose reply entry answer = planned_kind customer hose reply entry answer

  after_kind : (customer : List ℕ) (known : ℕ) (hose : List Endpoint) (reply : Reply) (entry : Option Entry) → IsAfterAnswer network book customer known hose reply entry → kind_of reply ≡ ByTheBook
  after_kind customer known hose (Newest id at) None answer = refl
  after_kind customer known hose reply entry answer = admit_kind customer hose reply entry answer.1

  quote_kind : (place : ℕ) (hose : List Endpoint) (held after : Holding) (reply : Reply) → IsQuoteAnswer network book place hose held reply after → kind_of reply ≡ ByTheBook
  quote_kind place hose held after (TooMany at) answer = refl
  quote_kind place hose held after (Refused at side) answer = refl
  quote_kind place hose held after (Quoted number cost at amounts) answer = refl
  quote_kind place hose held after reply answer = absurd answer

  taking_kind : (earlier : Book) (customer : List ℕ) (hose : List Endpoint) (reply : Reply) (entry : Option Entry) → IsTakingAnswer network earlier book customer hose reply entry → kind_of reply ≡ ByTheBook
  taking_kind earlier customer hose (Stale seen now) None answer = refl
  taking_kind earlier customer hose reply entry answer = planned_kind customer hose reply entry answer.1

  release_kind : (customer : List ℕ) (id : ℕ) (reply : Reply) (entry : Option Entry) → IsReleaseAnswer book customer id reply entry → kind_of reply ≡ ByTheBook
  release_kind customer id (NoVpn told at) None answer = refl
  release_kind customer id (Spent at) None answer = refl
  release_kind customer id (Released told at) (Some entry) answer = refl
  release_kind customer id reply entry answer = absurd answer

  show_kind : (customer : List ℕ) (id : ℕ) (reply : Reply) (entry : Option Entry) → IsShowAnswer network book customer id reply entry → kind_of reply ≡ ByTheBook
  show_kind customer id (NoVpn told at) None answer = refl
  show_kind customer id (Shown told cost at hose amounts) None answer = refl
  show_kind customer id reply entry answer = absurd answer

  vpns_kind : (customer : List ℕ) (reply : Reply) (entry : Option Entry) → IsVpnsAnswer book customer reply entry → kind_of reply ≡ ByTheBook
  vpns_kind customer (Vpns at ids) None answer = refl
  vpns_kind customer reply entry answer = absurd answer

  link_kind : (link : ℕ) (reply : Reply) (entry : Option Entry) → IsLinkAnswer book link reply entry → kind_of reply ≡ ByTheBook
  link_kind link reply entry answer = ap kind_of answer.0

  service_kind : (down : Bool) (link : ℕ) (reply : Reply) (entry : Option Entry) → IsServiceAnswer network book down link reply entry → kind_of reply ≡ ByTheBook
  service_kind down link (Already told at) None answer = refl
  service_kind down link (Spent at) None answer = refl
  service_kind true link (Down told at) (Some entry) answer = refl
  service_kind false link (Up told at) (Some entry) answer = refl
  service_kind down link reply entry answer = absurd answer

  operator_kind : (customer : List ℕ) (down : Bool) (link : ℕ) (reply : Reply) (entry : Option Entry) → IsOperatorAnswer network book customer down link reply entry → kind_of reply ≡ ByTheBook
  operator_kind customer down link (Denied at) None answer = refl
  operator_kind customer down link reply entry answer = service_kind down link reply entry answer.1

module _ (network : Network) (epoch : ℕ) (history : List Entry) (customer : List ℕ) (held : Holding) where
  take_kind : (number : ℕ) (found : Option HeldQuote) (reply : Reply) (entry : Option Entry) (after : Holding) → IsTakeAnswer network epoch history customer number held found reply entry after → kind_of reply ≡ ByTheBook
  take_kind number None reply entry after answer = ap kind_of answer.0
  take_kind number (Some quote) reply entry after answer = taking_kind network (book_of epoch history) (book_of epoch (take quote.place history)) customer quote.hose reply entry answer.0

  -- an answer is by the book
  answer_kind : (command : Command) (reply : Reply) (entry : Option Entry) (after : Holding) → IsAnswer network epoch history customer held command reply entry after → kind_of reply ≡ ByTheBook
  answer_kind (Admit hose) reply entry after answer = admit_kind network (book_of epoch history) customer hose reply entry answer.0
  answer_kind (AdmitAfter known hose) reply entry after answer = after_kind network (book_of epoch history) customer known hose reply entry answer.0
  answer_kind (Quote hose) reply entry after answer = quote_kind network (book_of epoch history) (length history) hose held after reply answer.1
  answer_kind (Take number) reply entry after answer = take_kind number (at_number held number) reply entry after answer
  answer_kind (Release id) reply entry after answer = release_kind network (book_of epoch history) customer id reply entry answer.0
  answer_kind (Show id) reply entry after answer = show_kind network (book_of epoch history) customer id reply entry answer.0
  answer_kind VpnsCommand reply entry after answer = vpns_kind network (book_of epoch history) customer reply entry answer.0
  answer_kind (Link link) reply entry after answer = link_kind network (book_of epoch history) link reply entry answer.0
  answer_kind (DownCommand link) reply entry after answer = operator_kind network (book_of epoch history) customer true link reply entry answer.0
  answer_kind (UpCommand link) reply entry after answer = operator_kind network (book_of epoch history) customer false link reply entry answer.0

  -- an answer, with its entry added, is a step
  pub step_of : (command : Command) (reply : Reply) (entry : Option Entry) (after : Holding) → IsAnswer network epoch history customer held command reply entry after
      → IsStepOf network epoch history customer held command reply entry (with_entry history entry) after
  step_of command (Disk at) entry after answer = absurd (cc (answer_kind command (Disk at) entry after answer))
  step_of command Memory entry after answer = absurd (cc (answer_kind command Memory entry after answer))
  step_of command reply entry after answer = (answer, refl)

  -- want of memory: there is no entry, and nothing changes
  pub record IsIdle (reply : Reply) (entry : Option Entry) (next : List Entry) (after : Holding) : Type 0 where
    pub tells : reply ≡ Memory
    pub none : entry ≡ None
    pub stays : next ≡ history
    pub keeps : after ≡ held

  -- an answer, whose entry the history has now, or the disk failed
  pub record IsAnswered (command : Command) (entry : Option Entry) (next : List Entry) (after : Holding) : Type 0 where
    pub given : Reply
    pub is : IsAnswer network epoch history customer held command given entry after
    pub goes : (next ≡ history) ⊎ (next ≡ with_entry history entry)

  -- a step is one or the other
  pub step_cases : (command : Command) (reply : Reply) (entry : Option Entry) (next : List Entry) (after : Holding) → IsStepOf network epoch history customer held command reply entry next after
      → IsIdle reply entry next after ⊎ IsAnswered command entry next after
  step_cases command (Disk at) entry next after step = inr (record { given = step.2.0; is = step.2.1; goes = inl step.3 })
  step_cases command Memory entry next after step = inl (record { tells = refl; none = step.1; stays = step.2; keeps = step.3 })
  step_cases command reply entry next after step = inr (record { given = reply; is = step.0; goes = inr step.1 })

  -- a step without an entry leads nowhere
  pub step_stays : (command : Command) (reply : Reply) (next : List Entry) (after : Holding) → IsStepOf network epoch history customer held command reply None next after → next ≡ history
  step_stays command reply next after step = at (step_cases command reply None next after step)
    where
      at : IsIdle reply None next after ⊎ IsAnswered command None next after → next ≡ history
      at (inl idle) = idle.stays
      at (inr answered) = elim answered.goes [
        | inl same ↦ same
        | inr same ↦ same
      ]

  -- the sound entry of a step is decided
  pub step_decided : (command : Command) (reply : Reply) (entry : Entry) (next : List Entry) (after : Holding) → IsStepOf network epoch history customer held command reply (Some entry) next after
      → IsSoundAt network (book_of epoch history) entry → IsDecidedAt network (book_of epoch history) entry
  step_decided command reply entry next after step sound = at (step_cases command reply (Some entry) next after step)
    where
      at : IsIdle reply (Some entry) next after ⊎ IsAnswered command (Some entry) next after → IsDecidedAt network (book_of epoch history) entry
      at (inl idle) = absurd (cc idle.none)
      at (inr answered) = answer_decided network epoch history customer held after command answered.given entry sound answered.is

  -- only a quote and a take change what is held
  pub step_keeps : (command : Command) (reply : Reply) (entry : Option Entry) (next : List Entry) (after : Holding) → ¬ ChangesHeld command → IsStepOf network epoch history customer held command reply entry next after → after ≡ held
  step_keeps command reply entry next after others step = at (step_cases command reply entry next after step)
    where
      answer_keeps : (command : Command) (reply : Reply) → ¬ ChangesHeld command → IsAnswer network epoch history customer held command reply entry after → after ≡ held
      answer_keeps (Quote hose) reply others answer = absurd (others tt)
      answer_keeps (Take number) reply others answer = absurd (others tt)
      answer_keeps command reply others answer = answer.1

      at : IsIdle reply entry next after ⊎ IsAnswered command entry next after → after ≡ held
      at (inl idle) = idle.keeps
      at (inr answered) = answer_keeps command answered.given others answered.is
