-- A command is answered by a reply in one way: the reply tells the entry that joins the history, and
-- what the customer holds then.
use Rattle.std.proofs.Common.{◌≡◌, ◌∙◌, ⊎_elim, ℕ, Bool, true, false, List, [], ◌∷◌, Option, None, Some, length, take, refl, sym, ap, subst}
use Rattle.std.specs.Prelude.{IsSome}
use Rattle.std.proofs.lemmas.Bool.{false≢true}
use mathlib.Core.List.{IsPrefix}
use Rattle.hose_graph.specs.Network.{Network}
use Rattle.hose_graph.specs.declared.entry.Entry.{Entry}
use Rattle.hose_graph.specs.declared.entry.Entry.TheVariants.{Admit as AdmitEntry, Release as ReleaseEntry, Down as DownEntry, Up as UpEntry}
use Rattle.hose_graph.specs.declared.command.Command.{Command}
use Rattle.hose_graph.specs.declared.command.Command.TheVariants.{Admit, AdmitAfter, Quote, Take, Release, Show, Vpns as VpnsCommand, Link, Down as DownCommand, Up as UpCommand}
use Rattle.hose_graph.specs.declared.command.Reply.{Reply}
use Rattle.hose_graph.specs.declared.command.Reply.TheVariants.{Admitted, Quoted, Refused, Stale, Full, Spent, Released, NoVpn, TooMany, Shown, Vpns, Newest, Down, Up, Already, Denied, Disk, Memory}
use Rattle.hose_graph.specs.Hose.{Endpoint}
use Rattle.hose_law.specs.Answer.{IsAdmitAnswer, IsAfterAnswer, IsAnswer, IsLinkAnswer, IsOperatorAnswer, IsPlannedAnswer, IsQuoteAnswer, IsReleaseAnswer, IsServiceAnswer, IsShowAnswer, IsStepOf, IsTakeAnswer, IsTakingAnswer, IsVpnsAnswer, with_entry}
use Rattle.hose_law.specs.Book.{Book}
use Rattle.hose_law.specs.History.{book_of}
use Rattle.hose_law.specs.Quotes.{Holding, HeldQuote, at_number, with_number}
use Rattle.hose_law.proofs.Fronts.{prefix_same}
use Rattle.hose_law.proofs.Steps.{step_cases}

-- the entry that a reply to a customer tells, where this hose was asked for
abbrev entry_of : List ℕ → List Endpoint → Reply → Option Entry
entry_of customer hose (Admitted id cost at amounts) = Some (AdmitEntry customer hose amounts)
entry_of customer hose (Released id at) = Some (ReleaseEntry customer id)
entry_of customer hose (Down link at) = Some (DownEntry link)
entry_of customer hose (Up link at) = Some (UpEntry link)
entry_of customer hose reply = None

module _ (network : Network) (book : Book) (customer : List ℕ) where
  planned_entry : (hose : List Endpoint) (reply : Reply) (entry : Option Entry) → IsPlannedAnswer network book customer hose reply entry → entry ≡ entry_of customer hose reply
  planned_entry hose (Spent at) None answer = refl
  planned_entry hose (Full at) None answer = refl
  planned_entry hose (Admitted id cost at amounts) (Some entry) answer = ap Some answer.6
  planned_entry hose reply entry answer = absurd answer

  admit_entry : (hose : List Endpoint) (reply : Reply) (entry : Option Entry) → IsAdmitAnswer network book customer hose reply entry → entry ≡ entry_of customer hose reply
  admit_entry hose (Refused at side) None answer = refl
  admit_entry hose reply entry answer = planned_entry hose reply entry answer

  after_entry : (known : ℕ) (hose : List Endpoint) (reply : Reply) (entry : Option Entry) → IsAfterAnswer network book customer known hose reply entry → entry ≡ entry_of customer hose reply
  after_entry known hose (Newest id at) None answer = refl
  after_entry known hose reply entry answer = admit_entry hose reply entry answer.1

  quote_entry : (place : ℕ) (hose none : List Endpoint) (held after : Holding) (reply : Reply) → IsQuoteAnswer network book place hose held reply after → entry_of customer none reply ≡ None
  quote_entry place hose none held after (TooMany at) answer = refl
  quote_entry place hose none held after (Refused at side) answer = refl
  quote_entry place hose none held after (Quoted number cost at amounts) answer = refl
  quote_entry place hose none held after reply answer = absurd answer

  taking_entry : (earlier : Book) (hose : List Endpoint) (reply : Reply) (entry : Option Entry) → IsTakingAnswer network earlier book customer hose reply entry → entry ≡ entry_of customer hose reply
  taking_entry earlier hose (Stale seen now) None answer = refl
  taking_entry earlier hose reply entry answer = planned_entry hose reply entry answer.1

  release_entry : (id : ℕ) (none : List Endpoint) (reply : Reply) (entry : Option Entry) → IsReleaseAnswer book customer id reply entry → entry ≡ entry_of customer none reply
  release_entry id none (NoVpn told at) None answer = refl
  release_entry id none (Spent at) None answer = refl
  release_entry id none (Released told at) (Some entry) answer = ap Some (answer.4 ∙ ap (ReleaseEntry customer) (sym answer.2))
  release_entry id none reply entry answer = absurd answer

  show_entry : (id : ℕ) (none : List Endpoint) (reply : Reply) (entry : Option Entry) → IsShowAnswer network book customer id reply entry → entry ≡ entry_of customer none reply
  show_entry id none (NoVpn told at) None answer = refl
  show_entry id none (Shown told cost at hose amounts) None answer = refl
  show_entry id none reply entry answer = absurd answer

  vpns_entry : (none : List Endpoint) (reply : Reply) (entry : Option Entry) → IsVpnsAnswer book customer reply entry → entry ≡ entry_of customer none reply
  vpns_entry none (Vpns at ids) None answer = refl
  vpns_entry none reply entry answer = absurd answer

  link_entry : (link : ℕ) (none : List Endpoint) (reply : Reply) (entry : Option Entry) → IsLinkAnswer book link reply entry → entry ≡ entry_of customer none reply
  link_entry link none reply entry answer = answer.1 ∙ ap (entry_of customer none) (sym answer.0)

  service_entry : (down : Bool) (link : ℕ) (none : List Endpoint) (reply : Reply) (entry : Option Entry) → IsServiceAnswer network book down link reply entry → entry ≡ entry_of customer none reply
  service_entry down link none (Already told at) None answer = refl
  service_entry down link none (Spent at) None answer = refl
  service_entry true link none (Down told at) (Some entry) answer = ap Some (answer.4 ∙ ap DownEntry (sym answer.2))
  service_entry false link none (Up told at) (Some entry) answer = ap Some (answer.4 ∙ ap UpEntry (sym answer.2))
  service_entry down link none reply entry answer = absurd answer

  operator_entry : (down : Bool) (link : ℕ) (none : List Endpoint) (reply : Reply) (entry : Option Entry) → IsOperatorAnswer network book customer down link reply entry → entry ≡ entry_of customer none reply
  operator_entry down link none (Denied at) None answer = refl
  operator_entry down link none reply entry answer = service_entry down link none reply entry answer.1

-- the hose that is asked for by a command, of what the customer holds where a plan is taken
abbrev hose_at : Option HeldQuote → List Endpoint
hose_at None = []
hose_at (Some quote) = quote.hose

abbrev hose_of : Holding → Command → List Endpoint
hose_of held (Admit hose) = hose
hose_of held (AdmitAfter known hose) = hose
hose_of held (Take number) = hose_at (at_number held number)
hose_of held command = []

-- what a customer holds after a reply
abbrev taken : Holding → ℕ → Option HeldQuote → Holding
taken held number None = held
taken held number (Some quote) = with_number held number None

abbrev quoted : Holding → ℕ → List Endpoint → Reply → Holding
quoted held place hose (Quoted number cost at amounts) = with_number held number (Some (record { hose = hose; place = place }))
quoted held place hose reply = held

abbrev left_of : Holding → ℕ → Command → Reply → Holding
left_of held place (Quote hose) reply = quoted held place hose reply
left_of held place (Take number) reply = taken held number (at_number held number)
left_of held place command reply = held

module _ (network : Network) (history : List Entry) (customer : List ℕ) (held : Holding) where
  take_entry : (number : ℕ) (found : Option HeldQuote) (reply : Reply) (entry : Option Entry) (after : Holding) → IsTakeAnswer network 0 history customer number held found reply entry after → entry ≡ entry_of customer (hose_at found) reply
  take_entry number None reply entry after answer = answer.1 ∙ sym (ap (entry_of customer []) answer.0)
  take_entry number (Some quote) reply entry after answer = taking_entry network (book_of 0 history) customer (book_of 0 (take quote.place history)) quote.hose reply entry answer.0

  answer_entry : (command : Command) (reply : Reply) (entry : Option Entry) (after : Holding) → IsAnswer network 0 history customer held command reply entry after → entry ≡ entry_of customer (hose_of held command) reply
  answer_entry (Admit hose) reply entry after answer = admit_entry network (book_of 0 history) customer hose reply entry answer.0
  answer_entry (AdmitAfter known hose) reply entry after answer = after_entry network (book_of 0 history) customer known hose reply entry answer.0
  answer_entry (Quote hose) reply entry after answer = answer.0 ∙ sym (quote_entry network (book_of 0 history) customer (length history) hose [] held after reply answer.1)
  answer_entry (Take number) reply entry after answer = take_entry number (at_number held number) reply entry after answer
  answer_entry (Release id) reply entry after answer = release_entry network (book_of 0 history) customer id [] reply entry answer.0
  answer_entry (Show id) reply entry after answer = show_entry network (book_of 0 history) customer id [] reply entry answer.0
  answer_entry VpnsCommand reply entry after answer = vpns_entry network (book_of 0 history) customer [] reply entry answer.0
  answer_entry (Link link) reply entry after answer = link_entry network (book_of 0 history) customer link [] reply entry answer.0
  answer_entry (DownCommand link) reply entry after answer = operator_entry network (book_of 0 history) customer true link [] reply entry answer.0
  answer_entry (UpCommand link) reply entry after answer = operator_entry network (book_of 0 history) customer false link [] reply entry answer.0

  take_left : (number : ℕ) (found : Option HeldQuote) (reply : Reply) (entry : Option Entry) (after : Holding) → IsTakeAnswer network 0 history customer number held found reply entry after → after ≡ taken held number found
  take_left number None reply entry after answer = answer.2
  take_left number (Some quote) reply entry after answer = answer.1

  quote_left : (hose : List Endpoint) (reply : Reply) (after : Holding) → IsQuoteAnswer network (book_of 0 history) (length history) hose held reply after → after ≡ quoted held (length history) hose reply
  quote_left hose (TooMany at) after answer = answer.2
  quote_left hose (Refused at side) after answer = answer.3
  quote_left hose (Quoted number cost at amounts) after answer = answer.4
  quote_left hose reply after answer = absurd answer

  answer_left : (command : Command) (reply : Reply) (entry : Option Entry) (after : Holding) → IsAnswer network 0 history customer held command reply entry after → after ≡ left_of held (length history) command reply
  answer_left (Quote hose) reply entry after answer = quote_left hose reply after answer.1
  answer_left (Take number) reply entry after answer = take_left number (at_number held number) reply entry after answer
  answer_left command reply entry after answer = answer.1

  -- a disk that failed leaves what the customer holds as any answer that has an entry does
  entered_left : (command : Command) (reply : Reply) (entry : Option Entry) (after : Holding) → IsSome entry → IsAnswer network 0 history customer held command reply entry after → after ≡ left_of held (length history) command Memory
  entered_left (Quote hose) reply entry after some answer = absurd (false≢true (subst IsSome answer.0 some))
  entered_left (Take number) reply entry after some answer = take_left number (at_number held number) reply entry after answer
  entered_left command reply entry after some answer = answer.1

  -- ---- steps

  -- what a step comes to
  pub record ComesToOne (next also : List Entry) (after left : Holding) : Type 0 where
    pub next_is : next ≡ also
    pub after_is : after ≡ left

  both_are : (next also one : List Entry) (after left holding : Holding) → next ≡ one → also ≡ one → after ≡ holding → left ≡ holding → ComesToOne next also after left
  both_are next also one after left holding first second third fourth = record { next_is = first ∙ sym second; after_is = third ∙ sym fourth }

  pub one_step : (command : Command) (reply : Reply) (entry other : Option Entry) (next also : List Entry) (after left : Holding) → IsStepOf network 0 history customer held command reply entry next after
      → IsStepOf network 0 history customer held command reply other also left → ComesToOne next also after left
  one_step command (Disk at) entry other next also after left step step' =
      both_are next also history after left (left_of held (length history) command Memory) step.3 step'.3
      (entered_left command step.2.0 entry after step.1 step.2.1) (entered_left command step'.2.0 other left step'.1 step'.2.1)
  one_step command Memory entry other next also after left step step' = both_are next also history after left held step.2 step'.2 step.3 step'.3
  one_step command reply entry other next also after left step step' =
      both_are next also (with_entry history (entry_of customer (hose_of held command) reply)) after left (left_of held (length history) command reply)
      (step.1 ∙ ap (with_entry history) (answer_entry command reply entry after step.0)) (step'.1 ∙ ap (with_entry history) (answer_entry command reply other left step'.0))
      (answer_left command reply entry after step.0) (answer_left command reply other left step'.0)

  front_with : (entry : Option Entry) → IsPrefix history (with_entry history entry)
  front_with None = prefix_same history
  front_with (Some entry) = (entry ∷ [], refl)

  same_front : (next : List Entry) → next ≡ history → IsPrefix history next
  same_front next same = subst (IsPrefix history) (sym same) (prefix_same history)

  pub step_grows : (command : Command) (reply : Reply) (entry : Option Entry) (next : List Entry) (after : Holding) → IsStepOf network 0 history customer held command reply entry next after → IsPrefix history next
  step_grows command reply entry next after step = ⊎_elim
      (λ idle. same_front next idle.stays)
      (λ answered. ⊎_elim (λ same. same_front next same) (λ with_one. subst (IsPrefix history) (sym with_one) (front_with entry)) answered.goes)
      (step_cases network 0 history customer held command reply entry next after step)
