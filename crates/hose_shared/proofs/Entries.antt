-- Which entry joined, and what an admission's take and the replies without an entry are as steps.
use Rattle.std.proofs.Common.{◌≡◌, ◌≢◌, ◌⊎◌, ℕ, Bool, true, false, List, length, take, Option, None, Some, IfSome, IsSome, inl, inr, refl, sym, ap, subst, ◌∙◌, append-nil, arith, ◌≤◌, ◌<◌}
use Rattle.std.specs.Prelude.{[], IfNone, MatchOption, replicate}
use Rattle.std.proofs.lemmas.List.Elements.{All-nil}
use Rattle.std.proofs.lemmas.List.{length-append, length-take-le, take-append-le, take_all}
use mathlib.Core.List.{IsPrefix}
use mathlib.Core.Logic.{dite}
use native.Mathlib.Decide.{dec_le}
use Rattle.hose_graph.specs.Amounts.{ReservedLink}
use Rattle.hose_graph.specs.Hose.{Endpoint}
use Rattle.hose_graph.specs.Limits.{operator}
use Rattle.hose_graph.specs.Network.{Network}
use Rattle.hose_graph.specs.declared.command.Command.{Command}
use Rattle.hose_graph.specs.declared.command.Command.TheVariants as command
use Rattle.hose_graph.specs.declared.entry.Entry.{Entry}
use Rattle.hose_graph.specs.declared.entry.Entry.TheVariants.{Admit, Release}
use Rattle.hose_graph.specs.declared.command.Reply.{Reply}
use Rattle.hose_graph.specs.declared.command.Reply.TheVariants as reply
use Rattle.hose_law.specs.Answer.{IsAdmitAnswer, IsAfterAnswer, IsAnswer, IsOperatorAnswer, IsPlannedAnswer, IsReleaseAnswer, IsStepOf, IsTakeAnswer, IsTakingAnswer}
use Rattle.hose_law.specs.Book.{Book}
use Rattle.hose_law.specs.Decision.{HasFirstFit, HaveEqualGrounds, IsPlanned}
use Rattle.hose_law.specs.History.{book_of}
use Rattle.hose_law.specs.Plan.{plan_cost}
use Rattle.hose_law.specs.steps.Plan.{AreNodes}
use Rattle.hose_law.specs.Quotes.{Holding, HeldQuote, at_number, free_number, with_number}
use Rattle.hose_law.specs.Room.{first_links, room_of, safe_links}
use Rattle.hose_law.specs.steps.Service.{service_entry}
use Rattle.hose_book.specs.declared.books.Committed.{Committed}
use Rattle.hose_book.specs.declared.books.Committed.TheVariants.{Done, Disk}
use Rattle.hose_core.specs.steps.Bound.{admission_command}
use Rattle.hose_core.specs.steps.Holding.{AreHeld, IsMadeAt, IsQuoteOf}
use Rattle.hose_core.specs.steps.Planning.{AdmitsAtOnce, EntersPlan, HasTold, IsNotPlanned, IsPlannedFor}
use Rattle.hose_core.specs.steps.Service.{service_command}
use Rattle.hose_core.specs.steps.Stepping.{HasStepped, HaveAnswered, StepsAtEach, TellsPlan, committed_of}
use Rattle.hose_core.specs.declared.admitting.Admission.{Admission}
use Rattle.hose_core.specs.declared.quotes.Quote.{Quote}
use Rattle.hose_plan.specs.steps.Planning.{allowed_links}
use Rattle.hose_disk.specs.declared.disk.Disk.{Ghosts}
use Rattle.hose_store.specs.steps.Commit.{store_books}
use Rattle.hose_store.specs.steps.Store.{KeptStore}
use Rattle.hose_turn.specs.declared.view.Tried.{Tried}
use Rattle.hose_turn.specs.Known.{Known}
use Rattle.hose_shared.specs.Trying.{IsAlike, IsTriedBy, without_plan}
use Rattle.hose_shared.specs.steps.Along.{StepsAlong, StepsHolding}
use Rattle.hose_shared.specs.steps.Sharing.{HasSeenMore}
use Rattle.hose_shared.specs.steps.Turns.{AnswersTurn, BeginsTurn, joined_of}
use Rattle.hose_law.proofs.Fronts.{prefix_same}
use Rattle.hose_law.proofs.Steps.{step_cases}
use Rattle.hose_law.proofs.Epochs.{epoch_of}
use Rattle.hose_shared.proofs.Passes.{along_of}
use Rattle.hose_shared.proofs.Turned.{answers_turn, told_is}

-- what holds of an entry that was committed holds of the one that joined
joined_is : (P : Entry → Type 0) (entry : Option Entry) (result : Committed) → ((one : Entry) → entry ≡ Some one → result ≡ Done → P one) → IfSome (joined_of entry result) P
joined_is P None Done is = tt
joined_is P (Some entry) Done is = is entry refl refl
joined_is P entry Disk is = tt

module _ (network : Network) (history : List Entry) (customer : List ℕ) (held : Holding) (asked : Command) where
  -- a step whose entry was committed is an answer
  answered : (answer : Reply) (entry : Entry) (next : List Entry) (after : Holding) → committed_of answer ≡ Done → IsStepOf network 0 history customer held asked answer (Some entry) next after
      → IsAnswer network 0 history customer held asked answer (Some entry) after
  answered (reply.Disk at) entry next after done step = absurd (cc done)
  answered reply.Memory entry next after done step = absurd (cc step.1)
  answered answer entry next after done step = step.0

-- what holds of the entry of each answer holds of that of a step, whether it was entered or not
tried_is : (P : Entry → Type 0) (network : Network) (history : List Entry) (customer : List ℕ) (held : Holding) (asked : Command) → ((given : Reply) (entry : Entry) (after : Holding) → IsAnswer network 0 history customer held asked given (Some entry) after → P entry)
    → (answer : Reply) (entry : Option Entry) (next : List Entry) (after : Holding) → IsStepOf network 0 history customer held asked answer entry next after → IfSome entry P
tried_is P network history customer held asked is answer None next after step = tt
tried_is P network history customer held asked is (reply.Disk at) (Some entry) next after step = is step.2.0 entry after step.2.1
tried_is P network history customer held asked is reply.Memory (Some entry) next after step = absurd (cc step.1)
tried_is P network history customer held asked is answer (Some entry) next after step = is answer entry after step.0

-- an entry that is one with another one is like it
alike_of : (told entry : Entry) → entry ≡ told → IsAlike told entry
alike_of told entry same = ap without_plan (sym same)

-- ---- a release

released : (book : Book) (customer : List ℕ) (id : ℕ) (answer : Reply) (entry : Entry) → IsReleaseAnswer book customer id answer (Some entry) → entry ≡ Release customer id
released book customer id (reply.Released told at) entry is = is.4
released book customer id answer entry is = absurd is

pub release_entry : (network : Network) (history : List Entry) (customer : List ℕ) (held : Holding) (id : ℕ) (answer : Reply) (entry : Option Entry) (next : List Entry) (after : Holding)
    → IsStepOf network 0 history customer held (command.Release id) answer entry next after → IfSome (joined_of entry (committed_of answer)) (λ one. one ≡ Release customer id)
release_entry network history customer held id answer entry next after step = joined_is (λ one. one ≡ Release customer id) entry (committed_of answer) (λ one is done.
    released (book_of 0 history) customer id answer one
    (answered network history customer held (command.Release id) answer one next after done (subst (λ (e : Option Entry). IsStepOf network 0 history customer held (command.Release id) answer e next after) is step)).0)

pub release_like : (network : Network) (history : List Entry) (customer : List ℕ) (held : Holding) (id : ℕ) (answer : Reply) (entry : Option Entry) (next : List Entry) (after : Holding)
    → IsStepOf network 0 history customer held (command.Release id) answer entry next after → IfSome entry (IsAlike (Release customer id))
release_like network history customer held id = tried_is (IsAlike (Release customer id)) network history customer held (command.Release id) (λ given one after is. alike_of (Release customer id) one (released (book_of 0 history) customer id given one is.0))

-- ---- an order of the operator

ordered : (network : Network) (book : Book) (customer : List ℕ) (down : Bool) (link : ℕ) (answer : Reply) (entry : Entry) → IsOperatorAnswer network book customer down link answer (Some entry) → entry ≡ service_entry down link
ordered network book customer true link (reply.Down told at) entry is = is.1.4
ordered network book customer false link (reply.Up told at) entry is = is.1.4
ordered network book customer down link answer entry is = absurd is.1

module _ (network : Network) (history : List Entry) (customer : List ℕ) (held : Holding) where
  answer_ordered : (down : Bool) (link : ℕ) (answer : Reply) (entry : Entry) (after : Holding) → IsAnswer network 0 history customer held (service_command down link) answer (Some entry) after → entry ≡ service_entry down link
  answer_ordered true link answer entry after is = ordered network (book_of 0 history) customer true link answer entry is.0
  answer_ordered false link answer entry after is = ordered network (book_of 0 history) customer false link answer entry is.0

  pub order_like : (down : Bool) (link : ℕ) (answer : Reply) (entry : Option Entry) (next : List Entry) (after : Holding) → IsStepOf network 0 history customer held (service_command down link) answer entry next after → IfSome entry (IsAlike (service_entry down link))
  order_like down link = tried_is (IsAlike (service_entry down link)) network history customer held (service_command down link) (λ given one after is. alike_of (service_entry down link) one (answer_ordered down link given one after is))

  pub order_entry : (down : Bool) (link : ℕ) (answer : Reply) (entry : Option Entry) (next : List Entry) (after : Holding) → IsStepOf network 0 history customer held (service_command down link) answer entry next after
      → IfSome (joined_of entry (committed_of answer)) (λ one. one ≡ service_entry down link)
  order_entry down link answer entry next after step = joined_is (λ one. one ≡ service_entry down link) entry (committed_of answer) (λ one is done.
      answer_ordered down link answer one after
      (answered network history customer held (service_command down link) answer one next after done
      (subst (λ (e : Option Entry). IsStepOf network 0 history customer held (service_command down link) answer e next after) is step)))

  -- a customer who is not the operator is denied
  pub order_denied : (down : Bool) (link at : ℕ) → at ≡ (book_of 0 history).epoch → customer ≢ operator → IsStepOf network 0 history customer held (service_command down link) (reply.Denied at) None history held
  order_denied true link at here other = (((here, other), refl), refl)
  order_denied false link at here other = (((here, other), refl), refl)

  -- and where this is the operator, memory may be wanting
  pub order_starved : (down : Bool) (link : ℕ) → customer ≡ operator → IsStepOf network 0 history customer held (service_command down link) reply.Memory None history held
  order_starved true link is = (is, refl, refl, refl)
  order_starved false link is = (is, refl, refl, refl)

-- ---- what was planned

module _ (network : Network) (book : Book) (customer : List ℕ) (hose : List Endpoint) where
  planned_is : (plan : List ReservedLink) (cost : ℕ) (answer : Reply) (entry : Entry) → TellsPlan plan cost answer → IsPlannedAnswer network book customer hose answer (Some entry) → entry ≡ Admit customer hose plan
  planned_is plan cost (reply.Admitted id told at amounts) entry tells is = is.6 ∙ ap (Admit customer hose) tells.0
  planned_is plan cost answer entry tells is = absurd is

  planned_like : (plan : List ReservedLink) (answer : Reply) (entry : Entry) → IsPlannedAnswer network book customer hose answer (Some entry) → IsAlike (Admit customer hose plan) entry
  planned_like plan (reply.Admitted id told at amounts) entry is = ap without_plan (sym is.6)
  planned_like plan answer entry is = absurd is

  -- so is one that is bound, where something is to be entered
  after_admits : (known : ℕ) (answer : Reply) (entry : Entry) → IsAfterAnswer network book customer known hose answer (Some entry) → IsAdmitAnswer network book customer hose answer (Some entry)
  after_admits known (reply.Newest id at) entry is = is.1
  after_admits known answer entry is = is.1

  admit_planned : (answer : Reply) (entry : Entry) → IsAdmitAnswer network book customer hose answer (Some entry) → IsPlannedAnswer network book customer hose answer (Some entry)
  admit_planned (reply.Refused at side) entry is = is
  admit_planned answer entry is = is

  -- the entry of an admission is the one that was to be entered
  entered_is : (answer : Reply) (entry mine : Entry) → EntersPlan customer hose answer mine → IsAdmitAnswer network book customer hose answer (Some entry) → entry ≡ mine
  entered_is answer entry mine enters is = planned_is enters.plan enters.cost answer entry enters.tells (admit_planned answer entry is) ∙ sym enters.enters

-- ---- a take

module _ (network : Network) (earlier book : Book) (customer : List ℕ) (hose : List Endpoint) where
  taking_planned : (answer : Reply) (entry : Entry) → IsTakingAnswer network earlier book customer hose answer (Some entry) → IsPlannedAnswer network book customer hose answer (Some entry)
  taking_planned (reply.Stale seen now) entry is = is.1
  taking_planned answer entry is = is.1

-- ---- an admission

module _ (network : Network) (history : List Entry) (customer : List ℕ) (held : Holding) (hose : List Endpoint) where
  -- an entry is that of an admission, bound to a number or to none
  bound_admits : (bound : Option ℕ) (answer : Reply) (entry : Entry) (after : Holding) → IsAnswer network 0 history customer held (admission_command bound hose) answer (Some entry) after → IsAdmitAnswer network (book_of 0 history) customer hose answer (Some entry)
  bound_admits None answer entry after is = is.0
  bound_admits (Some known) answer entry after is = after_admits network (book_of 0 history) customer hose known answer entry is.0

  pub admit_like : (bound : Option ℕ) (plan : List ReservedLink) (answer : Reply) (entry : Option Entry) (next : List Entry) (after : Holding)
      → IsStepOf network 0 history customer held (admission_command bound hose) answer entry next after → IfSome entry (IsAlike (Admit customer hose plan))
  admit_like bound plan = tried_is (IsAlike (Admit customer hose plan)) network history customer held (admission_command bound hose)
      (λ given one after is. planned_like network (book_of 0 history) customer hose plan given one (admit_planned network (book_of 0 history) customer hose given one (bound_admits bound given one after is)))

  pub admit_entry : (bound : Option ℕ) (answer : Reply) (mine : Entry) (entry : Option Entry) (next : List Entry) (after : Holding) → EntersPlan customer hose answer mine
      → IsStepOf network 0 history customer held (admission_command bound hose) answer entry next after → IfSome (joined_of entry (committed_of answer)) (λ joined. joined ≡ mine)
  admit_entry bound answer mine entry next after enters step = joined_is (λ joined. joined ≡ mine) entry (committed_of answer) (λ joined is done.
      entered_is network (book_of 0 history) customer hose answer joined mine enters (bound_admits bound answer joined after
      (answered network history customer held (admission_command bound hose) answer joined next after done (subst (λ (e : Option Entry). IsStepOf network 0 history customer held (admission_command bound hose) answer e next after) is step))))

-- ---- a take that is stale, or not

-- the decisions on a hose at one book cannot but have the same grounds
grounds_same : (network : Network) (book : Book) (hose : List Endpoint) → (HaveEqualGrounds network book book hose → ⊥) → ⊥
grounds_same network book hose differ =
    let service = first_links network book in
    let no_fit : HasFirstFit network (room_of network book) hose → ⊥ =
    λ fit. differ (record { service = service; fits = true; safe = replicate (length network.links) false; here = (refl, fit, refl); there = (refl, fit, refl) }) in
    differ (record { service = service; fits = false; safe = safe_links (room_of network book) hose; here = (refl, no_fit, refl); there = (refl, no_fit, refl) })

module _ (network : Network) (history : List Entry) (customer : List ℕ) (held : Holding) (number : ℕ) (one : HeldQuote) (there : at_number held number ≡ Some one) where
  abbrev Taken : Reply → Option Entry → List Entry → Holding → Type 0
  Taken answer entry next after = IsStepOf network 0 history customer held (command.Take number) answer entry next after

  abbrev earlier : Book
  earlier = book_of 0 (take one.place history)

  taking : (answer : Reply) (entry : Option Entry) (after : Holding) → IsTakeAnswer network 0 history customer number held (at_number held number) answer entry after
      → IsTakingAnswer network earlier (book_of 0 history) customer one.hose answer entry
  taking answer entry after is = (subst (λ (found : Option HeldQuote). IsTakeAnswer network 0 history customer number held found answer entry after) there is).0

  pub take_entry : (plan : List ReservedLink) (cost : ℕ) (answer : Reply) (entry : Option Entry) (next : List Entry) (after : Holding) → TellsPlan plan cost answer → Taken answer entry next after
      → IfSome (joined_of entry (committed_of answer)) (λ joined. joined ≡ Admit customer one.hose plan)
  take_entry plan cost answer entry next after tells step = joined_is (λ joined. joined ≡ Admit customer one.hose plan) entry (committed_of answer) (λ joined is done.
      planned_is network (book_of 0 history) customer one.hose plan cost answer joined tells
      (taking_planned network earlier (book_of 0 history) customer one.hose answer joined
      (taking answer (Some joined) after (answered network history customer held (command.Take number) answer joined next after done (subst (λ (e : Option Entry). Taken answer e next after) is step)))))

  pub take_like : (plan : List ReservedLink) (answer : Reply) (entry : Option Entry) (next : List Entry) (after : Holding) → Taken answer entry next after → IfSome entry (IsAlike (Admit customer one.hose plan))
  take_like plan = tried_is (IsAlike (Admit customer one.hose plan)) network history customer held (command.Take number)
      (λ given joined after is. planned_like network (book_of 0 history) customer one.hose plan given joined (taking_planned network earlier (book_of 0 history) customer one.hose given joined (taking given (Some joined) after is)))

  -- a quote that is stale at a place was made at an earlier one
  pub stale_later : one.place ≤ length history → (answer : Reply) (seen now : ℕ) (entry : Option Entry) (next : List Entry) (after : Holding) → answer ≡ reply.Stale seen now → Taken answer entry next after → (seen < now) × (now ≡ length history)
  stale_later within answer seen now None next after is step =
      let told = taking (reply.Stale seen now) None after (subst (λ (r : Reply). Taken r None next after) is step).0 in
      let made : seen ≡ one.place = told.0 ∙ epoch_of (take one.place history) ∙ length-take-le one.place history within in
      let here : now ≡ length history = told.1 ∙ epoch_of history in
      let before : seen < now = dite (dec_le now seen)
      (λ later. let whole : take one.place history ≡ history = take_all one.place history (omega (arith, later, made, here)) in
      absurd (grounds_same network (book_of 0 history) one.hose (subst (λ (all : List Entry). HaveEqualGrounds network (book_of 0 all) (book_of 0 history) one.hose → ⊥) whole told.2)))
      (λ earlier. omega arith) in
      (before, here)
  stale_later within answer seen now (Some entry) next after is step = absurd (taking (reply.Stale seen now) (Some entry) after (subst (λ (r : Reply). Taken r (Some entry) next after) is step).0).1

-- ---- what a turn answered, by the command

module _ {D : Type 0} {disk : Ghosts D} {Begins : List Entry → KeptStore D → Type 0} {known : Known} {tries : List Tried} {count at : ℕ} {old was new : KeptStore D} {answer : Reply}
    (begun : BeginsTurn disk Begins known tries count at was) (same : old ≡ was) (answered : HaveAnswered (store_books disk) old new answer) (told : Option Entry) (customer : List ℕ) (held : Holding) where
  abbrev Stepped : Command → Type 0
  Stepped asked = HasStepped (store_books disk) old new 0 known.seen customer held asked answer

  abbrev Turn : Command → Type 0
  Turn asked = AnswersTurn disk known.seen was new told customer held asked answer

  step_of : (asked : Command) → StepsAtEach (store_books disk) old new customer asked answer → Stepped asked
  step_of asked steps = steps 0 known.seen held (ap (λ (s : KeptStore D). s.ledger.book) same ∙ begun.stands.book)

  by_entry : (asked : Command) (entry : Entry) → told ≡ Some entry → (stepped : Stepped asked) → IfSome (joined_of stepped.entry (committed_of answer)) (λ one. one ≡ entry) → IfSome stepped.entry (IsAlike entry) → Turn asked
  by_entry asked entry is stepped of like =
      answers_turn disk known.seen old was new told customer held asked answer same stepped answered.network answered.met (inr (told_is (joined_of stepped.entry (committed_of answer)) told entry is of))
      (subst (λ (t : Option Entry). MatchOption t (new ≡ old) (λ one. IfSome stepped.entry (IsAlike one))) (sym is) like)

  pub release_turn : (id : ℕ) → told ≡ Some (Release customer id) → StepsAtEach (store_books disk) old new customer (command.Release id) answer → Turn (command.Release id)
  release_turn id is steps =
      let stepped = step_of (command.Release id) steps in
      by_entry (command.Release id) (Release customer id) is stepped (release_entry old.ledger.network known.seen customer held id answer stepped.entry stepped.next stepped.after stepped.step)
      (release_like old.ledger.network known.seen customer held id answer stepped.entry stepped.next stepped.after stepped.step)

  pub order_turn : (down : Bool) (link : ℕ) → told ≡ Some (service_entry down link) → customer ≡ operator → StepsAtEach (store_books disk) old new operator (service_command down link) answer → Turn (service_command down link)
  order_turn down link is mine steps =
      let asked = service_command down link in
      let stepped = step_of asked (subst (λ (name : List ℕ). StepsAtEach (store_books disk) old new name asked answer) (sym mine) steps) in
      by_entry asked (service_entry down link) is stepped (order_entry old.ledger.network known.seen customer held down link answer stepped.entry stepped.next stepped.after stepped.step)
      (order_like old.ledger.network known.seen customer held down link answer stepped.entry stepped.next stepped.after stepped.step)

  pub take_turn : (number : ℕ) (one : HeldQuote) (quote : Quote) → at_number held number ≡ Some one → one.hose ≡ quote.hose → told ≡ Some (Admit customer quote.hose quote.amounts) → TellsPlan quote.amounts quote.cost answer
      → Stepped (command.Take number) → Turn (command.Take number)
  take_turn number one quote there hose is tells stepped = by_entry (command.Take number) (Admit customer quote.hose quote.amounts) is stepped
      (subst (λ (ends : List Endpoint). IfSome (joined_of stepped.entry (committed_of answer)) (λ joined. joined ≡ Admit customer ends quote.amounts)) hose
      (take_entry old.ledger.network known.seen customer held number one there quote.amounts quote.cost answer stepped.entry stepped.next stepped.after tells stepped.step))
      (subst (λ (ends : List Endpoint). IfSome stepped.entry (IsAlike (Admit customer ends quote.amounts))) hose
      (take_like old.ledger.network known.seen customer held number one there quote.amounts answer stepped.entry stepped.next stepped.after stepped.step))

  -- an admission may have had no entry, and then the store is as it was
  pub admit_turn : (asks : Admission) → AdmitsAtOnce (store_books disk) old new customer asks answer told → Turn (admission_command asks.known asks.hose)
  admit_turn asks admits = answers_turn disk known.seen old was new told customer held asked answer same stepped answered.network answered.met (joined told admits.none admits.enters) (like told admits.none admits.enters)
    where
      asked : Command
      asked = admission_command asks.known asks.hose

      stepped : Stepped asked
      stepped = step_of asked admits.step

      joined : (told : Option Entry) → IfNone told (new ≡ old) → IfSome told (EntersPlan customer asks.hose answer) → (new ≡ old) ⊎ IfSome (joined_of stepped.entry (committed_of answer)) (λ one. told ≡ Some one)
      joined None none enters = inl none
      joined (Some entry) none enters = inr (told_is (joined_of stepped.entry (committed_of answer)) (Some entry) entry refl
          (admit_entry old.ledger.network known.seen customer held asks.hose asks.known answer entry stepped.entry stepped.next stepped.after enters stepped.step))

      like : (told : Option Entry) → IfNone told (new ≡ old) → IfSome told (EntersPlan customer asks.hose answer) → MatchOption told (new ≡ old) (λ one. IfSome stepped.entry (IsAlike one))
      like None none enters = none
      like (Some entry) none enters = subst (λ (e : Entry). IfSome stepped.entry (IsAlike e)) (sym enters.enters)
          (admit_like old.ledger.network known.seen customer held asks.hose asks.known enters.plan answer stepped.entry stepped.next stepped.after stepped.step)

-- ---- replies without an entry

-- A reply without an entry, at all that the pass has seen then.
pub stays_along : {network : Network} {customer : List ℕ} {held : Holding} {asked : Command} {answer : Reply} {old new : Known} (after : Holding) → HasSeenMore old new → committed_of answer ≡ Done
    → IsStepOf network 0 new.seen customer held asked answer None new.seen after → StepsAlong network customer held asked answer old new
stays_along {network = network} {customer = customer} {held = held} {asked = asked} {answer = answer} {old = old} {new = new} after more done step = along_of network customer held asked answer old new new more (record {
  entry = None;
  joined = None;
  after = after;
  step = step;
  decided = tt;
  cheapest = tt;
  same = record { turn = refl; origin = refl; share = refl; seen = prefix_same new.seen; faults = omega arith; places = more.same.places };
  seen = prefix_same new.seen;
  own = sym (append-nil new.own);
  tries = [];
  tried = sym (append-nil new.tried);
  asked = All-nil (IsTriedBy network new.seen customer held asked answer);
  failed = λ is. absurd (cc (is, done));
})

-- A reply without an entry, with what is held then.
pub stays_holding : {network : Network} {customer : List ℕ} {held : Holding} {asked : Command} {answer : Reply} {old new : Known} {quotes : List (Option Quote)} (after : Holding) → HasSeenMore old new → committed_of answer ≡ Done
    → IsStepOf network 0 new.seen customer held asked answer None new.seen after → AreHeld network 0 new.seen after quotes → StepsHolding network customer held asked answer old new quotes
unfolding stays_along
stays_holding after more done step are = record { along = stays_along after more done step; holds = are }

-- ---- what was planned, or not

module _ (network : Network) (seen : List Entry) (customer : List ℕ) (held : Holding) (hose : List Endpoint) where
  pub unplanned_quote : (answer : Reply) → IsSome (free_number held) → IsNotPlanned network (book_of 0 seen) hose answer → IsStepOf network 0 seen customer held (command.Quote hose) answer None seen held
  unplanned_quote reply.Memory some is = (some, refl, refl, refl)
  unplanned_quote (reply.Refused at side) some is = ((refl, (is.0, some, is.1, refl)), refl)
  unplanned_quote answer some is = absurd is

  -- a plan that was made at all that was seen is a quote of that place
  pub quote_there : (quote : Quote) → IsPlannedFor network (book_of 0 seen) hose quote → IsQuoteOf network 0 seen (record { hose = hose; place = length seen }) quote
  quote_there quote planned = record {
    there = omega arith;
    hose = sym planned.of;
    made = subst (λ (all : List Entry). IsMadeAt network (book_of 0 all) quote) (sym (take_all (length seen) seen (omega arith))) planned.made;
  }

  -- A plan is held under a free number and told, or memory was wanting.
  pub told_quote : (quote : Quote) (number : ℕ) (quotes now : List (Option Quote)) (answer : Reply) → AreHeld network 0 seen held quotes → free_number held ≡ Some number → IsPlannedFor network (book_of 0 seen) hose quote
      → HasTold number quote quotes now answer
      → ((one : HeldQuote) → IsQuoteOf network 0 seen one quote → AreHeld network 0 seen (with_number held number (Some one)) (with_number quotes number (Some quote)))
      → (after : Holding) × IsStepOf network 0 seen customer held (command.Quote hose) answer None seen after × AreHeld network 0 seen after now × (committed_of answer ≡ Done)
  told_quote quote number quotes now reply.Memory are free planned told put = (held, (subst IsSome (sym free) refl, refl, refl, refl), subst (AreHeld network 0 seen held) (sym told) are, refl)
  told_quote quote number quotes now (reply.Quoted given cost at amounts) are free planned (is_number, is_cost, is_at, is_amounts, is_now) put =
      let one : HeldQuote = record { hose = hose; place = length seen } in
      let room = room_of network (book_of 0 seen) in
      let plan : IsPlanned network room hose amounts =
      subst (λ (plan : List ReservedLink). IsPlanned network room hose plan) (sym is_amounts)
      (subst (λ (ends : List Endpoint). IsPlanned network room ends quote.amounts) planned.of (allowed_links room quote.grounds, planned.made.decision.0)) in
      let costs : cost ≡ plan_cost network amounts = is_cost ∙ planned.made.decision.1 ∙ ap (plan_cost network) (sym is_amounts) in (
        with_number held given (Some one),
        ((refl, (is_at ∙ planned.made.seen, free ∙ ap Some (sym is_number), plan, costs, refl)), refl),
        subst (λ (n : ℕ). AreHeld network 0 seen (with_number held n (Some one)) now) (sym is_number) (subst (AreHeld network 0 seen (with_number held number (Some one))) (sym is_now) (put one (quote_there quote planned))),
        refl,
      )
  told_quote quote number quotes now answer are free planned told put = absurd told

module _ (network : Network) (seen : List Entry) (customer : List ℕ) (held : Holding) (number : ℕ) where
  -- nothing stands at the number
  pub no_quote : (at : ℕ) → at ≡ (book_of 0 seen).epoch → at_number held number ≡ None → IsStepOf network 0 seen customer held (command.Take number) (reply.NoQuote number at) None seen held
  no_quote at here none = (subst (λ (found : Option HeldQuote). IsTakeAnswer network 0 seen customer number held found (reply.NoQuote number at) None held) (sym none) (ap (reply.NoQuote number) here, refl, refl), refl)

  taken_by : (one : HeldQuote) → at_number held number ≡ Some one → (given : Reply) (entry : Option Entry) (after : Holding) → IsTakeAnswer network 0 seen customer number held (at_number held number) given entry after → after ≡ with_number held number None
  taken_by one there given entry after is = (subst (λ (found : Option HeldQuote). IsTakeAnswer network 0 seen customer number held found given entry after) there is).1

  -- a take that was answered has used its quote up
  pub taken_after : (one : HeldQuote) → at_number held number ≡ Some one → (answer : Reply) (entry : Option Entry) (next : List Entry) (after : Holding) → answer ≢ reply.Memory
      → IsStepOf network 0 seen customer held (command.Take number) answer entry next after → after ≡ with_number held number None
  taken_after one there answer entry next after told step = elim (step_cases network 0 seen customer held (command.Take number) answer entry next after step) [
    | inl idle ↦ absurd (told idle.tells)
    | inr answered ↦ taken_by one there answered.given entry after answered.is
  ]

-- a quote of a place that was seen is one of that place in all that was seen later
pub seen_quote : (network : Network) (seen later : List Entry) (one : HeldQuote) (quote : Quote) → IsPrefix seen later → IsQuoteOf network 0 seen one quote → IsQuoteOf network 0 later one quote
seen_quote network seen later one quote (rest, same) of = record {
  there = let a = of.there in let b = length-append seen rest in let c = ap length same in omega arith;
  hose = of.hose;
  made = subst (λ (all : List Entry). IsMadeAt network (book_of 0 (take one.place all)) quote) same
      (subst (λ (all : List Entry). IsMadeAt network (book_of 0 all) quote) (sym (take-append-le one.place seen rest of.there)) of.made);
}

-- and so it is in a turn of a pass that has seen more by then
pub quote_in_turn : {D : Type 0} {old was : KeptStore D} {network : Network} {pass known : Known} {one : HeldQuote} {quote : Quote} → old ≡ was → was.ledger.network ≡ network → HasSeenMore pass known
    → IsQuoteOf network 0 pass.seen one quote → IsQuoteOf old.ledger.network 0 known.seen one quote
quote_in_turn {D = D} {network = network} {pass = pass} {known = known} {one = one} {quote = quote} same is more of =
    subst (λ (n : Network). IsQuoteOf n 0 known.seen one quote) (sym (ap (λ (s : KeptStore D). s.ledger.network) same ∙ is)) (seen_quote network pass.seen known.seen one quote more.same.seen of)

-- nodes of a network are those of an equal one
pub nodes_here : (hose : List Endpoint) (network top : Network) → top ≡ network → AreNodes network hose → AreNodes top hose
nodes_here hose network top same are = subst (λ (n : Network). AreNodes n hose) (sym same) are
