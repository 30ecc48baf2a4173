-- What was decided of a hose at a ledger, and what becomes of it.
use Rattle.std.proofs.Common.{◌≡◌, ◌≢◌, ◌∙◌, ℕ, Bool, List, Option, None, Some, IfNone, IfSome, MatchResult, Result, inl, inr, refl, ap, subst}
use Rattle.hose_graph.specs.Hose.{IsHose}
use Rattle.hose_graph.specs.steps.Naming.{NamesPlaces}
use Rattle.hose_graph.specs.Network.{IsNetwork, Network}
use Rattle.hose_graph.specs.declared.entry.Entry.{Entry}
use Rattle.hose_graph.specs.declared.entry.Entry.TheVariants.{Admit}
use Rattle.hose_graph.specs.declared.command.Reply.{Reply}
use Rattle.hose_graph.specs.declared.command.Reply.TheVariants as reply
use Rattle.hose_law.specs.Answer.{IsAdmitAnswer, IsAfterAnswer, IsAnswer, IsNewest, IsPlannedAnswer, IsStepOf, MayWantMemory}
use Rattle.hose_law.specs.Book.{Book, loads_of}
use Rattle.hose_law.specs.Decision.{IsRefused}
use Rattle.hose_law.specs.History.{book_of}
use Rattle.hose_law.specs.Quotes.{Holding}
use Rattle.hose_law.specs.Room.{Room, first_links, room_of}
use Rattle.hose_law.proofs.Bounds.{reserved_ranges}
use Rattle.hose_plan.specs.steps.Planning.{IsDecision, IsSoundDecision, room_beside}
use Rattle.hose_plan.specs.declared.decision.Grounds.{Grounds}
use Rattle.hose_plan.specs.declared.decision.Decision.{Decision}
use Rattle.hose_plan.specs.declared.decision.Decision.TheVariants.{Plan}
use Rattle.hose_book.specs.declared.books.Books.{Ghosts}
use Rattle.hose_book.specs.declared.books.Committed.TheVariants.{Done}
use Rattle.hose_book.specs.Ledger.{Ledger}
use Rattle.hose_core.specs.steps.Bound.{HasNewest, TellsNewest, admission_command}
use Rattle.hose_core.specs.steps.Holding.{IsMadeAt}
use Rattle.hose_core.specs.steps.Planning.{AdmitsAtOnce, EntersPlan, IsNotAdmitted, IsNotPlanned, IsPlannedFor}
use Rattle.hose_core.specs.declared.admitting.Admission.{Admission}
use Rattle.hose_core.specs.declared.quotes.Quote.{Quote}
use Rattle.hose_core.specs.steps.Stepping.{AdmitsCheapest, AnswersBy, HasStepped, TellsPlan, committed_of}
use Rattle.hose_core.proofs.Answering.{answered_same, answers_without}
use Rattle.hose_core.proofs.Stepped.{stepped_by}
use Rattle.hose_core.proofs.Told.{told_step}

-- ---- where nothing was planned

-- a reply that nothing was planned names what is there
pub unplanned_names : (network : Network) (book : Book) (hose : List (ℕ × ℕ)) (answer : Reply) → IsNotPlanned network book hose answer → NamesPlaces network answer
unplanned_names _ book hose reply.Memory is = tt
unplanned_names _ book hose (reply.Refused at side) is = is.2
unplanned_names _ book hose answer is = absurd is

-- and no entry of its was committed
pub unplanned_done : (network : Network) (book : Book) (hose : List (ℕ × ℕ)) (answer : Reply) → IsNotPlanned network book hose answer → committed_of answer ≡ Done
unplanned_done _ book hose reply.Memory is = refl
unplanned_done _ book hose (reply.Refused at side) is = refl
unplanned_done _ book hose answer is = absurd is

-- ---- an admission at once

-- a hose that has a plan is answered so
admit_of : (network : Network) (book : Book) (customer : List ℕ) (hose : List (ℕ × ℕ)) (given : Reply) (entry : Option Entry) → IsPlannedAnswer network book customer hose given entry → IsAdmitAnswer network book customer hose given entry
admit_of network book customer hose (reply.Spent at) None answer = answer
admit_of network book customer hose (reply.Full at) None answer = answer
admit_of network book customer hose (reply.Admitted id cost at amounts) (Some entry) answer = answer
admit_of network book customer hose given entry answer = absurd answer

-- where the VPN that is known is the newest, a bound admission is answered as one that is not
after_of : (network : Network) (book : Book) (customer : List ℕ) (known : ℕ) (hose : List (ℕ × ℕ)) (given : Reply) (entry : Option Entry) → IsNewest book customer known → IsAdmitAnswer network book customer hose given entry
    → IsAfterAnswer network book customer known hose given entry
after_of network book customer known hose (reply.Newest id at) None newest answer = absurd answer
after_of network book customer known hose given entry newest answer = (newest, answer)

-- the answer to an admission, bound to a number or to none
abbrev IsBoundAnswer : Network → Book → List ℕ → Option ℕ → List (ℕ × ℕ) → Reply → Option Entry → Type 0
IsBoundAnswer network book customer None hose given entry = IsAdmitAnswer network book customer hose given entry
IsBoundAnswer network book customer (Some known) hose given entry = IsAfterAnswer network book customer known hose given entry

bound_of : (network : Network) (book : Book) (customer : List ℕ) (known : Option ℕ) (hose : List (ℕ × ℕ)) (given : Reply) (entry : Option Entry) → HasNewest book customer known → IsAdmitAnswer network book customer hose given entry
    → IsBoundAnswer network book customer known hose given entry
bound_of network book customer None hose given entry newest answer = answer
bound_of network book customer (Some known) hose given entry newest answer = after_of network book customer known hose given entry newest answer

bound_answer : (network : Network) (epoch : ℕ) (history : List Entry) (customer : List ℕ) (held : Holding) (known : Option ℕ) (hose : List (ℕ × ℕ)) (given : Reply) (entry : Option Entry)
    → IsBoundAnswer network (book_of epoch history) customer known hose given entry → IsAnswer network epoch history customer held (admission_command known hose) given entry held
bound_answer network epoch history customer held None hose given entry answer = (answer, refl)
bound_answer network epoch history customer held (Some known) hose given entry answer = (answer, refl)

-- memory may be wanting at it
bound_wants : (book : Book) (customer : List ℕ) (held : Holding) (known : Option ℕ) (hose : List (ℕ × ℕ)) → MayWantMemory book customer held (admission_command known hose)
bound_wants book customer held None hose = tt
bound_wants book customer held (Some known) hose = tt

module _ {K R : Type 0} (books : Ghosts K R) (old new : K) (epoch : ℕ) (history : List Entry) (customer : List ℕ) (held : Holding) (known : Option ℕ) (hose : List (ℕ × ℕ)) (here : (books.ledger old).book ≡ book_of epoch history) where
  abbrev network : Network
  network = (books.ledger old).network

  abbrev book : Book
  book = (books.ledger old).book

  abbrev Stepped : Reply → Type 0
  Stepped answer = HasStepped books old new epoch history customer held (admission_command known hose) answer

  admits : (Is : Reply → Option Entry → Type 0) → ((given : Reply) (entry : Option Entry) → Is given entry → IsBoundAnswer network book customer known hose given entry) → (answer : Reply)
      → AnswersBy books old new Is answer → Stepped answer
  admits Is are answer by = stepped_by books old new epoch history customer held held (admission_command known hose) answer Is here
      (λ given entry is. bound_answer network epoch history customer held known hose given entry (subst (λ (b : Book). IsBoundAnswer network b customer known hose given entry) here (are given entry is))) by

  -- a planned hose was answered
  pub admit_step : HasNewest book customer known → (answer : Reply) → AnswersBy books old new (IsPlannedAnswer network book customer hose) answer → Stepped answer
  admit_step newest answer by =
      admits (IsPlannedAnswer network book customer hose) (λ given entry is. bound_of network book customer known hose given entry newest (admit_of network book customer hose given entry is)) answer by

  -- a hose was refused
  refuse_step : HasNewest book customer known → (at : ℕ) (side : List ℕ) → at ≡ book.epoch → IsRefused network (room_of network book) hose side → new ≡ old → Stepped (reply.Refused at side)
  refuse_step newest at side is refused same =
      let Is : Reply → Option Entry → Type 0 = IsAdmitAnswer network book customer hose in
      admits Is (λ given entry answer. bound_of network book customer known hose given entry newest answer) (reply.Refused at side) (answers_without books old new Is (reply.Refused at side) (is, refused) same)

-- another VPN is the newest
newest_step : {K R : Type 0} (books : Ghosts K R) (old : K) (epoch : ℕ) (history : List Entry) (customer : List ℕ) (held : Holding) (known : Option ℕ) (hose : List (ℕ × ℕ)) → (books.ledger old).book ≡ book_of epoch history
    → (answer : Reply) → TellsNewest (books.ledger old).book customer known answer → HasStepped books old old epoch history customer held (admission_command known hose) answer
newest_step books old epoch history customer held (Some known) hose here (reply.Newest id at) tells =
    let Is : Reply → Option Entry → Type 0 = IsAfterAnswer (books.ledger old).network (books.ledger old).book customer known hose in
    admits books old old epoch history customer held (Some known) hose here Is (λ given entry answer. answer) (reply.Newest id at) (answers_without books old old Is (reply.Newest id at) tells refl)
newest_step books old epoch history customer held None hose here answer tells = absurd tells
newest_step books old epoch history customer held (Some known) hose here answer tells = absurd tells

-- such a reply names no place
newest_names : (network : Network) (book : Book) (customer : List ℕ) (known : Option ℕ) (answer : Reply) → TellsNewest book customer known answer → NamesPlaces network answer
newest_names _ _ customer (Some known) (reply.Newest id at) tells = tt
newest_names _ _ customer None answer tells = absurd tells
newest_names _ _ customer (Some known) answer tells = absurd tells

-- nor that the disk failed
newest_done : (book : Book) (customer : List ℕ) (known : Option ℕ) (answer : Reply) → TellsNewest book customer known answer → committed_of answer ≡ Done
newest_done _ customer (Some known) (reply.Newest id at) tells = refl
newest_done _ customer None answer tells = absurd tells
newest_done _ customer (Some known) answer tells = absurd tells

-- nor a plan
newest_cheapest : (network : Network) (book : Book) (customer : List ℕ) (known : Option ℕ) (hose : List (ℕ × ℕ)) (answer : Reply) → TellsNewest book customer known answer → AdmitsCheapest network book hose answer
newest_cheapest _ _ customer (Some known) hose (reply.Newest id at) tells = tt
newest_cheapest _ _ customer None hose answer tells = absurd tells
newest_cheapest _ _ customer (Some known) hose answer tells = absurd tells

newest_plan : (book : Book) (customer : List ℕ) (known : Option ℕ) (plan : List (ℕ × ℕ)) (cost : ℕ) (answer : Reply) → TellsNewest book customer known answer → TellsPlan plan cost answer
newest_plan _ customer (Some known) plan cost (reply.Newest id at) tells = tt
newest_plan _ customer None plan cost answer tells = absurd tells
newest_plan _ customer (Some known) plan cost answer tells = absurd tells

-- nor want of memory
pub newest_not_memory : (book : Book) (customer : List ℕ) (known : Option ℕ) (answer : Reply) → TellsNewest book customer known answer → answer ≢ reply.Memory
newest_not_memory _ customer (Some known) (reply.Newest id at) tells same = absurd (cc same)
newest_not_memory _ customer None answer tells same = absurd tells
newest_not_memory _ customer (Some known) answer tells same = absurd tells

module _ {K R : Type 0} (books : Ghosts K R) (old : K) (customer : List ℕ) (known : Option ℕ) (hose : List (ℕ × ℕ)) where
  abbrev was : Ledger
  was = books.ledger old

  abbrev asked : Admission
  asked = record { known = known; hose = hose }

  -- so there is nothing to be entered
  refused_admits : HasNewest was.book customer known → (at : ℕ) (side : List ℕ) → at ≡ was.book.epoch → IsRefused was.network (room_of was.network was.book) hose side → NamesPlaces was.network (reply.Refused at side)
      → AdmitsAtOnce books old old customer asked (reply.Refused at side) None
  refused_admits newest at side is refused names = record {
    step = λ epoch history held here. refuse_step books old old epoch history customer held known hose here newest at side is refused refl;
    cheapest = tt;
    answered = answered_same books old (reply.Refused at side) refl names;
    none = refl;
    enters = tt;
  }

  -- nor where memory was wanting
  starved_admits : AdmitsAtOnce books old old customer asked reply.Memory None
  starved_admits = record {
    step = λ epoch history held here. told_step books old epoch history customer held here (admission_command known hose) reply.Memory (bound_wants (book_of epoch history) customer held known hose, refl, refl, refl);
    cheapest = tt;
    answered = answered_same books old reply.Memory refl tt;
    none = refl;
    enters = tt;
  }

  -- nor where another VPN is the newest, whatever was to be entered
  pub newest_admits : (answer : Reply) → TellsNewest was.book customer known answer → (entry : Option Entry) → IfSome entry (EntersPlan customer hose answer) → AdmitsAtOnce books old old customer asked answer entry
  newest_admits answer tells entry enters = record {
    step = λ epoch history held here. newest_step books old epoch history customer held known hose here answer tells;
    cheapest = newest_cheapest was.network was.book customer known hose answer tells;
    answered = answered_same books old answer (newest_done was.book customer known answer tells) (newest_names was.network was.book customer known answer tells);
    none = same_where_none entry;
    enters = enters;
  }
    where
      same_where_none : (entry : Option Entry) → IfNone entry (old ≡ old)
      same_where_none None = refl
      same_where_none (Some entry) = tt

  -- so where nothing was planned
  unplanned : HasNewest was.book customer known → (answer : Reply) → IsNotPlanned was.network was.book hose answer → AdmitsAtOnce books old old customer asked answer None
  unplanned newest reply.Memory none = starved_admits
  unplanned newest (reply.Refused at side) none = refused_admits newest at side none.0 none.1 none.2
  unplanned newest answer none = absurd none

  pub unplanned_admits : (answer : Reply) → IsNotAdmitted was.network was.book customer known hose answer → AdmitsAtOnce books old old customer asked answer None
  unplanned_admits answer (inl tells) = newest_admits answer tells None tt
  unplanned_admits answer (inr none) = unplanned none.0 answer none.1

  -- the entry of a plan, which a reply that another VPN is the newest does not tell
  pub enters_newest : (plan : List (ℕ × ℕ)) (cost : ℕ) (answer : Reply) → TellsNewest was.book customer known answer → (entry : Entry) → entry ≡ Admit customer hose plan → EntersPlan customer hose answer entry
  enters_newest plan cost answer tells entry is = record { plan = plan; cost = cost; tells = newest_plan was.book customer known plan cost answer tells; enters = is }

-- A step at all that was seen, where an admission has nothing to be entered.
pub not_admitted_step : (network : Network) (epoch : ℕ) (history : List Entry) (customer : List ℕ) (held : Holding) (known : Option ℕ) (hose : List (ℕ × ℕ)) (answer : Reply) → IsNotAdmitted network (book_of epoch history) customer known hose answer
    → IsStepOf network epoch history customer held (admission_command known hose) answer None history held
not_admitted_step _ epoch history customer held (Some known) hose (reply.Newest id at) (inl tells) = ((tells, refl), refl)
not_admitted_step _ epoch history customer held None hose answer (inl tells) = absurd tells
not_admitted_step _ epoch history customer held (Some known) hose answer (inl tells) = absurd tells
not_admitted_step _ epoch history customer held None hose reply.Memory (inr none) = (tt, refl, refl, refl)
not_admitted_step _ epoch history customer held None hose (reply.Refused at side) (inr none) = (((none.1.0, none.1.1), refl), refl)
not_admitted_step _ epoch history customer held None hose answer (inr none) = absurd none.1
not_admitted_step _ epoch history customer held (Some known) hose reply.Memory (inr none) = (tt, refl, refl, refl)
not_admitted_step _ epoch history customer held (Some known) hose (reply.Refused at side) (inr none) = (((none.0, (none.1.0, none.1.1)), refl), refl)
not_admitted_step _ epoch history customer held (Some known) hose answer (inr none) = absurd none.1

-- its reply names what is there
pub not_admitted_names : (network : Network) (book : Book) (customer : List ℕ) (known : Option ℕ) (hose : List (ℕ × ℕ)) (answer : Reply) → IsNotAdmitted network book customer known hose answer → NamesPlaces network answer
not_admitted_names top here customer known hose answer (inl tells) = newest_names top here customer known answer tells
not_admitted_names top here customer known hose answer (inr none) = unplanned_names top here hose answer none.1

-- and no entry of its was committed
pub not_admitted_done : (network : Network) (book : Book) (customer : List ℕ) (known : Option ℕ) (hose : List (ℕ × ℕ)) (answer : Reply) → IsNotAdmitted network book customer known hose answer → committed_of answer ≡ Done
not_admitted_done _ here customer known hose answer (inl tells) = newest_done here customer known answer tells
not_admitted_done top here customer known hose answer (inr none) = unplanned_done top here hose answer none.1

-- ---- a quote

-- What comes of planning over the links in service of a ledger and beside its loads is so at that ledger.
pub planned_there : (here ledger : Ledger) → here ≡ ledger → (top : Network) (service : List Bool) (loads : List ℕ) (at : ℕ) (hose : List (ℕ × ℕ)) (result : Result Quote Reply) → top ≡ here.network
    → service ≡ first_links here.network here.book → loads ≡ loads_of here.network here.book → at ≡ here.book.epoch
    → ((book : Book) → service ≡ first_links top book → loads ≡ loads_of top book → at ≡ book.epoch → MatchResult result (IsPlannedFor top book hose) (IsNotPlanned top book hose))
    → MatchResult result (IsPlannedFor ledger.network ledger.book hose) (IsNotPlanned ledger.network ledger.book hose)
planned_there here ledger same top service loads at hose result is_top is_service is_loads is_at plans =
    subst (λ (l : Ledger). MatchResult result (IsPlannedFor l.network l.book hose) (IsNotPlanned l.network l.book hose)) same
    (subst (λ (n : Network). (book : Book) → service ≡ first_links n book → loads ≡ loads_of n book → at ≡ book.epoch → MatchResult result (IsPlannedFor n book hose) (IsNotPlanned n book hose)) is_top plans here.book is_service is_loads is_at)

-- a room beside the links in service of a book and its loads is that of the book
pub room_there : (network : Network) (service : List Bool) (loads : List ℕ) (book : Book) → service ≡ first_links network book → loads ≡ loads_of network book → room_beside network service loads ≡ room_of network book
room_there network service loads book served same = ap (λ (s : List Bool). room_beside network s loads) served ∙ ap (room_beside network (first_links network book)) same

-- A plan that was decided over the links in service of a book and beside its loads is a quote that was made there.
pub made_beside : (network : Network) → IsNetwork network → (service : List Bool) (loads : List ℕ) (hose amounts : List (ℕ × ℕ)) (cost epoch : ℕ) (grounds : Grounds) (decision : Decision) → decision ≡ Plan grounds amounts cost → IsHose hose
    → IsDecision network (room_beside network service loads) hose decision → IsSoundDecision network (room_beside network service loads) hose decision
    → (book : Book) → service ≡ first_links network book → loads ≡ loads_of network book → epoch ≡ book.epoch
    → IsMadeAt network book (record { hose = hose; seen = epoch; cost = cost; amounts = amounts; grounds = grounds })
made_beside network is service loads hose amounts cost epoch grounds decision plan is_hose decided sound book served same here =
    let room = room_there network service loads book served same in
    let is_sound = subst (λ (r : Room). IsSoundDecision network r hose (Plan grounds amounts cost)) room (subst (IsSoundDecision network (room_beside network service loads) hose) plan sound) in
    record {
      is_hose = is_hose;
      ranges = reserved_ranges network is (room_of network book).links hose amounts is_hose is_sound.on_tree;
      seen = here;
      decision = subst (λ (r : Room). IsDecision network r hose (Plan grounds amounts cost)) room (subst (IsDecision network (room_beside network service loads) hose) plan decided);
    }
