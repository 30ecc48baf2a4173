-- Admissions that may be bound: what is answered without an entry, and a turn in which a plan was taken.
use Rattle.std.proofs.Common.{◌≡◌, ℕ, All, Bool, List, [], ◌∷◌, ◌++◌, Option, None, Some, MatchResult, Result, Ok, Err, length, inl, inr, refl, sym, ap, subst, ◌∙◌, append-nil}
use Rattle.std.proofs.lemmas.List.Elements.{All-head}
use Rattle.hose_graph.specs.Hose.{Endpoint}
use Rattle.hose_graph.specs.steps.Naming.{NamesPlaces}
use Rattle.hose_graph.specs.Network.{Network}
use Rattle.hose_graph.specs.declared.command.Command.{Command}
use Rattle.hose_graph.specs.declared.command.Command.TheVariants as command
use Rattle.hose_graph.specs.declared.entry.Entry.{Entry}
use Rattle.hose_graph.specs.declared.command.Reply.{Reply}
use Rattle.hose_graph.specs.declared.command.Reply.TheVariants as reply
use Rattle.hose_law.specs.Answer.{IsStepOf, MayWantMemory}
use Rattle.hose_law.specs.Book.{Book, loads_of}
use Rattle.hose_law.specs.History.{book_of}
use Rattle.hose_law.specs.Quotes.{Holding, none_held}
use Rattle.hose_law.specs.Room.{first_links}
use Rattle.hose_book.specs.declared.books.Committed.TheVariants.{Done}
use Rattle.hose_core.specs.steps.Bound.{HasNewest, admission_command}
use Rattle.hose_core.specs.steps.Planning.{AdmitsAtOnce, IsNotPlanned, IsPlannedFor}
use Rattle.hose_core.specs.steps.Stepping.{committed_of}
use Rattle.hose_core.specs.declared.quotes.Quote.{Quote}
use Rattle.hose_core.proofs.Decided.{not_admitted_done, not_admitted_names, not_admitted_step}
use Rattle.hose_disk.specs.declared.disk.Disk.{Ghosts}
use Rattle.hose_store.specs.steps.Commit.{store_books}
use Rattle.hose_store.specs.steps.Store.{KeptStore}
use Rattle.hose_turn.specs.declared.view.Tried.{Tried}
use Rattle.hose_turn.specs.Known.{Known}
use Rattle.hose_shared.specs.Trying.{IsTriedBy}
use Rattle.hose_shared.specs.steps.Along.{IsNotTried}
use Rattle.hose_shared.specs.steps.Sharing.{HasSeenMore}
use Rattle.hose_shared.specs.steps.Turns.{AnswersTurn, BeginsTurn, StepsAt, place_of}
use Rattle.hose_shared.proofs.Entries.{admit_turn}
use Rattle.hose_shared.proofs.Turned.{none_joined, reads_turn}

-- ---- without an entry

-- want of memory comes first, bound or not
bound_wants : (book : Book) (customer : List ℕ) (held : Holding) (known : Option ℕ) (hose : List Endpoint) → MayWantMemory book customer held (admission_command known hose)
bound_wants book customer held None hose = tt
bound_wants book customer held (Some known) hose = tt

module _ (network : Network) (seen : List Entry) (customer : List ℕ) (known : Option ℕ) (hose : List Endpoint) where
  pub memory_step : (held : Holding) → IsStepOf network 0 seen customer held (admission_command known hose) reply.Memory None seen held
  memory_step held = (bound_wants (book_of 0 seen) customer held known hose, refl, refl, refl)

  pub untried_step : (answer : Reply) (held : Holding) → IsNotTried network (book_of 0 seen) customer known hose answer → IsStepOf network 0 seen customer held (admission_command known hose) answer None seen held
  untried_step answer held (inl is) = subst (λ (r : Reply). IsStepOf network 0 seen customer held (admission_command known hose) r None seen held) (sym is) (memory_step held)
  untried_step answer held (inr none) = not_admitted_step network 0 seen customer held known hose answer none

  pub untried_done : (answer : Reply) → IsNotTried network (book_of 0 seen) customer known hose answer → committed_of answer ≡ Done
  untried_done answer (inl is) = ap committed_of is
  untried_done answer (inr none) = not_admitted_done network (book_of 0 seen) customer known hose answer none

  pub untried_names : (answer : Reply) → IsNotTried network (book_of 0 seen) customer known hose answer → NamesPlaces network answer
  untried_names answer (inl is) = subst (NamesPlaces network) (sym is) tt
  untried_names answer (inr none) = not_admitted_names network (book_of 0 seen) customer known hose answer none

-- what is bound to nothing is not planned
pub unbound : (network : Network) (book : Book) (customer : List ℕ) (hose : List Endpoint) (answer : Reply) → IsNotTried network book customer None hose answer → IsNotPlanned network book hose answer
unbound network book customer hose answer (inl is) = subst (IsNotPlanned network book hose) (sym is) tt
unbound network book customer hose answer (inr (inl tells)) = absurd tells
unbound network book customer hose answer (inr (inr none)) = none.1

-- what was planned over the links in service of a book and beside its loads was so at that book
pub planned_at : (top network : Network) (book : Book) (service : List Bool) (loads : List ℕ) (epoch : ℕ) (hose : List Endpoint) (result : Result Quote Reply) → top ≡ network → service ≡ first_links network book → loads ≡ loads_of network book → epoch ≡ book.epoch
    → ((book : Book) → service ≡ first_links top book → loads ≡ loads_of top book → epoch ≡ book.epoch → MatchResult result (IsPlannedFor top book hose) (IsNotPlanned top book hose))
    → MatchResult result (IsPlannedFor network book hose) (IsNotPlanned network book hose)
planned_at top network book service loads epoch hose result same served loaded here plans = subst (λ (n : Network). MatchResult result (IsPlannedFor n book hose) (IsNotPlanned n book hose)) same
    (plans book (served ∙ ap (λ (n : Network). first_links n book) (sym same)) (loaded ∙ ap (λ (n : Network). loads_of n book) (sym same)) here)

-- what was planned where the number is that of the newest VPN
pub planned_bound : (network : Network) (book : Book) (customer : List ℕ) (known : Option ℕ) (hose : List Endpoint) (result : Result Quote Reply) → HasNewest book customer known
    → MatchResult result (IsPlannedFor network book hose) (IsNotPlanned network book hose) → MatchResult result (IsPlannedFor network book hose) (IsNotTried network book customer known hose)
planned_bound network book customer known hose (Ok quote) newest planned = planned
planned_bound network book customer known hose (Err answer) newest none = inr (inr (newest, none))

-- ---- in a turn

-- of what holds of nothing there is none
none_of : (P : Tried → Type 0) (tries : List Tried) → ((one : Tried) → P one → ⊥) → All P tries → tries ≡ []
none_of P [] never all = refl
none_of P (one ∷ tries) never all = absurd (never one (All-head P one tries all))

-- want of memory adds nothing of the pass's own
pub idle_more : (network : Network) (history : List Entry) (customer : List ℕ) (held : Holding) (asked : Command) (old new : Known) → StepsAt network customer held asked reply.Memory history old new → HasSeenMore old new
idle_more network history customer held asked old new at =
    let none = none_joined history at.joined (ap length at.step.2) in
    let idle = none_of (IsTriedBy network history customer held asked reply.Memory) at.tries (λ one by. cc by.step.1) at.asked in
    record { same = at.same; own = at.own ∙ ap (λ (joined : Option Entry). old.own ++ place_of history joined) none ∙ append-nil old.own; tried = at.tried ∙ ap (λ (tries : List Tried). old.tried ++ tries) idle ∙ append-nil old.tried }

module _ {D : Type 0} {disk : Ghosts D} {Begins : List Entry → KeptStore D → Type 0} {known : Known} {tries : List Tried} {count at : ℕ} {old was new : KeptStore D} (begun : BeginsTurn disk Begins known tries count at was) (same : old ≡ was)
    (customer : List ℕ) (bound : Option ℕ) (hose : List Endpoint) where
  -- a turn that leaves the store as it was is one of an admission that wants memory
  pub idle_turn : new ≡ old → AnswersTurn disk known.seen was new None customer none_held (command.Admit hose) reply.Memory
  idle_turn stays = reads_turn begun same (stays ∙ same) customer none_held (command.Admit hose)
      (λ epoch history held here. record { entry = None; next = history; after = held; step = (tt, refl, refl, refl); sound = tt; goes = refl; book = here }) refl

  -- a turn in which a plan was taken
  pub claimed_turn : (told : Option Entry) (entry : Entry) → told ≡ Some entry → (held : Holding) (answer : Reply) → AdmitsAtOnce (store_books disk) old new customer (record { known = bound; hose = hose }) answer (Some entry)
      → AnswersTurn disk known.seen was new told customer held (admission_command bound hose) answer
  claimed_turn told entry is held answer admits = subst (λ (t : Option Entry). AnswersTurn disk known.seen was new t customer held (admission_command bound hose) answer) (sym is)
      (admit_turn begun same admits.answered (Some entry) customer held (record { known = bound; hose = hose }) admits)
