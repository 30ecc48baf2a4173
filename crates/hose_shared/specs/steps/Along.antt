-- Commands that are answered along a history.
use Rattle.std.specs.Prelude.{◌≡◌, ◌⊎◌, ℕ, ◌<◌, ◌≤◌, All, Bool, List, ◌++◌, length, take, slice_get, Option, Some, Result, Ok, Err, ⊤}
use Rattle.hose_graph.specs.Hose.{Endpoint}
use Rattle.hose_graph.specs.Network.{Network}
use Rattle.hose_graph.specs.steps.Naming.{NamesPlaces}
use Rattle.hose_graph.specs.declared.command.Command.{Command}
use Rattle.hose_graph.specs.declared.entry.Entry.{Entry}
use Rattle.hose_graph.specs.declared.entry.Entry.TheVariants.{Admit, Release, Down, Up}
use Rattle.hose_graph.specs.declared.command.Reply.{Reply}
use Rattle.hose_graph.specs.declared.command.Reply.TheVariants.{Memory}
use Rattle.hose_law.specs.Book.{Book}
use Rattle.hose_law.specs.Cheapest.{IsCheapest}
use Rattle.hose_law.specs.Decision.{IsAllowed}
use Rattle.hose_law.specs.History.{IsDecidedAt, book_of}
use Rattle.hose_law.specs.Quotes.{Holding}
use Rattle.hose_law.specs.Room.{room_of}
use Rattle.hose_law.specs.Transcript.{IsPlacedStep}
use Rattle.hose_book.specs.declared.books.Committed.TheVariants.{Disk}
use Rattle.hose_core.specs.steps.Bound.{admission_command}
use Rattle.hose_core.specs.steps.Holding.{AreHeld}
use Rattle.hose_core.specs.steps.Planning.{IsNotAdmitted}
use Rattle.hose_core.specs.steps.Stepping.{committed_of}
use Rattle.hose_core.specs.declared.quotes.Quote.{Quote}
use Rattle.hose_turn.specs.declared.view.Tried.{Tried}
use Rattle.hose_turn.specs.Known.{Known}
use Rattle.hose_shared.specs.Trying.{IsTriedBy}
use Rattle.hose_shared.specs.steps.Sharing.{HasSeenMore, IsSamePass}

-- what an admission reserves is a cheapest way to carry its hose over the links allowed at a book
abbrev pub IsCheapestEntry : Network → Book → Entry → Type 0
IsCheapestEntry network book (Admit customer hose amounts) =
    (set : List Bool) × IsAllowed network (room_of network book) hose set
    × IsCheapest network set hose amounts
IsCheapestEntry network book (Release customer id) = ⊤
IsCheapestEntry network book (Down link) = ⊤
IsCheapestEntry network book (Up link) = ⊤

-- An entry stands at this place of a history. It was decided there, and costs least where it is an
-- admission.
pub record HasEntryAt (network : Network) (history : List Entry) (place : ℕ) : Type 0 where
  pub entry : Entry
  pub there : slice_get history place ≡ Some entry
  pub decided : IsDecidedAt network (book_of 0 (take place history)) entry
  pub cheapest : IsCheapestEntry network (book_of 0 (take place history)) entry

-- A command of a customer who holds this was answered by a step at a place of the history that the
-- pass has seen then, not before what it had seen. The step's entry, if it added one, is the pass's
-- own, and no other that it had not before. So is what was tried there and not entered. Where the
-- disk failed, the pass has met more faults.
pub record StepsAlong (network : Network) (customer : List ℕ) (held : Holding) (command : Command)
    (answer : Reply) (old new : Known) : Type 0 where
  pub place : ℕ
  pub next : ℕ
  pub left : Holding
  pub added : List ℕ
  pub step : IsPlacedStep network 0 new.seen customer held command answer left place next added
  pub entries : All (HasEntryAt network new.seen) added
  pub later : length old.seen ≤ place
  pub same : IsSamePass old new
  pub own : new.own ≡ old.own ++ added
  pub tries : List Tried
  pub tried : new.tried ≡ old.tried ++ tries
  pub asked : All (IsTriedBy network (take place new.seen) customer held command answer) tries
  pub failed : committed_of answer ≡ Disk → old.faults < new.faults

-- A command was answered so, whatever the customer held, with a reply that names what is there.
pub record AnswersAlong (network : Network) (customer : List ℕ) (command : Command)
    (answer : Reply) (old new : Known) : Type 0 where
  pub steps : (held : Holding) → StepsAlong network customer held command answer old new
  pub names : NamesPlaces network answer

-- A command that changes what the customer holds was answered so, and these quotes fit that then.
pub record StepsHolding (network : Network) (customer : List ℕ) (held : Holding) (command : Command)
    (answer : Reply) (old new : Known) (quotes : List (Option Quote)) : Type 0 where
  pub along : StepsAlong network customer held command answer old new
  pub holds : AreHeld network 0 new.seen along.left quotes

-- An admission, which may be bound to a number, has nothing to be entered at a book, or memory was
-- wanting before that was looked at.
abbrev pub IsNotTried : Network → Book → List ℕ → Option ℕ → List Endpoint → Reply → Type 0
IsNotTried network book customer known hose answer =
    (answer ≡ Memory) ⊎ IsNotAdmitted network book customer known hose answer

-- Such an admission was answered by a step along a history, with a reply that names what is there;
-- or its plan went stale, and the hose is still to be admitted.
abbrev pub IsTried : Network → List ℕ → Option ℕ → List Endpoint → Known → Known
    → Result Reply (List Endpoint) → Type 0
IsTried network customer known hose old new (Ok answer) =
    AnswersAlong network customer (admission_command known hose) answer old new
IsTried network customer known hose old new (Err same) = (same ≡ hose) × HasSeenMore old new
