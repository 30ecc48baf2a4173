-- What comes of planning a hose at a book: a quote, or a reply; and of holding the quote.
use Rattle.std.specs.Prelude.{◌≡◌, ◌⊎◌, ℕ, IfNone, IfSome, List, Option, Some, ⊤}
use Rattle.hose_graph.specs.Hose.{Endpoint}
use Rattle.hose_graph.specs.steps.Naming.{NamesPlaces}
use Rattle.hose_graph.specs.Network.{Network}
use Rattle.hose_graph.specs.declared.entry.Entry.{Entry}
use Rattle.hose_graph.specs.declared.entry.Entry.TheVariants.{Admit}
use Rattle.hose_graph.specs.declared.command.Reply.{Reply}
use Rattle.hose_graph.specs.declared.command.Reply.TheVariants.{Memory, Quoted, Refused}
use Rattle.hose_graph.specs.Amounts.{ReservedLink}
use Rattle.hose_law.specs.Book.{Book}
use Rattle.hose_law.specs.Decision.{IsRefused}
use Rattle.hose_law.specs.Quotes.{with_number}
use Rattle.hose_law.specs.Room.{room_of}
use Rattle.hose_core.specs.steps.Bound.{HasNewest, TellsNewest, admission_command}
use Rattle.hose_core.specs.steps.Holding.{IsMadeAt}
use Rattle.hose_book.specs.declared.books.Books.{Ghosts}
use Rattle.hose_core.specs.steps.Stepping.{AdmitsCheapest, HaveAnswered, StepsAtEach, TellsPlan}
use Rattle.hose_core.specs.declared.admitting.Admission.{Admission}
use Rattle.hose_core.specs.declared.quotes.Quote.{Quote}

-- the quote is made of the hose at the book
pub record IsPlannedFor (network : Network) (book : Book) (hose : List Endpoint) (quote : Quote) :
    Type 0 where
  pub of : quote.hose ≡ hose
  pub made : IsMadeAt network book quote

-- the hose is refused at the book, or memory was wanting
abbrev pub IsNotPlanned : Network → Book → List Endpoint → Reply → Type 0
IsNotPlanned network book hose Memory = ⊤
IsNotPlanned network book hose (Refused at side) = (at ≡ book.epoch)
    × IsRefused network (room_of network book) hose side
    × NamesPlaces network (Refused at side)
IsNotPlanned network book hose reply = ⊥

-- An admission is answered at a book with nothing to be entered: another VPN is the customer's
-- newest than it is bound to; or else its hose is refused, or memory was wanting.
abbrev pub IsNotAdmitted : Network → Book → List ℕ → Option ℕ → List Endpoint → Reply → Type 0
IsNotAdmitted network book customer known hose reply = TellsNewest book customer known reply
    ⊎ (HasNewest book customer known × IsNotPlanned network book hose reply)

-- the quote is held under a number, and told; or memory was wanting
abbrev pub HasTold : ℕ → Quote → List (Option Quote) → List (Option Quote) → Reply → Type 0
HasTold number quote old new Memory = new ≡ old
HasTold number quote old new (Quoted told cost at amounts) = (told ≡ number)
    × (cost ≡ quote.cost) × (at ≡ quote.seen) × (amounts ≡ quote.amounts)
    × (new ≡ with_number old number (Some quote))
HasTold number quote old new reply = ⊥

-- the entry admits a customer's hose with a plan, which the reply tells where it is an admission
pub record EntersPlan (customer : List ℕ) (hose : List Endpoint) (reply : Reply) (entry : Entry) :
    Type 0 where
  pub plan : List ReservedLink
  pub cost : ℕ
  pub tells : TellsPlan plan cost reply
  pub enters : entry ≡ Admit customer hose plan

-- Books answered an admission at once, bound to a number or to none, by a step at each history that
-- they stand for, and by a cheapest plan. The entry is the one that was to join them, and without
-- one they are as before.
pub record AdmitsAtOnce {K R : Type 0} (books : Ghosts K R) (old new : K) (customer : List ℕ)
    (asked : Admission) (answer : Reply) (entry : Option Entry) : Type 0 where
  pub step : StepsAtEach books old new customer (admission_command asked.known asked.hose) answer
  pub cheapest :
      AdmitsCheapest (books.ledger old).network (books.ledger old).book asked.hose answer
  pub answered : HaveAnswered books old new answer
  pub none : IfNone entry (new ≡ old)
  pub enters : IfSome entry (EntersPlan customer asked.hose answer)
