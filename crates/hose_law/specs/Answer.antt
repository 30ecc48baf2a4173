-- What the sequential book answers to a command, and the steps that this allows.
use Rattle.std.specs.Prelude.{◌≡◌, ◌≢◌, ◌↔◌, Bool, true, false, not, ℕ, ◌+◌, ◌<◌, ◌≤◌, List, [], ◌∷◌, ◌++◌, length, take, None, Some, Option, IsSome, ⊤, Contains}
use Rattle.std.specs.List.Sorted.{IsStrictlyIncreasing}
use Rattle.hose_graph.specs.declared.entry.Entry.{Entry}
use Rattle.hose_graph.specs.declared.entry.Entry.TheVariants.{Admit as AdmitEntry, Release as ReleaseEntry, Down as DownEntry, Up as UpEntry}
use Rattle.hose_graph.specs.declared.command.Command.{Command}
use Rattle.hose_graph.specs.declared.command.Command.TheVariants.{Admit, AdmitAfter, Quote, Take, Release, Show, Vpns as VpnsCommand, Link, Down as DownCommand, Up as UpCommand}
use Rattle.hose_graph.specs.declared.command.Reply.{Reply}
use Rattle.hose_graph.specs.declared.command.Reply.TheVariants.{Disk, Memory, Admitted, Quoted, Refused, Stale, Full, Spent, Released, NoVpn, NoQuote, TooMany, Shown, Vpns, Newest, LinkState, Down, Up, Already, Denied}
use Rattle.hose_graph.specs.declared.entry.Vpn.{Vpn}
use Rattle.hose_graph.specs.Amounts.{ReservedLink}
use Rattle.hose_graph.specs.Hose.{Endpoint}
use Rattle.hose_graph.specs.Limits.{operator, most_live, most_epoch}
use Rattle.hose_graph.specs.Network.{Network}
use Rattle.hose_law.specs.Plan.{plan_cost}
use Rattle.hose_law.specs.Room.{room_of}
use Rattle.hose_law.specs.Book.{Book, IsLiveVpn, HasVpn, load_of}
use Rattle.hose_law.specs.Decision.{HaveEqualGrounds, IsPlanned, IsRefused}
use Rattle.hose_law.specs.History.{book_of}
use Rattle.hose_law.specs.Service.{LinkStands, is_out}
use Rattle.hose_law.specs.Quotes.{Holding, HeldQuote, at_number, free_number, with_number}

-- ---- at a book

-- the hose is planned at a book
abbrev pub HasPlan : Network → Book → List Endpoint → Type 0
HasPlan network book hose =
    (plan : List ReservedLink) × IsPlanned network (room_of network book) hose plan

-- The answer at a book where a customer's hose has a plan, with which it is to be admitted: the
-- first of spent, full that applies, else admitted. The entry is what joins the history.
abbrev pub IsPlannedAnswer : Network → Book → List ℕ → List Endpoint → Reply → Option Entry
    → Type 0
IsPlannedAnswer network book customer hose (Spent at) None =
    (at ≡ book.epoch) × (book.epoch ≡ most_epoch) × HasPlan network book hose
IsPlannedAnswer network book customer hose (Full at) None =
    (at ≡ book.epoch) × (book.epoch < most_epoch) × (most_live ≤ length book.live)
    × HasPlan network book hose
IsPlannedAnswer network book customer hose (Admitted id cost at amounts) (Some entry) =
    (book.epoch < most_epoch) × (length book.live < most_live)
    × IsPlanned network (room_of network book) hose amounts
    × (id ≡ book.epoch + 1) × (at ≡ book.epoch + 1) × (cost ≡ plan_cost network amounts)
    × (entry ≡ AdmitEntry customer hose amounts)
IsPlannedAnswer network book customer hose reply entry = ⊥

-- The answer to an admission at a book: refused where the hose has no plan, else that to a hose
-- with a plan that is to be admitted.
abbrev pub IsAdmitAnswer : Network → Book → List ℕ → List Endpoint → Reply → Option Entry → Type 0
IsAdmitAnswer network book customer hose (Refused at side) None =
    (at ≡ book.epoch) × IsRefused network (room_of network book) hose side
IsAdmitAnswer network book customer hose reply entry =
    IsPlannedAnswer network book customer hose reply entry

-- The number is that of a customer's newest live VPN at a book, which is the greatest one, or 0
-- where the customer has none.
pub record IsNewest (book : Book) (customer : List ℕ) (id : ℕ) : Type 0 where
  pub last : (other : ℕ) → HasVpn book customer other → other ≤ id
  pub live : id ≢ 0 → HasVpn book customer id

-- The answer at a book to an admission that is bound to a number: which VPN is the customer's
-- newest where that is another one, before all else. Where it is this one, that to an admission.
abbrev pub IsAfterAnswer : Network → Book → List ℕ → ℕ → List Endpoint → Reply → Option Entry
    → Type 0
IsAfterAnswer network book customer known hose (Newest id at) None =
    (at ≡ book.epoch) × (id ≢ known) × IsNewest book customer id
IsAfterAnswer network book customer known hose reply entry =
    IsNewest book customer known × IsAdmitAnswer network book customer hose reply entry

-- The answer to a question for a plan at a book, which is that of a place of the history: the first
-- of too many, refused that applies, else quoted under the lowest number at which nothing is held,
-- where the hose and the place are held then.
abbrev pub IsQuoteAnswer : Network → Book → ℕ → List Endpoint → Holding → Reply → Holding → Type 0
IsQuoteAnswer network book place hose held (TooMany at) after =
    (at ≡ book.epoch) × (free_number held ≡ None) × (after ≡ held)
IsQuoteAnswer network book place hose held (Refused at side) after =
    (at ≡ book.epoch) × IsSome (free_number held)
    × IsRefused network (room_of network book) hose side × (after ≡ held)
IsQuoteAnswer network book place hose held (Quoted number cost at amounts) after =
    (at ≡ book.epoch) × (free_number held ≡ Some number)
    × IsPlanned network (room_of network book) hose amounts × (cost ≡ plan_cost network amounts)
    × (after ≡ with_number held number (Some (record { hose = hose; place = place })))
IsQuoteAnswer network book place hose held reply after = ⊥

-- The answer at a book to the taking of a plan that was made at an earlier one: stale where the
-- grounds of its hose differ at the two. Else the hose is planned as it was, and is to be admitted.
abbrev pub IsTakingAnswer : Network → Book → Book → List ℕ → List Endpoint → Reply → Option Entry
    → Type 0
IsTakingAnswer network earlier book customer hose (Stale seen now) None =
    (seen ≡ earlier.epoch) × (now ≡ book.epoch) × (¬ HaveEqualGrounds network earlier book hose)
IsTakingAnswer network earlier book customer hose reply entry =
    HaveEqualGrounds network earlier book hose
    × IsPlannedAnswer network book customer hose reply entry

-- The answer to a release at a book: the first of no VPN, spent that applies, else released. The
-- entry is what joins the history.
abbrev pub IsReleaseAnswer : Book → List ℕ → ℕ → Reply → Option Entry → Type 0
IsReleaseAnswer book customer id (NoVpn told at) None =
    (told ≡ id) × (at ≡ book.epoch) × (¬ HasVpn book customer id)
IsReleaseAnswer book customer id (Spent at) None =
    (at ≡ book.epoch) × (book.epoch ≡ most_epoch) × HasVpn book customer id
IsReleaseAnswer book customer id (Released told at) (Some entry) =
    (book.epoch < most_epoch) × HasVpn book customer id × (told ≡ id) × (at ≡ book.epoch + 1)
    × (entry ≡ ReleaseEntry customer id)
IsReleaseAnswer book customer id reply entry = ⊥

-- the answer to a customer's question what the VPN of a number is: there is none of the customer's,
-- or what it is
abbrev pub IsShowAnswer : Network → Book → List ℕ → ℕ → Reply → Option Entry → Type 0
IsShowAnswer network book customer id (NoVpn told at) None =
    (told ≡ id) × (at ≡ book.epoch) × (¬ HasVpn book customer id)
IsShowAnswer network book customer id (Shown told cost at hose amounts) None =
    (vpn : Vpn) × IsLiveVpn book customer id vpn × (told ≡ id) × (at ≡ book.epoch)
    × (cost ≡ plan_cost network vpn.amounts) × (hose ≡ vpn.hose) × (amounts ≡ vpn.amounts)
IsShowAnswer network book customer id reply entry = ⊥

-- the numbers of a customer's live VPNs at a book, ascending, which is the order of their admission
pub record AreVpnsOf (book : Book) (customer : List ℕ) (ids : List ℕ) : Type 0 where
  pub ascending : IsStrictlyIncreasing ids
  pub exactly : (id : ℕ) → Contains ids id ↔ HasVpn book customer id

-- the answer to a customer's question which VPNs are live: the numbers of the customer's own
abbrev pub IsVpnsAnswer : Book → List ℕ → Reply → Option Entry → Type 0
IsVpnsAnswer book customer (Vpns at ids) None = (at ≡ book.epoch) × AreVpnsOf book customer ids
IsVpnsAnswer book customer reply entry = ⊥

-- what a book tells of a link: what is reserved on it, and whether it is out of service
abbrev pub link_told : Book → ℕ → Reply
link_told book link = LinkState link (load_of book link) (is_out book.out link) book.epoch

-- the answer to the question what a book tells of a link
abbrev pub IsLinkAnswer : Book → ℕ → Reply → Option Entry → Type 0
IsLinkAnswer book link reply entry = (reply ≡ link_told book link) × (entry ≡ None)

-- The answer at a book to the operator's command to take a link out of service, where this is true,
-- or to put it back: the first of already, spent that applies, else down or up. The entry is what
-- joins the history.
abbrev pub IsServiceAnswer : Network → Book → Bool → ℕ → Reply → Option Entry → Type 0
IsServiceAnswer network book down link (Already told at) None =
    (told ≡ link) × (at ≡ book.epoch) × LinkStands network book link down
IsServiceAnswer network book down link (Spent at) None =
    (at ≡ book.epoch) × (book.epoch ≡ most_epoch) × LinkStands network book link (not down)
IsServiceAnswer network book true link (Down told at) (Some entry) =
    (book.epoch < most_epoch) × LinkStands network book link false × (told ≡ link)
    × (at ≡ book.epoch + 1) × (entry ≡ DownEntry link)
IsServiceAnswer network book false link (Up told at) (Some entry) =
    (book.epoch < most_epoch) × LinkStands network book link true × (told ≡ link)
    × (at ≡ book.epoch + 1) × (entry ≡ UpEntry link)
IsServiceAnswer network book down link reply entry = ⊥

-- The answer to a customer's command to take a link out of service, where this is true, or to put
-- it back: denied where the customer is not the operator.
abbrev pub IsOperatorAnswer : Network → Book → List ℕ → Bool → ℕ → Reply → Option Entry → Type 0
IsOperatorAnswer network book customer down link (Denied at) None =
    (at ≡ book.epoch) × (customer ≢ operator)
IsOperatorAnswer network book customer down link reply entry =
    (customer ≡ operator) × IsServiceAnswer network book down link reply entry

-- ---- at a history

-- The answer at a history to the taking of what stands at a number: no quote, or that to the taking
-- of a plan that was made at the quote's place, which is not held any more then.
abbrev pub IsTakeAnswer : Network → ℕ → List Entry → List ℕ → ℕ → Holding → Option HeldQuote → Reply
    → Option Entry → Holding → Type 0
IsTakeAnswer network epoch history customer number held None reply entry after =
    (reply ≡ NoQuote number (book_of epoch history).epoch) × (entry ≡ None) × (after ≡ held)
IsTakeAnswer network epoch history customer number held (Some quote) reply entry after =
    IsTakingAnswer network (book_of epoch (take quote.place history)) (book_of epoch history)
    customer quote.hose reply entry
    × (after ≡ with_number held number None)

-- The answer at a history to a command of a customer who holds this: the reply, the entry that
-- joins the history, if there is one, and what the customer holds after it.
abbrev pub IsAnswer : Network → ℕ → List Entry → List ℕ → Holding → Command → Reply → Option Entry
    → Holding → Type 0
IsAnswer network epoch history customer held (Admit hose) reply entry after =
    IsAdmitAnswer network (book_of epoch history) customer hose reply entry × (after ≡ held)
IsAnswer network epoch history customer held (AdmitAfter known hose) reply entry after =
    IsAfterAnswer network (book_of epoch history) customer known hose reply entry × (after ≡ held)
IsAnswer network epoch history customer held (Quote hose) reply entry after =
    (entry ≡ None)
    × IsQuoteAnswer network (book_of epoch history) (length history) hose held reply after
IsAnswer network epoch history customer held (Take number) reply entry after =
    IsTakeAnswer network epoch history customer number held (at_number held number)
    reply entry after
IsAnswer network epoch history customer held (Release id) reply entry after =
    IsReleaseAnswer (book_of epoch history) customer id reply entry × (after ≡ held)
IsAnswer network epoch history customer held (Show id) reply entry after =
    IsShowAnswer network (book_of epoch history) customer id reply entry × (after ≡ held)
IsAnswer network epoch history customer held VpnsCommand reply entry after =
    IsVpnsAnswer (book_of epoch history) customer reply entry × (after ≡ held)
IsAnswer network epoch history customer held (Link link) reply entry after =
    IsLinkAnswer (book_of epoch history) link reply entry × (after ≡ held)
IsAnswer network epoch history customer held (DownCommand link) reply entry after =
    IsOperatorAnswer network (book_of epoch history) customer true link reply entry
    × (after ≡ held)
IsAnswer network epoch history customer held (UpCommand link) reply entry after =
    IsOperatorAnswer network (book_of epoch history) customer false link reply entry
    × (after ≡ held)

-- ---- steps

-- a history with an entry, if there is one
abbrev pub with_entry : List Entry → Option Entry → List Entry
with_entry history None = history
with_entry history (Some entry) = history ++ entry ∷ []

-- Want of memory comes first at an admission, bound to a number or not, at a release and at the
-- list of a customer's VPNs. It comes after too many quotes, after no quote to be taken, after no
-- VPN to be told, and after a customer who is not the operator is denied. What is reserved on a
-- link is told in any case.
abbrev pub MayWantMemory : Book → List ℕ → Holding → Command → Type 0
MayWantMemory book customer held (Admit hose) = ⊤
MayWantMemory book customer held (AdmitAfter known hose) = ⊤
MayWantMemory book customer held (Quote hose) = IsSome (free_number held)
MayWantMemory book customer held (Take number) = IsSome (at_number held number)
MayWantMemory book customer held (Release id) = ⊤
MayWantMemory book customer held (Show id) = HasVpn book customer id
MayWantMemory book customer held VpnsCommand = ⊤
MayWantMemory book customer held (Link link) = ⊥
MayWantMemory book customer held (DownCommand link) = customer ≡ operator
MayWantMemory book customer held (UpCommand link) = customer ≡ operator

-- A step at a history, whose answer has this entry: the answer, with its entry added; or the disk
-- failed to keep the entry, which is not added; or want of memory, which changes nothing. No other
-- reply is an answer.
abbrev pub IsStepOf : Network → ℕ → List Entry → List ℕ → Holding → Command → Reply → Option Entry
    → List Entry → Holding → Type 0
IsStepOf network epoch history customer held command (Disk at) entry next after =
    (at ≡ (book_of epoch history).epoch) × IsSome entry × ((given : Reply)
    × IsAnswer network epoch history customer held command given entry after) × (next ≡ history)
IsStepOf network epoch history customer held command Memory entry next after =
    MayWantMemory (book_of epoch history) customer held command
    × (entry ≡ None) × (next ≡ history) × (after ≡ held)
IsStepOf network epoch history customer held command reply entry next after =
    IsAnswer network epoch history customer held command reply entry after
    × (next ≡ with_entry history entry)

-- a step at a history
abbrev pub IsStep : Network → ℕ → List Entry → List ℕ → Holding → Command → Reply → List Entry
    → Holding → Type 0
IsStep network epoch history customer held command reply next after =
    (entry : Option Entry)
    × IsStepOf network epoch history customer held command reply entry next after
