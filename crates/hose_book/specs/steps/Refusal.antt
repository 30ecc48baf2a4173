-- Why a book refuses an entry: the first cause that applies.
use Rattle.std.specs.Prelude.{◌≡◌, ℕ, ◌<◌, ◌≤◌, Bool, true, false, not, List, length, All, Contains, slice_index, Result, Ok, Err, ⊤}
use Rattle.hose_graph.specs.declared.entry.Entry.{Entry}
use Rattle.hose_graph.specs.declared.entry.Entry.TheVariants.{Admit, Release, Down, Up}
use Rattle.hose_graph.specs.Amounts.{ReservedLink, amount_of, link_of}
use Rattle.hose_graph.specs.Hose.{Endpoint}
use Rattle.hose_graph.specs.Network.{Network, IsLinkOf}
use Rattle.hose_law.specs.Book.{Book, HasVpn}
use Rattle.hose_law.specs.History.{IsSoundAt}
use Rattle.hose_graph.specs.Limits.{most_live, most_epoch}
use Rattle.hose_law.specs.Room.{first_links, room_of}
use Rattle.hose_law.specs.Service.{LinkStands}
use Rattle.hose_law.specs.Tree.{IsTreeReservation}
use Rattle.hose_law.specs.Walk.{IsIn, all_links}
use Rattle.hose_book.specs.declared.checking.BookRefusal.{BookRefusal}
use Rattle.hose_book.specs.declared.checking.BookRefusal.TheVariants.{Spent, Full, NotATree, OutOfService, NoRoom, NoVpn, NoLink, Already}

-- the book has an epoch left, and room among the live
pub record HasPlace (book : Book) : Type 0 where
  pub epoch : book.epoch < most_epoch
  pub room : length book.live < most_live

-- an amount is above what its link has free
abbrev pub IsAbove : List ℕ → ReservedLink → Type 0
IsAbove free pair = slice_index free (link_of pair) < amount_of pair

-- this is the lowest link of the amounts of this kind
pub record IsLowest (Is : ReservedLink → Type 0) (amounts : List ReservedLink) (link : ℕ) :
    Type 0 where
  pub pair : ReservedLink
  pub there : Contains amounts pair
  pub here : link_of pair ≡ link
  pub is : Is pair
  pub lowest : (other : ReservedLink) → Contains amounts other → Is other → link ≤ link_of other

-- this is the lowest link of which the amounts want more than it has free
abbrev pub IsLowestFull : List ℕ → List ReservedLink → ℕ → Type 0
IsLowestFull free amounts link = IsLowest (IsAbove free) amounts link

-- all links of these amounts are in a set
abbrev pub AreInService : List Bool → List ReservedLink → Type 0
AreInService service amounts = All (λ (pair : ReservedLink). IsIn service (link_of pair)) amounts

-- an amount is on a link that is not in a set
abbrev pub IsOutside : List Bool → ReservedLink → Type 0
IsOutside service pair = ¬ IsIn service (link_of pair)

-- this is the lowest link of these amounts that is not in a set
abbrev pub IsLowestOut : List Bool → List ReservedLink → ℕ → Type 0
IsLowestOut service amounts link = IsLowest (IsOutside service) amounts link

-- the amounts are what the hose reserves on a tree, of whatever links
abbrev pub AreOnTree : Network → List Endpoint → List ReservedLink → Type 0
AreOnTree network hose amounts = IsTreeReservation network (all_links network) hose amounts

-- An admission is refused at a book for this cause, and for none before it: spent, full, not a
-- tree, out of service, no room.
abbrev pub IsRefusedAdmission : Network → Book → List Endpoint → List ReservedLink → BookRefusal
    → Type 0
IsRefusedAdmission network book hose amounts Spent = book.epoch ≡ most_epoch
IsRefusedAdmission network book hose amounts Full =
    (book.epoch < most_epoch) × (most_live ≤ length book.live)
IsRefusedAdmission network book hose amounts NotATree =
    HasPlace book × (¬ AreOnTree network hose amounts)
IsRefusedAdmission network book hose amounts (OutOfService link) =
    HasPlace book × AreOnTree network hose amounts
    × IsLowestOut (first_links network book) amounts link
IsRefusedAdmission network book hose amounts (NoRoom link) =
    HasPlace book × AreOnTree network hose amounts × AreInService (first_links network book) amounts
    × IsLowestFull (room_of network book).free amounts link
IsRefusedAdmission network book hose amounts _ = ⊥

-- a release is refused for the first of these: no VPN, spent
abbrev pub IsRefusedRelease : Book → List ℕ → ℕ → BookRefusal → Type 0
IsRefusedRelease book customer id NoVpn = ¬ HasVpn book customer id
IsRefusedRelease book customer id Spent = HasVpn book customer id × (book.epoch ≡ most_epoch)
IsRefusedRelease book customer id _ = ⊥

-- an entry that takes a link out of service, where this is true, or puts it back is refused for the
-- first of these: no link, already, spent
abbrev pub IsRefusedService : Network → Book → Bool → ℕ → BookRefusal → Type 0
IsRefusedService network book down link NoLink = ¬ IsLinkOf network link
IsRefusedService network book down link Already = LinkStands network book link down
IsRefusedService network book down link Spent =
    LinkStands network book link (not down) × (book.epoch ≡ most_epoch)
IsRefusedService network book down link _ = ⊥

-- the entry is refused at a book for this cause, and for none before it
abbrev pub IsRefusedFor : Network → Book → Entry → BookRefusal → Type 0
IsRefusedFor network book (Admit customer hose amounts) refusal =
    IsRefusedAdmission network book hose amounts refusal
IsRefusedFor network book (Release customer id) refusal =
    IsRefusedRelease book customer id refusal
IsRefusedFor network book (Down link) refusal = IsRefusedService network book true link refusal
IsRefusedFor network book (Up link) refusal = IsRefusedService network book false link refusal

-- what a book says of an entry: it is sound there, or refused for this cause
abbrev pub Judges : Network → Book → Entry → Result ⊤ BookRefusal → Type 0
Judges network book entry (Ok _) = IsSoundAt network book entry
Judges network book entry (Err refusal) = IsRefusedFor network book entry refusal
