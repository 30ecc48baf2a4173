-- Histories: lists of accepted entries, the books that they lead to, and which of them are sound
-- and decided.
use Rattle.std.specs.Prelude.{ℕ, zero, suc, ◌+◌, ◌<◌, ◌==◌, ◌&&◌, not, Bool, List, [], ◌∷◌, ◌++◌, filter, length, ⊤}
use Rattle.std.specs.Str.{bytes_eq}
use Rattle.hose_graph.specs.declared.entry.Entry.{Entry}
use Rattle.hose_graph.specs.declared.entry.Entry.TheVariants.{Admit, Release, Down, Up}
use Rattle.hose_graph.specs.declared.entry.Vpn.{Vpn}
use Rattle.hose_graph.specs.Limits.{most_epoch, most_live}
use Rattle.hose_graph.specs.Network.{Network}
use Rattle.hose_law.specs.Book.{Book, HasVpn}
use Rattle.hose_law.specs.Decision.{CanBeReserved, IsPlanned}
use Rattle.hose_law.specs.Room.{room_of}
use Rattle.hose_law.specs.Service.{IsInService, IsOutOfService, put_back, taken_out}

-- the book of an epoch with nothing live and every link in service
abbrev pub opening_book : ℕ → Book
opening_book epoch = record { epoch = epoch; live = []; out = [] }

-- the VPN is the one of this number and of this customer
abbrev pub is_vpn : List ℕ → ℕ → Vpn → Bool
is_vpn customer id vpn = (vpn.id == id) && bytes_eq vpn.customer customer

-- The book after an entry: the epoch is one more. An admitted VPN, whose id is the new epoch, is
-- the last of the live, and a released one is not live any more. A link that is taken out is the
-- last of those that are out, and one that is put back is not out any more.
abbrev pub next_book : Book → Entry → Book
next_book book (Admit customer hose amounts) = record {
  epoch = book.epoch + 1;
  live = book.live
      ++ record { id = book.epoch + 1; customer = customer; hose = hose; amounts = amounts } ∷ [];
  out = book.out;
}
next_book book (Release customer id) = record {
  epoch = book.epoch + 1;
  live = filter (λ vpn. not (is_vpn customer id vpn)) book.live;
  out = book.out;
}
next_book book (Down link) =
    record { epoch = book.epoch + 1; live = book.live; out = taken_out book.out link }
next_book book (Up link) =
    record { epoch = book.epoch + 1; live = book.live; out = put_back book.out link }

-- the book after entries, in order
abbrev pub book_after : Book → List Entry → Book
book_after book [] = book
book_after book (entry ∷ entries) = book_after (next_book book entry) entries

-- the book of a history that begins at an epoch with nothing live and every link in service
abbrev pub book_of : ℕ → List Entry → Book
book_of epoch history = book_after (opening_book epoch) history

-- An entry is sound at a book: an epoch is left; an admission has room among the live, and its
-- amounts can be reserved; a release has a VPN of its customer to give up; a link that is taken out
-- is in service, and one that is put back is out of it.
abbrev pub IsSoundAt : Network → Book → Entry → Type 0
IsSoundAt network book (Admit customer hose amounts) =
    (book.epoch < most_epoch) × (length book.live < most_live)
    × CanBeReserved network (room_of network book) hose amounts
IsSoundAt network book (Release customer id) = (book.epoch < most_epoch) × HasVpn book customer id
IsSoundAt network book (Down link) = (book.epoch < most_epoch) × IsInService network book link
IsSoundAt network book (Up link) = (book.epoch < most_epoch) × IsOutOfService network book link

-- An entry is decided at a book: it is sound there, and an admission's plan is the decision's.
abbrev pub IsDecidedAt : Network → Book → Entry → Type 0
IsDecidedAt network book (Admit customer hose amounts) =
    IsSoundAt network book (Admit customer hose amounts)
    × IsPlanned network (room_of network book) hose amounts
IsDecidedAt network book (Release customer id) = IsSoundAt network book (Release customer id)
IsDecidedAt network book (Down link) = IsSoundAt network book (Down link)
IsDecidedAt network book (Up link) = IsSoundAt network book (Up link)

-- what an entry may be at a book of a network, as sound or decided
abbrev pub EntryKind : Type 1
EntryKind = Network → Book → Entry → Type 0

-- each entry from a place on is of this kind at the book of the entries before it
abbrev pub AreFrom : EntryKind → Network → Book → ℕ → List Entry → Type 0
AreFrom Kind network book place [] = ⊤
AreFrom Kind network book zero (entry ∷ entries) =
    Kind network book entry × AreFrom Kind network (next_book book entry) zero entries
AreFrom Kind network book (suc place) (entry ∷ entries) =
    AreFrom Kind network (next_book book entry) place entries

-- each entry of a history that begins at an epoch is sound at the book of those before it
abbrev pub IsSound : Network → ℕ → List Entry → Type 0
IsSound network epoch history = AreFrom IsSoundAt network (opening_book epoch) 0 history

-- a history is sound, and decided from a place on
pub record IsDecided (network : Network) (epoch place : ℕ) (history : List Entry) : Type 0 where
  pub sound : IsSound network epoch history
  pub decided : AreFrom IsDecidedAt network (opening_book epoch) place history
