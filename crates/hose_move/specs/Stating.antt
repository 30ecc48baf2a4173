-- What a journal states for one that it is moved into: all of its entries, the first of them, or
-- what is live.
use Rattle.std.specs.Prelude.{◌≡◌, ℕ, ◌≤◌, List, [], ◌++◌, map, filter, length, take, IfSome, Result, Ok, Err, ⊤}
use Rattle.std.specs.List.{range_with_len}
use Rattle.hose_graph.specs.Network.{Network}
use Rattle.hose_graph.specs.declared.entry.Entry.{Entry}
use Rattle.hose_graph.specs.declared.entry.Entry.TheVariants.{Admit, Down}
use Rattle.hose_graph.specs.declared.entry.Vpn.{Vpn}
use Rattle.hose_law.specs.Book.{Book}
use Rattle.hose_law.specs.History.{IsSound, book_of}
use Rattle.hose_law.specs.Service.{is_out}
use Rattle.hose_disk.specs.declared.disk.Disk.{Ghosts}
use Rattle.hose_journal.specs.Moments.{KeepsCount}
use Rattle.hose_store.specs.Opening.{IsRefusedStore}
use Rattle.hose_store.specs.Recovery.{IsHistoryOf}
use Rattle.hose_store.specs.declared.fault.StoreFault.{StoreFault}
use Rattle.hose_move.specs.declared.stating.Scope.{Scope}
use Rattle.hose_move.specs.declared.stating.Scope.TheVariants.{All as AllEntries, First, Live}
use Rattle.hose_move.specs.declared.stating.Stated.{Stated}

-- the entry that admits a VPN again: its hose with the amounts that are reserved for it
abbrev pub admission_entry : Vpn → Entry
admission_entry vpn = Admit vpn.customer vpn.hose vpn.amounts

-- the number of a VPN
abbrev pub number_of : Vpn → ℕ
number_of vpn = vpn.id

-- the entry that takes a link out of service
abbrev pub down_entry : ℕ → Entry
down_entry link = Down link

-- the links, of so many from 0 on, that are out of service at a book, in order
abbrev pub links_out : ℕ → Book → List ℕ
links_out count book = filter (is_out book.out) (range_with_len 0 count)

-- what is live at a book: an admission of each VPN, in order, and then the links that are out
abbrev pub live_entries : Network → Book → List Entry
live_entries network book = map admission_entry book.live
    ++ map down_entry (links_out (length network.links) book)

-- the entries that a journal of this history states
abbrev pub stated_entries : Scope → Network → List Entry → List Entry
stated_entries AllEntries network history = history
stated_entries (First count) network history = take count history
stated_entries Live network history = live_entries network (book_of 0 history)

-- so many entries are as many as are asked for
abbrev pub Suffice : Scope → ℕ → Type 0
Suffice AllEntries found = ⊤
Suffice (First count) found = count ≤ found
Suffice Live found = ⊤

-- the old numbers of the VPNs that have new ones, in order
abbrev pub stated_numbers : Scope → List Entry → List ℕ
stated_numbers AllEntries history = []
stated_numbers (First count) history = []
stated_numbers Live history = map number_of (book_of 0 history).live

-- what is stated of a history
pub record IsStatedOf (scope : Scope) (network : Network) (history : List Entry)
    (stated : Stated) : Type 0 where
  pub entries : stated.entries.items ≡ stated_entries scope network history
  pub numbers : stated.numbers.items ≡ stated_numbers scope history

module _ {D : Type 0} (disk : Ghosts D) (was : D) where
  -- What is stated is that of a history for which the disk stood; each of its entries is sound. No
  -- call of the disk failed.
  pub record StatesHistory (left : D) (network : Network) (scope : Scope) (stated : Stated) :
      Type 0 where
    pub history : List Entry
    pub sound : IsSound network 0 history
    pub read : IfSome (disk.content was) (IsHistoryOf network history)
    pub is : IsStatedOf scope network history stated
    pub count : KeepsCount disk was left

  -- What reading the journal of a disk comes to: what it states, or why it is not read.
  abbrev pub ReadsJournal : D → Network → Scope → Result Stated StoreFault → Type 0
  ReadsJournal left network scope (Ok stated) = StatesHistory left network scope stated
  ReadsJournal left network scope (Err fault) = IsRefusedStore disk was left network fault
