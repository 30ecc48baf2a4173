-- What moving a journal to another network, or to the same one up to an epoch, comes to, step by
-- step.
use Rattle.std.specs.Prelude.{◌≡◌, ◌≢◌, ◌⊎◌, ℕ, List, length, Bool, true, false, Some, IsSome, IsTrue, Result, IsOk, Ok, Err}
use Rattle.hose_io.specs.Frame.{Rose}
use Rattle.hose_io.specs.Stream.{Grows}
use Rattle.hose_io.specs.Writing.{GrowsInPart}
use Rattle.hose_graph.specs.Network.{Network}
use Rattle.hose_graph.specs.declared.entry.Entry.{Entry}
use Rattle.hose_disk.specs.declared.cabinet.Cabinet.{Ghosts as CabinetGhosts}
use Rattle.hose_disk.specs.declared.disk.Disk.{Ghosts as DiskGhosts}
use Rattle.hose_move.specs.Changing.{GoesOnFrom, IsFirstChange}
use Rattle.hose_law.specs.History.{IsSound}
use Rattle.hose_move.specs.Moving.{HasEnough, Moves, OnlyMoves, StandsForPart}
use Rattle.hose_move.specs.Stating.{ReadsJournal, Suffice}
use Rattle.hose_move.specs.declared.changing.NetworkChange.{NetworkChange}
use Rattle.hose_move.specs.declared.fault.MoveFault.{MoveFault}
use Rattle.hose_move.specs.declared.stating.Scope.{Scope}
use Rattle.hose_move.specs.declared.stating.Scope.TheVariants as scope
use Rattle.hose_move.specs.declared.stating.Stated.{Stated}
use Rattle.hose_store.specs.Opening.{IsUnchanged}
use Rattle.hose_store.specs.declared.fault.StoreFault.{StoreFault}
use Rattle.hose_outside.specs.Reading.{ReadsTopology}
use Rattle.hose_outside.specs.CabinetText.{OnlyTextsRead}
use Rattle.hose_outside.specs.Ending.{OutputWorked}
use Rattle.hose_outside.specs.Fault.{of_store}
use Rattle.hose_outside.specs.Journal.{IsPutIn, IsTakenOut}
use Rattle.hose_copying.specs.MoveEnd.{moved_done, number_lines, stop_of_change}
use Rattle.hose_outside.specs.OnDisk.{CabinetFailed, CabinetWorked}
use Rattle.hose_outside.specs.Parts.{Parts, Tellings}
use Rattle.hose_outside.specs.declared.fault.Fault.{Fault}
use Rattle.hose_outside.specs.declared.fault.Fault.TheVariants.{Cabinet, Write}
use Rattle.hose_outside.specs.declared.move_stop.MoveStop.{MoveStop}
use Rattle.hose_outside.specs.declared.move_stop.MoveStop.TheVariants.{Old, New, Less}
use Rattle.hose_copying.specs.declared.move_end.Moved.{Moved}

-- ---- what is moved

-- which entries are moved, by whether the live VPNs alone are
abbrev pub scope_of : Bool → Scope
scope_of true = scope.Live
scope_of false = scope.All

-- the journals that a move names, and which entries are moved
pub record MovedJournals : Type 0 where
  pub scope : Scope
  pub old : List ℕ
  pub new : List ℕ

-- what a move names: the journals, the topologies, and the prices of networks
pub record MoveNames : Type 1 where
  pub prices : Network → Network → Type 0
  pub journals : MovedJournals
  pub topology : List ℕ
  pub new_topology : List ℕ

-- what a move names, at such prices: which entries are moved, a topology and a journal of it, and a
-- new topology and a new journal
abbrev pub move_names : (Network → Network → Type 0) → Scope → List ℕ → List ℕ → List ℕ → List ℕ
    → MoveNames
move_names prices which topology journal new_topology new_journal = record {
  prices = prices;
  journals = record { scope = which; old = journal; new = new_journal };
  topology = topology;
  new_topology = new_topology;
}

-- what came of reading a journal that is moved, as a fault of the program
abbrev pub read_done : Result Stated StoreFault → Result Stated Fault
read_done (Ok stated) = Ok stated
read_done (Err fault) = Err (of_store fault)

-- Where a disk stood for a part of the entries, each of which is sound, they were all moved, but
-- for a fault of the disk or want of memory.
abbrev pub IsComplete : {E : Type 0} → DiskGhosts E → E → Network → List Entry
    → Result ℕ MoveFault → Type 0
IsComplete disk opened network entries moved = (bytes : List ℕ)
    → disk.content opened ≡ Some bytes → StandsForPart network entries bytes
    → IsSound network 0 entries → HasEnough moved → IsOk moved

-- ---- the disks of a cabinet

module _ {C E : Type 0} (cabinet : CabinetGhosts C E) where
  -- no disk was taken out, and the cabinet failed
  pub record IsNotLent (old new : C) : Type 0 where
    pub same : cabinet.held new ≡ cabinet.held old
    pub tells : (cabinet.frame new).tells ≡ (cabinet.frame old).tells
    pub failed : CabinetFailed cabinet old new

  -- A name was looked for among the texts, and is there where they are told.
  pub record IsLookedFor (name : List ℕ) (old new : C) : Type 0 where
    pub only_texts : OnlyTextsRead cabinet old new
    pub worked : CabinetWorked cabinet old new
    pub there : IsTrue (cabinet.frame old).tells → IsSome (cabinet.text old name)

  -- a name was not found among the texts, two names are of one disk, or to look for that failed
  pub record IsNotFound (old new : C) : Type 0 where
    pub only_texts : OnlyTextsRead cabinet old new
    pub failed : CabinetFailed cabinet old new

  -- It was looked whether two names are of two disks, and they are.
  pub record AreApart (one other : List ℕ) (old new : C) : Type 0 where
    pub only_texts : OnlyTextsRead cabinet old new
    pub worked : CabinetWorked cabinet old new
    pub apart : cabinet.apart new one other
    pub differ : one ≢ other

module _ {C E : Type 0} (cabinet : CabinetGhosts C E) (disk : DiskGhosts E) where
  -- The disk of a name was taken out of the cabinet, as it was held there, and put back, with this
  -- done to it; the disks of other names are as they were.
  pub record IsLent (name : List ℕ) (old new : C) (Done : E → E → Type 0) : Type 0 where
    pub mid : C
    pub opened : E
    pub left : E
    pub out : IsTakenOut cabinet disk name old mid opened
    pub done : Done opened left
    pub in_place : IsPutIn cabinet disk mid new left
    pub others : (other : List ℕ) → other ≢ name
        → cabinet.held new other ≡ cabinet.held old other
    pub texts : cabinet.text new ≡ cabinet.text old

module _ {E : Type 0} (disk : DiskGhosts E) (network : Network) where
  -- A journal is read: its disk's images are as before at each moment, what is read of it is as
  -- before, and it states entries or is refused.
  abbrev pub ReadsDisk : Scope → Result Stated StoreFault → E → E → Type 0
  ReadsDisk which read opened left = ReadsJournal disk opened left network which read
      × IsUnchanged disk opened left × (disk.content left ≡ disk.content opened)

  -- Entries are moved into a journal: its disk's images at each moment are of the move, and all
  -- entries are in it or it is told why not.
  abbrev pub EntersDisk : List Entry → Result ℕ MoveFault → E → E → Type 0
  EntersDisk entries moved opened left = Moves disk opened network entries left moved
      × OnlyMoves disk opened network entries left
      × IsComplete disk opened network entries moved

module _ {C E : Type 0} (cabinet : CabinetGhosts C E) (disk : DiskGhosts E)
    (network : Network) where
  -- The journal of a name was read, which has to be there; or it was not found among the texts, or
  -- its disk was not taken out.
  abbrev pub ReadsOld : Scope → List ℕ → C → C → Result Stated Fault → Type 0
  ReadsOld which name old new result = ((result ≡ Err Cabinet) × IsNotFound cabinet old new)
      ⊎ ((found : C) × IsLookedFor cabinet name old found
      × (((result ≡ Err Cabinet) × IsNotLent cabinet found new)
      ⊎ ((read : Result Stated StoreFault) × (result ≡ read_done read)
      × IsLent cabinet disk name found new (ReadsDisk disk network which read))))

  -- Entries were moved into the journal of a name; or its disk was not taken out.
  abbrev pub EntersNew : List Entry → List ℕ → C → C → Result Moved MoveStop → Type 0
  EntersNew entries name old new result =
      ((result ≡ Err (New Cabinet)) × IsNotLent cabinet old new)
      ⊎ ((moved : Result ℕ MoveFault) × (result ≡ moved_done (length entries) moved)
      × IsLent cabinet disk name old new (EntersDisk disk network entries moved))

-- ---- step by step

module _ {I O C E : Type 0} (tells : Tellings I O C E) where
  -- The numbers are out, and then the entries were moved into the journal of a name; or the output
  -- failed, a part of the numbers is out, and nothing was done to the cabinet.
  abbrev pub EntersStated : List ℕ → Parts I O C → Parts I O C → Network → Stated
      → Result Moved MoveStop → Type 0
  EntersStated name before after network stated result = ((result ≡ Err (Old Write))
      × Rose (tells.sink.frame before.output) (tells.sink.frame after.output)
      × GrowsInPart (tells.sink.content before.output) (tells.sink.content after.output)
      (number_lines stated.numbers.items) × (after.cabinet ≡ before.cabinet))
      ⊎ (Grows (tells.sink.content before.output) (tells.sink.content after.output)
      (number_lines stated.numbers.items) × OutputWorked tells.sink before.output after.output
      × EntersNew tells.cabinet tells.disk network stated.entries.items name before.cabinet
      after.cabinet result)

  -- What was stated is as much as was asked for, and was entered; or it is less, which is told, and
  -- nothing else was done.
  abbrev pub EntersEnough : MovedJournals → Parts I O C → Parts I O C → Network → Stated
      → Result Moved MoveStop → Type 0
  EntersEnough journals before after network stated result =
      ((¬ Suffice journals.scope (length stated.entries.items))
      × (result ≡ Err (Less (length stated.entries.items)))
      × (after.output ≡ before.output) × (after.cabinet ≡ before.cabinet))
      ⊎ (Suffice journals.scope (length stated.entries.items)
      × EntersStated journals.new before after network stated result)

  -- The old journal was read, and what it states was entered in the new one; or it was not read,
  -- and nothing is out.
  abbrev pub MovesStated : MovedJournals → Parts I O C → Parts I O C → Network → Network
      → Result Moved MoveStop → Type 0
  MovesStated journals before after old new result = ((why : Fault) × (result ≡ Err (Old why))
      × ReadsOld tells.cabinet tells.disk old journals.scope journals.old before.cabinet
      after.cabinet (Err why) × (after.output ≡ before.output))
      ⊎ ((stated : Stated) × (read : C)
      × ReadsOld tells.cabinet tells.disk old journals.scope journals.old before.cabinet read
      (Ok stated)
      × EntersEnough journals (record before { cabinet = read }) after new stated result)

  -- The journals are of two disks, and the old one was moved; or they are not, and nothing was
  -- opened.
  abbrev pub MovesApart : MovedJournals → Parts I O C → Parts I O C → Network → Network
      → Result Moved MoveStop → Type 0
  MovesApart journals before after old new result = ((result ≡ Err (New Cabinet))
      × IsNotFound tells.cabinet before.cabinet after.cabinet × (after.output ≡ before.output))
      ⊎ ((seen : C) × AreApart tells.cabinet journals.old journals.new before.cabinet seen
      × MovesStated journals (record before { cabinet = seen }) after old new result)

  -- The new network goes on from the old one, and the journal was moved; or it does not, the first
  -- change is told, and nothing else was done.
  abbrev pub MovesBetween : MovedJournals → Parts I O C → Parts I O C → Network → Network
      → Result Moved MoveStop → Type 0
  MovesBetween journals before after old new result = ((change : NetworkChange)
      × (result ≡ Err (stop_of_change change)) × IsFirstChange old new (Some change)
      × (after.output ≡ before.output) × (after.cabinet ≡ before.cabinet))
      ⊎ (GoesOnFrom old new × MovesApart journals before after old new result)

  -- The new topology was read, and the journal was moved on to its network; or it was not read, and
  -- nothing is out.
  abbrev pub MovesFrom : MoveNames → Parts I O C → Parts I O C → Network
      → Result Moved MoveStop → Type 0
  MovesFrom names before after old result = ((why : Fault) × (result ≡ Err (New why))
      × ReadsTopology tells.cabinet before.cabinet after.cabinet names.prices names.new_topology
      (Err why) × (after.output ≡ before.output))
      ⊎ ((new : Network) × (read : C)
      × ReadsTopology tells.cabinet before.cabinet read names.prices names.new_topology (Ok new)
      × MovesBetween names.journals (record before { cabinet = read }) after old new result)

  -- The old topology was read, and its journal was moved; or it was not read, and nothing is out.
  abbrev pub MovesNamed : MoveNames → Parts I O C → Parts I O C → Result Moved MoveStop → Type 0
  MovesNamed names before after result = ((why : Fault) × (result ≡ Err (Old why))
      × ReadsTopology tells.cabinet before.cabinet after.cabinet names.prices names.topology
      (Err why) × (after.output ≡ before.output))
      ⊎ ((old : Network) × (read : C)
      × ReadsTopology tells.cabinet before.cabinet read names.prices names.topology (Ok old)
      × MovesFrom names (record before { cabinet = read }) after old result)
