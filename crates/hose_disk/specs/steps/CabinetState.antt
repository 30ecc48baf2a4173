-- What contracts see of a cabinet in memory, and what each of its calls does to that.
use Rattle.std.specs.Prelude.{◌≡◌, ◌⊎◌, ℕ, List, [], ◌∷◌, length, true, false, if◌then◌else◌, Option, Some, None, Result, Ok, Err, Contains, remove, slice_index_or}
use Rattle.std.specs.Str.{bytes_eq}
use Rattle.hose_io.specs.steps.FailingCalls.{later_calls}
use Rattle.hose_io.specs.steps.Faults.{no_faults, one_fault, one_starved}
use Rattle.hose_io.specs.declared.Failed.{Failed}
use Rattle.hose_io.specs.declared.faults.Faults.{Faults}
use Rattle.hose_disk.specs.Cabinet.{CabinetFrame}
use Rattle.hose_disk.specs.steps.Cabinet.{absent_after}
use Rattle.hose_disk.specs.steps.MemState.{MemState, fresh_disk}

-- ---- named items

-- an item and its name
pub record NamedItem (A : Type 0) : Type 0 where
  pub name : List ℕ
  pub item : A

-- the first item of a name
abbrev pub item_of : {A : Type 0} → List ℕ → List (NamedItem A) → Option A
item_of name [] = None
item_of name (first ∷ others) =
    if bytes_eq first.name name then Some first.item else item_of name others

-- the items without the first of a name
abbrev pub without : {A : Type 0} → List ℕ → List (NamedItem A) → List (NamedItem A)
without name [] = []
without name (first ∷ others) =
    if bytes_eq first.name name then others else first ∷ without name others

-- The first item of a name stands at this place.
pub record IsPlaceOf {A : Type 0} (name : List ℕ) (items : List (NamedItem A)) (place : ℕ) :
    Type 0 where
  pub found : (other : NamedItem A) →
      item_of name items ≡ Some (slice_index_or items place other).item
  pub left : without name items ≡ remove items place

-- ---- disks

-- the shelf of a cabinet in memory: the disks that are there, and the name of the one that is out
pub record ShelfState : Type 0 where
  pub disks : List (NamedItem MemState)
  pub out : Option (List ℕ)

-- an empty disk, where there is none
abbrev pub or_empty : Option MemState → MemState
or_empty None = fresh_disk []
or_empty (Some disk) = disk

-- a disk that is opened again: it has failed in no call, and it was opened now
abbrev pub reopened : MemState → MemState
reopened disk = record disk {
  opened = length disk.made.calls;
  faults = no_faults;
  has_failed = false;
}

-- the shelf after the disk of a name was taken out
abbrev pub shelf_after_taking : List ℕ → ShelfState → ShelfState
shelf_after_taking name shelf = record { disks = without name shelf.disks; out = Some name }

-- the shelf after the disk of a name was put back
abbrev pub shelf_after_putting : List ℕ → MemState → ShelfState → ShelfState
shelf_after_putting name disk shelf = record {
  disks = record { name = name; item = disk } ∷ shelf.disks;
  out = None;
}

-- ---- cabinets

-- a cabinet in memory: its texts, its disks, its faults, the texts that were asked for and are not
-- there, the count of the disk that was put back last, and the calls of `text` and `disk` that are
-- to fail
pub record CabinetState : Type 0 where
  pub texts : List (NamedItem (List ℕ))
  pub shelf : ShelfState
  pub faults : Faults
  pub absent : ℕ
  pub returned : ℕ
  pub failing : List ℕ

-- the frame of a cabinet in memory
abbrev pub cabinet_frame : CabinetState → CabinetFrame
cabinet_frame cabinet = record {
  faults = cabinet.faults.count;
  absent = cabinet.absent;
  returned = cabinet.returned;
  out = cabinet.shelf.out;
  tells = true;
}

-- the text of a name
abbrev pub text_of : CabinetState → List ℕ → Option (List ℕ)
text_of cabinet name = item_of name cabinet.texts

-- the disk of a name, empty where the name is new; none where it is the one that is out
abbrev pub held_where : Option (List ℕ) → List ℕ → Option MemState → Option MemState
held_where None name found = Some (or_empty found)
held_where (Some out) name found = if bytes_eq out name then None else Some (or_empty found)

-- the disk that a cabinet holds under a name, empty where the name is new; none where it is out
abbrev pub held_of : CabinetState → List ℕ → Option MemState
held_of cabinet name = held_where cabinet.shelf.out name (item_of name cabinet.shelf.disks)

-- ---- what its calls do

-- a cabinet in memory after a call that was done
abbrev pub cabinet_after_done : CabinetState → CabinetState
cabinet_after_done cabinet = record cabinet { failing = later_calls cabinet.failing }

-- a cabinet in memory after a call that failed: it was to fail, or asked for a text that is not
-- there
abbrev pub cabinet_after_fault : CabinetState → CabinetState
cabinet_after_fault cabinet =
    record (cabinet_after_done cabinet) { faults = one_fault cabinet.faults }

-- a cabinet in memory after a call that found no memory
abbrev pub cabinet_after_starving : CabinetState → CabinetState
cabinet_after_starving cabinet =
    record (cabinet_after_done cabinet) { faults = one_starved cabinet.faults }

-- a cabinet in memory after a call of `text` that failed
abbrev pub cabinet_after_refusal : List ℕ → CabinetState → CabinetState
cabinet_after_refusal name cabinet = record (cabinet_after_fault cabinet) {
  absent = absent_after (text_of cabinet name) cabinet.absent;
}

-- A call of `disk` gives the disk of the name, opened again, where it is not to fail; or it found
-- no memory.
abbrev pub IsMemOpening : List ℕ → CabinetState → CabinetState → Result MemState Failed → Type 0
IsMemOpening name old new (Ok disk) =
    (¬ Contains old.failing 1)
    × (disk ≡ reopened (or_empty (item_of name old.shelf.disks)))
    × (new ≡ record (cabinet_after_done old) { shelf = shelf_after_taking name old.shelf })
IsMemOpening name old new (Err failed) =
    ((¬ Contains old.failing 1) × (new ≡ cabinet_after_starving old))
    ⊎ (Contains old.failing 1 × (new ≡ cabinet_after_fault old))

-- a cabinet in memory after a disk was put back under a name
abbrev pub cabinet_after_return : List ℕ → MemState → CabinetState → CabinetState
cabinet_after_return name disk cabinet = record cabinet {
  shelf = shelf_after_putting name disk cabinet.shelf;
  faults = if disk.has_failed then one_fault cabinet.faults else cabinet.faults;
  returned = disk.faults.count;
}
