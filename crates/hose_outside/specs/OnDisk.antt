-- The disk of a journal, which a cabinet holds under a name: what it held, and what is left of it.
use Rattle.std.specs.Prelude.{◌≡◌, ◌≢◌, ◌⊎◌, ℕ, List, Option, Some, IfSome, IsTrue, MatchOption, is_some, ⊤}
use Rattle.hose_io.specs.Frame.{Rose}
use Rattle.hose_graph.specs.Network.{Network}
use Rattle.hose_graph.specs.declared.entry.Entry.{Entry}
use Rattle.hose_disk.specs.Cabinet.{Has, object_of}
use Rattle.hose_disk.specs.declared.cabinet.Cabinet.{Ghosts as CabinetGhosts}
use Rattle.hose_disk.specs.declared.disk.Disk.{Ghosts as DiskGhosts}
use Rattle.hose_journal.specs.Image.{Meaning}
use Rattle.hose_store.specs.Beginning.{Beginning}
use Rattle.hose_store.specs.Opening.{IsAtOpening}
use Rattle.hose_store.specs.Recovery.{IsHistoryOf, IsRecoveredAs}

-- the opening of a disk that stood for a history then
abbrev pub opening_of : {E : Type 0} → DiskGhosts E → Network → List Entry → E → Beginning
opening_of disk network since was = record {
  since = since;
  network = network;
  moment = disk.moment was;
  tells = is_some (disk.content was);
}

-- where the cabinet tells, this holds of the disk of a name as it was held and as it is
abbrev pub OfHeld : {C E : Type 0} → CabinetGhosts C E → List ℕ → C → C → (E → E → Type 0) → Type 0
OfHeld cabinet name old new Is = Has (cabinet.frame old).tells (cabinet.held old name) (λ was.
    Has (cabinet.frame new).tells (cabinet.held new name) (Is was))

-- the disks that a cabinet holds under other names than this one are as they were
abbrev pub OthersStay : {C E : Type 0} → CabinetGhosts C E → List ℕ → C → C → Type 0
OthersStay cabinet name old new =
    (other : List ℕ) → other ≢ name → cabinet.held new other ≡ cabinet.held old other

-- no call of the cabinet failed
abbrev pub CabinetWorked : {C E : Type 0} → CabinetGhosts C E → C → C → Type 0
CabinetWorked cabinet old new = object_of (cabinet.frame new) ≡ object_of (cabinet.frame old)

-- a call of the cabinet failed
abbrev pub CabinetFailed : {C E : Type 0} → CabinetGhosts C E → C → C → Type 0
CabinetFailed cabinet old new = Rose (object_of (cabinet.frame old)) (object_of (cabinet.frame new))

module _ {C E : Type 0} (cabinet : CabinetGhosts C E) (disk : DiskGhosts E) (old : C) where
  -- as it was read at its opening, the disk of this name held bytes of this kind
  abbrev pub HadContent : List ℕ → (List ℕ → Type 0) → Type 0
  HadContent name Is = Has (cabinet.frame old).tells (cabinet.held old name) (λ was.
      IfSome (disk.content was) Is)

  -- The disk of the journal, if there is one, is told, and this holds of what is read of it.
  abbrev pub JournalIsTold : Option (List ℕ) → (List ℕ → Type 0) → Type 0
  JournalIsTold journal Is = MatchOption journal ⊤ (λ name. IsTrue (cabinet.frame old).tells
      × (was : E) × (cabinet.held old name ≡ Some was)
      × (bytes : List ℕ) × (disk.content was ≡ Some bytes) × Is bytes)

module _ {C E : Type 0} (cabinet : CabinetGhosts C E) (disk : DiskGhosts E) (old new : C) where
  -- Nothing was entered: at each moment since its opening, each image of the disk is one that it
  -- had, or stands for what it stood for.
  abbrev pub IsUnopened : Network → List ℕ → Type 0
  IsUnopened network name = (cabinet.held new ≡ cabinet.held old)
      ⊎ OfHeld cabinet name old new (λ was left. (image : List ℕ) →
      disk.left_since left (disk.moment was) image → IsAtOpening disk was network image)

  -- The journal is not one of the network: it means this, and so it stands for no history.
  pub record IsRefusedOnDisk (network : Network) (name : List ℕ) (meaning : Meaning Entry) :
      Type 0 where
    pub means : HadContent cabinet disk old name (λ bytes. IsRecoveredAs network bytes meaning)
    pub none : HadContent cabinet disk old name
        (λ bytes. (history : List Entry) → ¬ IsHistoryOf network history bytes)
    pub unopened : IsUnopened network name
