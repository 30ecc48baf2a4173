-- Why no journal was opened, and nothing was done by its book.
use Rattle.std.specs.Prelude.{◌≡◌, ℕ, List, Result, Ok, Err, ⊤}
use Rattle.hose_io.specs.declared.Failed.{Failed}
use Rattle.hose_graph.specs.Network.{Network}
use Rattle.hose_disk.specs.declared.cabinet.Cabinet.{Ghosts as CabinetGhosts}
use Rattle.hose_disk.specs.declared.disk.Disk.{Ghosts as DiskGhosts}
use Rattle.hose_journal.specs.Image.{damaged, other}
use Rattle.hose_store.specs.Recovery.{digest_of}
use Rattle.hose_outside.specs.OnDisk.{CabinetFailed, IsRefusedOnDisk, IsUnopened}
use Rattle.hose_outside.specs.declared.fault.Fault.{Fault}
use Rattle.hose_outside.specs.declared.fault.Fault.TheVariants as fault

-- the first fault of answering lines and then closing
abbrev pub first_of : Result ⊤ Fault → Result ⊤ Failed → Result ⊤ Fault
first_of done (Ok _) = done
first_of (Ok _) (Err failed) = Err fault.Cabinet
first_of (Err why) (Err failed) = Err why

-- ---- in a cabinet

module _ {C E : Type 0} (cabinet : CabinetGhosts C E) (disk : DiskGhosts E) (name : List ℕ)
    (old new : C) (network : Network) where
  -- no journal was opened, and why
  abbrev pub OpensNoJournal : Result ⊤ Fault → Type 0
  OpensNoJournal (Err fault.Cabinet) =
      IsUnopened cabinet disk old new network name × CabinetFailed cabinet old new
  OpensNoJournal (Err (fault.Other kept given)) =
      (given ≡ digest_of network) × IsRefusedOnDisk cabinet disk old new network name (other kept)
  OpensNoJournal (Err (fault.Damaged at)) =
      IsRefusedOnDisk cabinet disk old new network name (damaged at)
  OpensNoJournal (Err fault.Memory) = IsUnopened cabinet disk old new network name
  OpensNoJournal _ = ⊥
