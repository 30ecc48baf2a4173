-- Why no journal was opened, and nothing was done by its book: steps of proofs.
use Rattle.std.specs.Prelude.{◌≡◌, List, IfSome, true, Result, Err, ⊤}
use Rattle.hose_graph.specs.Network.{Network}
use Rattle.hose_graph.specs.declared.entry.Entry.{Entry}
use Rattle.hose_disk.specs.declared.disk.Disk.{Ghosts as DiskGhosts}
use Rattle.hose_journal.specs.Image.{Meaning, damaged, other}
use Rattle.hose_journal.specs.Moments.{LeavesOnly}
use Rattle.hose_store.specs.Opening.{IsAtOpening}
use Rattle.hose_store.specs.Recovery.{IsHistoryOf, IsRecoveredAs, digest_of}
use Rattle.hose_outside.specs.declared.fault.Fault.{Fault}
use Rattle.hose_outside.specs.declared.fault.Fault.TheVariants as fault

-- ---- on a disk

-- as it was read, the disk meant this, and so it stood for no history
abbrev pub Refuses : {E : Type 0} → DiskGhosts E → E → Network → Meaning Entry → Type 0
Refuses disk old network meaning = IfSome (disk.content old) (λ bytes.
    IsRecoveredAs network bytes meaning
    × ((history : List Entry) → ¬ IsHistoryOf network history bytes))

module _ {E : Type 0} (disk : DiskGhosts E) (old left : E) (network : Network) where
  -- why no store was opened
  abbrev pub IsWhy : Result ⊤ Fault → Type 0
  IsWhy (Err fault.Cabinet) = (disk.frame left).has_failed ≡ true
  IsWhy (Err (fault.Other kept given)) =
      (given ≡ digest_of network) × Refuses disk old network (other kept)
  IsWhy (Err (fault.Damaged at)) = Refuses disk old network (damaged at)
  IsWhy (Err fault.Memory) = ⊤
  IsWhy _ = ⊥

  -- No store was opened, and nothing was entered.
  pub record IsNotOpened (result : Result ⊤ Fault) : Type 0 where
    pub why : IsWhy result
    pub images : LeavesOnly disk old left (IsAtOpening disk old network)
