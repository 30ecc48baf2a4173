-- A disk that is lent by a cabinet and comes back.
use Rattle.std.proofs.Common.{◌≡◌, ◌∙◌, ℕ, List, Option, Some, IfSome, ap, subst}
use Rattle.hose_disk.specs.Cabinet.{CabinetFrame}
use Rattle.hose_disk.specs.declared.cabinet.Cabinet.{Ghosts as CabinetGhosts}
use Rattle.hose_disk.specs.declared.disk.Disk.{Ghosts as DiskGhosts}
use Rattle.hose_outside.specs.Journal.{IsPutIn, IsTakenOut}
use Rattle.hose_outside.specs.OnDisk.{OthersStay}
use Rattle.hose_outside.specs.steps.Journal.{TouchesOnly}

module _ {C E : Type 0} (cabinet : CabinetGhosts C E) where
  -- where a disk was taken out and one was put back, the disks of other names are as they were
  pub others_then : (name : List ℕ) (old mid new : C) → (cabinet.frame mid).out ≡ Some name → OthersStay cabinet name old mid → IfSome (cabinet.frame mid).out (λ out. OthersStay cabinet out mid new) → OthersStay cabinet name old new
  others_then name old mid new out taken back = λ other apart. later other apart ∙ taken other apart
    where
      later : OthersStay cabinet name mid new
      later = subst (λ (held : Option (List ℕ)). IfSome held (λ one. OthersStay cabinet one mid new)) out back

  module _ (disk : DiskGhosts E) where
    -- a disk was lent, and no text was asked for
    pub lent_alone : (name : List ℕ) (old mid new : C) (opened left : E) → IsTakenOut cabinet disk name old mid opened → OthersStay cabinet name old mid → IsPutIn cabinet disk mid new left → IfSome (cabinet.frame mid).out (λ out. OthersStay cabinet out mid new) → TouchesOnly cabinet name old new
    lent_alone name old mid new opened left out others in_place others' = record {
      absent = ap (λ (frame : CabinetFrame). frame.absent) in_place.call ∙ out.call.absent;
      others = others_then name old mid new out.call.taken_out others others';
    }
