-- A disk that is lent by a cabinet, a name that is looked for among texts, and two names that are
-- told apart.
use Rattle.std.proofs.Common.{◌≡◌, ◌∙◌, ℕ, List, Option, None, Some, IfSome, IsSome, IsTrue, Ok, Err, refl}
use Rattle.hose_io.specs.declared.Failed.{Failed}
use Rattle.hose_disk.specs.Cabinet.{IsDiskCall}
use Rattle.hose_disk.specs.steps.Cabinet.{IsTextCall}
use Rattle.hose_disk.specs.declared.cabinet.Cabinet.{Ghosts as CabinetGhosts}
use Rattle.hose_disk.specs.declared.disk.Disk.{Ghosts as DiskGhosts}
use Rattle.hose_outside.specs.Journal.{IsPutIn, IsTakenOut}
use Rattle.hose_outside.specs.OnDisk.{OthersStay}
use Rattle.hose_copying.specs.Moving.{AreApart, IsLent, IsLookedFor, IsNotFound, IsNotLent}
use Rattle.hose_outside.proofs.Lending.{others_then}

module _ {C E : Type 0} (cabinet : CabinetGhosts C E) where
  pub is_not_lent : (old new : C) → cabinet.held new ≡ cabinet.held old → {name : List ℕ} {failed : Failed} → IsDiskCall {T = E} name (cabinet.frame old) (cabinet.frame new) (Err failed) → IsNotLent cabinet old new
  is_not_lent old new same call = record { same = same; tells = call.tells; failed = call.met.failed refl }

  pub is_not_found : (old new : C) → cabinet.text new ≡ cabinet.text old → cabinet.held new ≡ cabinet.held old → {T : Type 0} {failed : Failed} → IsTextCall {T = T} (cabinet.frame old) (cabinet.frame new) (Err failed) → IsNotFound cabinet old new
  is_not_found old new texts disks call = record {
    only_texts = record { texts = texts; disks = disks; stays = call.met.stays; returned = call.returned; out = call.out; tells = call.tells };
    failed = call.met.failed refl;
  }

  pub is_looked_for : (name : List ℕ) (old new : C) → cabinet.text new ≡ cabinet.text old → cabinet.held new ≡ cabinet.held old → {count : ℕ} → IsTextCall (cabinet.frame old) (cabinet.frame new) (Ok count)
      → (IsTrue (cabinet.frame old).tells → cabinet.text old name ≡ None → ⊥) → IsLookedFor cabinet name old new
  is_looked_for name old new texts disks call never = record {
    only_texts = record { texts = texts; disks = disks; stays = call.met.stays; returned = call.returned; out = call.out; tells = call.tells };
    worked = call.met.ok;
    there = λ told. some (cabinet.text old name) (never told);
  }
    where
      some : (found : Option (List ℕ)) → (found ≡ None → ⊥) → IsSome found
      some None never = absurd (never refl)
      some (Some bytes) never = refl

  pub are_apart : (one other : List ℕ) (old new : C) → cabinet.text new ≡ cabinet.text old → cabinet.held new ≡ cabinet.held old → {T : Type 0} {done : T} → IsTextCall (cabinet.frame old) (cabinet.frame new) (Ok done) → cabinet.apart new one other → (one ≡ other → ⊥) → AreApart cabinet one other old new
  are_apart one other old new texts disks call apart differ = record {
    only_texts = record { texts = texts; disks = disks; stays = call.met.stays; returned = call.returned; out = call.out; tells = call.tells };
    worked = call.met.ok;
    apart = apart;
    differ = differ;
  }

  module _ (disk : DiskGhosts E) where
    pub is_lent : (name : List ℕ) (old mid new : C) (opened left : E) (Done : E → E → Type 0) → IsTakenOut cabinet disk name old mid opened
        → OthersStay cabinet name old mid → cabinet.text mid ≡ cabinet.text old → IsPutIn cabinet disk mid new left
        → IfSome (cabinet.frame mid).out (λ out. OthersStay cabinet out mid new) → cabinet.text new ≡ cabinet.text mid → Done opened left → IsLent cabinet disk name old new Done
    is_lent name old mid new opened left Done out others texts in_place others' texts' done = record {
      mid = mid;
      opened = opened;
      left = left;
      out = out;
      done = done;
      in_place = in_place;
      others = others_then cabinet name old mid new out.call.taken_out others others';
      texts = texts' ∙ texts;
    }
