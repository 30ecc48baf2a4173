-- The frame of an object of the outside: what no call on it changes, and its count of faults.
use Rattle.std.specs.Prelude.{◌≡◌, ◌⊎◌, ℕ, ◌-◌, ◌^◌, ◌<◌, ◌≤◌, List, Result, IsErr, OnOk}
use Rattle.std.specs.Borrow.{GName}
use Rattle.hose_io.specs.declared.Failed.{Failed}

-- how often an object has failed, its number, and the borrows that lead to it, the outermost first
pub record Frame : Type 0 where
  pub faults : ℕ
  pub number : ℕ
  pub loan : List GName

-- The count of faults rose: it is greater than before, or it stands at its type's end.
pub record Rose (before after : Frame) : Type 0 where
  pub rose : (before.faults < after.faults) ⊎ (2 ^ 64 - 1 ≤ after.faults)

-- The count of faults does not fall, and the object is the one that it was.
pub record Stays (before after : Frame) : Type 0 where
  pub never_falls : before.faults ≤ after.faults
  pub number : after.number ≡ before.number
  pub loan : after.loan ≡ before.loan

-- what a call leaves of the frame: a call that fails raised the count, and a call that succeeds
-- left it
pub record Met {T : Type 0} (before after : Frame) (result : Result T Failed) : Type 0 where
  pub stays : Stays before after
  pub failed : IsErr result → Rose before after
  pub ok : OnOk result (after ≡ before)
