-- What the calls of a cabinet do to its frame, and what they give: steps of proofs.
use Rattle.std.specs.Prelude.{◌≡◌, ℕ, ◌≤◌, List, length, take, drop, Option, None, Some, Result}
use Rattle.hose_io.specs.Count.{one_more}
use Rattle.hose_io.specs.Frame.{Met}
use Rattle.hose_io.specs.declared.Failed.{Failed}
use Rattle.hose_disk.specs.Cabinet.{CabinetFrame, object_of}

-- ---- frames

-- What asking for a text, or whether two names are of two disks, does to the frame: its failure has
-- a cause.
pub record IsTextCall {T : Type 0} (before after : CabinetFrame) (result : Result T Failed) :
    Type 0 where
  pub met : Met (object_of before) (object_of after) result
  pub absent : before.absent ≤ after.absent
  pub returned : after.returned ≡ before.returned
  pub out : after.out ≡ before.out
  pub tells : after.tells ≡ before.tells

-- how many texts that are not there were asked for, after one that is this was
abbrev pub absent_after : Option (List ℕ) → ℕ → ℕ
absent_after None absent = one_more absent
absent_after (Some bytes) absent = absent

-- ---- texts and disks

-- a read of a text from a place gave the front of these, of this length
pub record IsTextAt (from count : ℕ) (bytes got : List ℕ) : Type 0 where
  pub bytes_there : take count got ≡ take count (drop from bytes)
  pub none_only_at_end : count ≡ 0 → length bytes ≤ from
