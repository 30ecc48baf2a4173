-- What the opening of a journal finds, and what it leaves.
use Rattle.std.specs.Prelude.{◌≡◌, ◌⊎◌, ℕ, List, [], Option, IfSome}
use Rattle.hose_io.specs.Frame.{Stays}
use Rattle.hose_disk.specs.Disk.{object_frame}
use Rattle.hose_disk.specs.declared.disk.Disk.{Ghosts}
use Rattle.hose_journal.specs.Image.{IsClosed, IsUnbegun, front_of}
use Rattle.hose_journal.specs.Layout.{chained_version}
use Rattle.hose_journal.specs.Moments.{TellsAsBefore}

-- No journal was begun, or it is one of the version whose records have chain values, and no record
-- stands in it.
abbrev pub HasNoRecord : List ℕ → List ℕ → Type 0
HasNoRecord digest image =
    IsUnbegun image ⊎ IsClosed (front_of chained_version digest []) image

-- What is read is as before, also where a call failed; or none was begun, and no record stands
-- there. So no seal was written.
abbrev pub AddsNoRecord : Option (List ℕ) → Option (List ℕ) → List ℕ → Type 0
AddsNoRecord old new digest = (new ≡ old)
    ⊎ (IfSome old IsUnbegun × IfSome new (HasNoRecord digest))

-- What an opening keeps of the disk: its count does not fall, and it is the one that it was.
pub record KeepsDisk {D : Type 0} (disk : Ghosts D) (old new : D) : Type 0 where
  pub stays : Stays (object_frame (disk.frame old)) (object_frame (disk.frame new))
  pub opened : (disk.frame new).opened ≡ (disk.frame old).opened
  pub tells : TellsAsBefore disk old new
