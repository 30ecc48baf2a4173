-- What a reading has taken from a disk.
use Rattle.std.specs.Prelude.{◌≡◌, true}
use Rattle.hose_io.specs.Frame.{Rose}
use Rattle.hose_disk.specs.Disk.{object_frame}
use Rattle.hose_disk.specs.declared.disk.Disk.{Ghosts}

-- A call on a disk failed: its count of faults rose, and its last call is one that failed.
pub record HasFailed {D : Type 0} (disk : Ghosts D) (old new : D) : Type 0 where
  pub rose : Rose (object_frame (disk.frame old)) (object_frame (disk.frame new))
  pub told : (disk.frame new).has_failed ≡ true
