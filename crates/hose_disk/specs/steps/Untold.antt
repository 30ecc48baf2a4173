-- What disks and cabinets of the outside tell of their content: nothing.
use Rattle.std.specs.Prelude.{ℕ, List, Option, None}
use Rattle.hose_disk.specs.Disk.{DiskFrame}

-- a disk of the outside tells nothing of its bytes
abbrev pub untold_bytes : Option (List ℕ)
untold_bytes = None

-- a cabinet of the outside tells nothing of the disks that it holds
abbrev pub untold_disk : Option DiskFrame
untold_disk = None

-- no image is one that a disk of the outside tells a stop may leave
abbrev pub no_image : List ℕ → Type 0
no_image image = ⊥
