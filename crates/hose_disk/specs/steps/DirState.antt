-- What contracts see of a cabinet of the file system.
use Rattle.std.specs.Prelude.{◌≢◌, Option, None, Some, ⊤}
use Rattle.hose_disk.specs.Cabinet.{CabinetFrame}
use Rattle.hose_disk.specs.declared.files.FileId.{FileId}
use Rattle.hose_disk.specs.declared.files.Looked.{Looked}

-- the frame of a cabinet of the file system, and where the two names lead to that were looked at
-- last
pub record DirState : Type 0 where
  pub frame : CabinetFrame
  pub looked : Option Looked

-- what two names lead to is not one file
abbrev pub AreTwoFiles : Option FileId → Option FileId → Type 0
AreTwoFiles None other = ⊤
AreTwoFiles (Some one) None = ⊤
AreTwoFiles (Some one) (Some other) = one ≢ other

-- two names were looked at, and they lead to no one file
abbrev pub HasLookedAtTwo : Option Looked → Type 0
HasLookedAtTwo None = ⊥
HasLookedAtTwo (Some looked) = AreTwoFiles looked.one looked.other
