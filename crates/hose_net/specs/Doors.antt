-- Which doors cannot be opened.
use Rattle.std.specs.Prelude.{ℕ, ◌<◌, ⊤}
use Rattle.hose_net.specs.declared.doors.DoorsFault.{DoorsFault}
use Rattle.hose_net.specs.declared.doors.DoorsFault.TheVariants as fault

-- a door that cannot be opened is one of so many
abbrev pub IsAmong : ℕ → DoorsFault → Type 0
IsAmong count (fault.Door place trouble) = place < count
IsAmong count fault.Memory = ⊤
