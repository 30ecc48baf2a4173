-- What doors in memory tell.
use Rattle.std.specs.Prelude.{◌≡◌, ℕ, Bool, true, List, ◌∷◌, ◌++◌, [], Option, Some, map}
use Rattle.std.specs.String.{string_bytes}
use Rattle.hose_net.specs.Happening.{Happening}
use Rattle.hose_net.specs.steps.MemTrace.{happening_of}
use Rattle.hose_net.specs.declared.doors.Address.{Address}
use Rattle.hose_net.specs.declared.doors.Address.TheVariants as address
use Rattle.hose_net.specs.declared.doors.DoorTrouble.{DoorTrouble}
use Rattle.hose_net.specs.declared.doors.DoorsFault.{DoorsFault}
use Rattle.hose_net.specs.declared.doors.DoorsFault.TheVariants as fault
use Rattle.hose_net.specs.declared.mem_doors.KeptAddress.{KeptAddress}
use Rattle.hose_net.specs.declared.mem_doors.KeptAddress.TheVariants as kept
use Rattle.hose_net.specs.declared.mem_doors.DoorsEvent.{DoorsEvent}
use Rattle.hose_net.specs.declared.mem_doors.DoorsEvent.TheVariants as event

-- where a door is
pub data Where : Type 0 where
  AtPort : ℕ → Where
  AtPath : List ℕ → Where

-- where an address is
abbrev pub where_of : Address → Where
where_of (address.Port port) = AtPort port
where_of (address.Path path) = AtPath path.now

-- where an address is that was kept
abbrev pub where_kept : KeptAddress → Where
where_kept (kept.Port port) = AtPort port
where_kept (kept.Path path) = AtPath (string_bytes path)

-- what was done with doors: they were opened here; or not, for this reason; or they were closed,
-- after this
pub data DoorsDone : Type 0 where
  Opened : List Where → DoorsDone
  Refused : DoorsFault → DoorsDone
  Closed : List Happening → DoorsDone

-- what was done, of what was kept
abbrev pub done_of : DoorsEvent → DoorsDone
done_of (event.Opened addresses) = Opened (map where_kept addresses.items)
done_of (event.Refused why) = Refused why
done_of (event.Closed happened) = Closed (map happening_of happened.items)

-- what was done, where all of it was kept, and which door cannot be opened
pub record DoorsTrace : Type 0 where
  pub done : List DoorsDone
  pub whole : Bool
  pub shut : Option (ℕ × DoorTrouble)

-- doors are refused for the one that is shut
abbrev pub IsShutAt : Option (ℕ × DoorTrouble) → DoorsFault → Type 0
IsShutAt shut (fault.Door place trouble) = shut ≡ Some (place, trouble)
IsShutAt shut fault.Memory = ⊥

-- this was done, where all of it was kept
pub record IsDone (old new : DoorsTrace) (done : DoorsDone) : Type 0 where
  pub before : old.whole ≡ true
  pub then : new.done ≡ old.done ++ done ∷ []

-- this was done, if all of it was kept
abbrev pub Notes : DoorsTrace → DoorsTrace → DoorsDone → Type 0
Notes old new done = new.whole ≡ true → IsDone old new done
