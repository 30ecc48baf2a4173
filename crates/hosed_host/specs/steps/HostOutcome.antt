-- What stands after `host`: steps of proofs.
use Rattle.std.specs.Prelude.{◌≡◌, ◌⊎◌, ℕ, ◌+◌, ◌^◌, ◌<◌, ◌≤◌, All, IsErr, List, MatchOption, Option, None, Some, Result, Ok, Err, ⊤, length, map, option_map}
use Rattle.std.specs.String.{string_bytes}
use Rattle.hose_io.specs.declared.Failed.{Failed}
use Rattle.hose_graph.specs.Network.{Network}
use Rattle.hose_net.specs.declared.doors.Doors.{Ghosts as DoorsGhosts}
use Rattle.hose_outside.specs.Ending.{IsOut}
use Rattle.hose_outside.specs.Fault.{last_line, status_of}
use Rattle.hose_outside.specs.Parts.{DoorParts, Tellings}
use Rattle.hose_outside.specs.Unopened.{OpensNoJournal}
use Rattle.hose_outside.specs.declared.fault.Fault.{Fault}
use Rattle.hose_outside.specs.declared.fault.Fault.TheVariants as fault
use Rattle.hose_outside.specs.declared.why.Why.{Why}
use Rattle.hose_outside.specs.declared.why.Why.TheVariants.{Stopped}
use Rattle.hose_outside.specs.steps.Failing.{FailsOpened}
use Rattle.hose_disk.specs.declared.cabinet.Cabinet.{Ghosts as CabinetGhosts}
use Rattle.hose_doors.specs.Doors.{IsSocketPath, NamesDoor}
use Rattle.hose_doors.specs.Limits.{most_doors}
use Rattle.hosed_host.specs.HostBook.{DoorTellings, LeavesDoors}
use Rattle.hosed_host.specs.HostDoors.{DoorsAsked, StandbyPlace}
use Rattle.hosed_host.specs.HostOutcome.{HostsConnections}
use Rattle.hosed_host.specs.declared.hosting.HostEnd.{HostEnd}
use Rattle.hosed_host.specs.declared.hosting.NotHosted.{NotHosted}
use Rattle.hosed_host.specs.declared.hosting.NotHosted.TheVariants as none
use Rattle.hosed_host.specs.declared.opening.HostDoors.{HostDoors}
use Rattle.hosed_host.specs.declared.opening.StandbyPlan.{StandbyPlan}
use Rattle.hosed_host.specs.declared.why.HostWhy.{HostWhy}
use Rattle.hosed_host.specs.declared.why.HostWhy.TheVariants as why

-- what the request says of the standby
abbrev pub plan_at : StandbyPlan → StandbyPlace
plan_at plan = record { path = plan.path.now; or_stop = plan.or_stop }

-- what the request says of the doors
abbrev pub asked_of : HostDoors → DoorsAsked
asked_of doors = record {
  operator = option_map (λ path. (path.0.now, path.1)) doors.operator;
  doors = map string_bytes doors.words.now;
  first = doors.first;
  standby = option_map plan_at doors.standby;
}

-- each word names a door, there are no more than there may be, and the operator's path is that of a
-- socket
pub record AreServable (doors : HostDoors) : Type 0 where
  pub named : All NamesDoor (map string_bytes doors.words.now)
  pub few : length doors.words.now ≤ most_doors
  pub numbers : doors.first + most_doors < 2 ^ 64
  pub socket : MatchOption (option_map (λ path. path.0.now) doors.operator) ⊤ IsSocketPath

-- what closing came to
abbrev pub closed_as : Result ⊤ Failed → Result ⊤ Fault
closed_as (Ok _) = Ok tt
closed_as (Err failed) = Err fault.Cabinet

-- why a host ends for its standby: it is gone, or has so many entries
abbrev pub why_of_standby : Option ℕ → HostWhy
why_of_standby None = why.StandbyGone
why_of_standby (Some count) = why.StandbyAhead count

-- that a file failed is told of the journal alone, where closing it did
abbrev pub MayEnd : Result HostEnd NotHosted → Why → Type 0
MayEnd came (Stopped fault.Text) = ⊥
MayEnd came (Stopped fault.Cabinet) = (end : HostEnd) × (came ≡ Ok end) × IsErr end.closing
MayEnd came _ = ⊤

-- a door is named for an opening of the doors that failed so, and a file for one that failed
abbrev pub IsWhyOf : Result HostEnd NotHosted → HostWhy → Type 0
IsWhyOf came (why.Ended other) = MayEnd came other
IsWhyOf came (why.Door word trouble) = came ≡ Err (none.Door word trouble)
IsWhyOf came why.StandbyGone = ⊤
IsWhyOf came (why.StandbyAhead count) = ⊤

-- what is told of the files of a host once its topology was read, and of its doors, by the cabinet
-- and the doors before and after
abbrev pub FailsHosting : {C E D N : Type 0} → CabinetGhosts C E → DoorsGhosts D N → DoorsAsked
    → C × D → C × D → HostWhy → Type 0
FailsHosting cabinet doors asked before after (why.Ended other) =
    FailsOpened cabinet before.0 after.0 other
FailsHosting cabinet doors asked before after (why.Door word trouble) =
    LeavesDoors doors asked before.1 after.1 (none.Door word trouble)
FailsHosting cabinet doors asked before after why.StandbyGone = ⊤
FailsHosting cabinet doors asked before after (why.StandbyAhead count) = ⊤

-- What hosting by the journal of a name comes to: connections were hosted, or why not, once a store
-- was opened; or none was, and the last line tells why.
abbrev pub HostsJournal : {I O C E D N : Type 0} → Tellings I O C E → DoorTellings D N E → List ℕ
    → DoorsAsked → DoorParts I O C D → DoorParts I O C D → ℕ → Network → Type 0
HostsJournal tells by name asked before after status network =
    HostsConnections tells by name asked before after status network
    ⊎ ((why : Fault) × (status ≡ status_of why) × OpensNoJournal tells.cabinet tells.disk name
    before.parts.cabinet after.parts.cabinet network (Err why)
    × IsOut tells.sink before.parts.output after.parts.output (last_line why)
    × (after.door ≡ before.door))
