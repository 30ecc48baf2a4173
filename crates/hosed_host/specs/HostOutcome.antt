-- What stands after `host`, by what ended it.
use Rattle.std.specs.Prelude.{◌≡◌, ◌≢◌, ℕ, List, Result, ⊤}
use Rattle.hose_graph.specs.Network.{Network}
use Rattle.hose_outside.specs.NamedOutcome.{NamedOutcome}
use Rattle.hose_outside.specs.Reading.{PricedNames}
use Rattle.hose_outside.specs.Failing.{FailsNamed}
use Rattle.hose_outside.specs.Parts.{DoorParts, Tellings}
use Rattle.hosed_host.specs.HostBook.{Announces, DoorTellings, EndsHosted, HostsByJournal, LeavesDoors}
use Rattle.hosed_host.specs.HostDoors.{DoorsAsked}
use Rattle.hosed_host.specs.declared.hosting.HostEnd.{HostEnd}
use Rattle.hosed_host.specs.declared.hosting.NotHosted.{NotHosted}
use Rattle.hosed_host.specs.declared.hosting.NotHosted.TheVariants as none
use Rattle.hosed_host.specs.declared.why.HostWhy.{HostWhy}
use Rattle.hosed_host.specs.declared.why.HostWhy.TheVariants.{Door, Ended, StandbyAhead, StandbyGone}

module _ {I O C E D N : Type 0} (tells : Tellings I O C E) (by : DoorTellings D N E)
    (name : List ℕ) (asked : DoorsAsked) (before after : DoorParts I O C D) where
  -- A store was opened on the journal and connections were hosted, or not, which left the output as
  -- `mid` is, and then the rest was told.
  pub record HostsConnections (status : ℕ) (network : Network) : Type 0 where
    pub mid : O
    pub came : Result HostEnd NotHosted
    pub hosts : HostsByJournal tells by name asked before.parts.cabinet after.parts.cabinet network
        before.door after.door came
    pub announces : Announces tells.sink before.parts.output mid came
    pub ends : EndsHosted tells.sink mid after.parts.output status came

module _ {I O C E D N : Type 0} (tells : Tellings I O C E) (by : DoorTellings D N E)
    (names : PricedNames) (asked : DoorsAsked) (before after : DoorParts I O C D) where
  -- A host tells the book of the journal as it was after the last line that was answered. Where
  -- doors fail, or a standby ends it, the status tells so.
  abbrev pub HostOutcome : ℕ → Type 0
  HostOutcome status = NamedOutcome tells names before.parts after.parts (record {
    IsFulfilled = HostsConnections tells by names.journal asked before after;
    Untouched = after.door ≡ before.door;
    OthersHeld = (status ≢ 9) × (status ≢ 16) × (status ≢ 17);
  }) status

  -- Which of its two files a host tells as the one at which the cabinet failed; and where it tells
  -- which door could not be opened, and why, the opening failed for that.
  abbrev pub FailsHost : HostWhy → Type 0
  FailsHost (Ended why) = FailsNamed tells names before.parts after.parts why
  FailsHost (Door word trouble) =
      LeavesDoors by.doors asked before.door after.door (none.Door word trouble)
  FailsHost StandbyGone = ⊤
  FailsHost (StandbyAhead count) = ⊤
