-- The doors that the words of a host ask for, and what comes of a host that was lent what it needs.
use Rattle.std.proofs.Common.{◌≡◌, ℕ, List, Option, None, Some, option_map, refl, subst}
use Rattle.hose_outside.specs.Reading.{PricedNames}
use Rattle.hose_outside.specs.Parts.{Parts, Tellings, door_parts, parts}
use Rattle.hosed_requests.specs.HostNaming.{ReadsHost, asked_of, standby_of}
use Rattle.hosed_requests.specs.declared.host_line.HostWords.{HostWords}
use Rattle.hosed_requests.specs.declared.host_line.StandbyWords.{StandbyWords}
use Rattle.hosed_requests.proofs.HostShapes.{operator_numbered}
use Rattle.hosed_host.specs.HostBook.{DoorTellings}
use Rattle.hosed_host.specs.HostDoors.{DoorsAsked}
use Rattle.hosed_host.specs.HostOutcome.{FailsHost, HostOutcome}
use Rattle.hosed_host.specs.declared.why.HostWhy.{HostWhy}
use Rattle.hosed_host.specs.steps.HostOutcome.{asked_of as doors_asked, plan_at}
use Rattle.hosed_program.specs.HostCommand.{doors_of, place_of}
use Rattle.hosed_program.specs.steps.HostWords.{doors_said, plan_said}

-- the standby that is led is the one that the words tell
same_standby : (said : Option StandbyWords) → option_map plan_at (option_map plan_said said) ≡ option_map place_of (option_map standby_of said)
same_standby None = refl
same_standby (Some standby) = refl

-- the doors that are opened are those that the words ask for
pub same_doors : (names words : List (List ℕ)) (said : HostWords) → ReadsHost names words said → doors_asked (doors_said said) ≡ doors_of names (asked_of said)
same_doors names words said reads = λ i. record {
  operator = operator_numbered names words said reads i;
  doors = (asked_of said).doors;
  first = reads.first i;
  standby = same_standby said.standby i;
}

-- what was lent is what there is now
pub hosted_of : {I O C E D N : Type 0} {tells : Tellings I O C E} {by : DoorTellings D N E} {names : PricedNames} {asked : DoorsAsked} {before was : Parts I O C} {doors doors' : D} {status : ℕ} (after : Parts I O C) {input : I} {output : O} {cabinet : C} → before ≡ was → after.input ≡ input → after.output ≡ output → after.cabinet ≡ cabinet
    → HostOutcome tells by names asked (door_parts before doors) (door_parts after doors') status → HostOutcome tells by names asked (door_parts was doors) (door_parts (parts input output cabinet) doors') status
hosted_of {tells = tells} {by = by} {names = names} {asked = asked} {was = was} {doors = doors} {doors' = doors'} {status = status} after lent input output cabinet outcome =
    subst (λ (now : Parts _ _ _). HostOutcome tells by names asked (door_parts was doors) (door_parts now doors') status) (λ i. parts (input i) (output i) (cabinet i))
    (subst (λ (old : Parts _ _ _). HostOutcome tells by names asked (door_parts old doors) (door_parts after doors') status) lent outcome)

-- and so is which of its files or doors a host tells as the one that failed
pub host_fails_of : {I O C E D N : Type 0} (tells : Tellings I O C E) (by : DoorTellings D N E) (names : PricedNames) (asked : DoorsAsked) (doors doors' : D) (why : HostWhy) {before was : Parts I O C} (after : Parts I O C) {input : I} {output : O} {cabinet : C} → before ≡ was → after.input ≡ input → after.output ≡ output → after.cabinet ≡ cabinet
    → FailsHost tells by names asked (door_parts before doors) (door_parts after doors') why → FailsHost tells by names asked (door_parts was doors) (door_parts (parts input output cabinet) doors') why
host_fails_of tells by names asked doors doors' why {was = was} after lent input output cabinet fails =
    subst (λ (now : Parts _ _ _). FailsHost tells by names asked (door_parts was doors) (door_parts now doors') why) (λ i. parts (input i) (output i) (cabinet i))
    (subst (λ (old : Parts _ _ _). FailsHost tells by names asked (door_parts old doors) (door_parts after doors') why) lent fails)
