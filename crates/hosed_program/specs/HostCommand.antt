-- What the words of a host come to.
use Rattle.std.specs.Prelude.{◌≡◌, ◌↔◌, ℕ, List, option_map}
use Rattle.hose_outside.specs.Reading.{priced_names}
use Rattle.hose_outside.specs.Ending.{IsOut}
use Rattle.hose_outside.specs.Fault.{last_line}
use Rattle.hose_outside.specs.Parts.{DoorParts, Tellings}
use Rattle.hose_outside.specs.declared.fault.Fault.TheVariants.{Words}
use Rattle.hosed.specs.Hosed.{OutputAlone}
use Rattle.hosed_requests.specs.HostWords.{AreHostWords, HostAsked, IsFirstWrongOfHost, StandbyAsked, first_door, operator_number}
use Rattle.hosed.specs.Offline.{Offer}
use Rattle.hosed_host.specs.HostBook.{DoorTellings}
use Rattle.hosed_host.specs.HostDoors.{DoorsAsked, StandbyPlace}
use Rattle.hosed_host.specs.HostOutcome.{HostOutcome}

-- where a standby is, and what is done where it is gone
abbrev pub place_of : StandbyAsked → StandbyPlace
place_of standby = record { path = standby.path; or_stop = standby.or_stop }

-- the doors that a host is asked for, with the numbers of their words
abbrev pub doors_of : List (List ℕ) → HostAsked → DoorsAsked
doors_of names asked = record {
  operator = option_map (λ path. (path, operator_number names asked)) asked.operator;
  doors = asked.doors;
  first = first_door names asked;
  standby = option_map place_of asked.standby;
}

module _ {I O C E D N : Type 0} (tells : Tellings I O C E) (by : DoorTellings D N E) (offer : Offer)
    (before after : DoorParts I O C D) (status : ℕ) where
  -- Words that are wrong end with the status 1 and take nothing; the last line tells the first of
  -- them that is not allowed. Right ones do what a host does, at the prices of the tariff that is
  -- chosen.
  pub record HostCommand (words : List (List ℕ)) : Type 0 where
    pub words_at_1 : (status ≡ 1)
        ↔ ((asked : HostAsked) → ¬ AreHostWords offer.pricing.names words asked)
    pub wrong_words : status ≡ 1 → OutputAlone before after
        × ((word : ℕ) × IsFirstWrongOfHost offer.pricing.names words word
        × IsOut tells.sink before.parts.output after.parts.output (last_line (Words word)))
    pub hosts : (asked : HostAsked) → AreHostWords offer.pricing.names words asked
        → HostOutcome tells by
        (priced_names (offer.prices asked.tariff) asked.topology asked.journal)
        (doors_of offer.pricing.names asked) before after status
