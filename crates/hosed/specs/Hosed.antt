-- What the program's words come to.
use Rattle.std.specs.Prelude.{◌≡◌, ◌↔◌, ℕ, List}
use Rattle.hose_words.specs.Shapes.{IsFirstWrong}
use Rattle.hose_outside.specs.Reading.{priced_names}
use Rattle.hose_outside.specs.Ending.{IsOut}
use Rattle.hose_outside.specs.Fault.{last_line}
use Rattle.hose_outside.specs.Parts.{DoorParts, Tellings}
use Rattle.hosed.specs.Offline.{Offer, OfflineOutcome}
use Rattle.hosed_requests.specs.ProgramWords.{AreWords, AreWrongWords, AsksToServe, Task, words_shape}
use Rattle.hosed_requests.specs.declared.verb.ProgramVerb.TheVariants as command
use Rattle.hosed.specs.ServeOutcome.{ServeOutcome}
use Rattle.hosed.specs.ServerDoor.{DoorSeen}
use Rattle.hose_outside.specs.declared.fault.Fault.TheVariants.{Words}

-- nothing but the output is another one
pub record OutputAlone {I O C D : Type 0} (before after : DoorParts I O C D) : Type 0 where
  pub input : after.parts.input ≡ before.parts.input
  pub cabinet : after.parts.cabinet ≡ before.parts.cabinet
  pub door : after.door ≡ before.door

module _ {I O C E : Type 0} (tells : Tellings I O C E) (offer : Offer)
    (before after : DoorParts I O C DoorSeen) (status : ℕ) where
  -- A server did what its task says, at the prices of the tariff that is chosen.
  abbrev pub Serves : Task offer.pricing.names command.Serve → Type 0
  Serves (tariff, (topology, (journal, (port, (connections, (workers, _)))))) =
      ServeOutcome tells (priced_names (offer.prices tariff) topology journal)
      (record { port = port; connections = connections }) before after status

  -- Words that do not begin with `serve` come to what they come to for every command that waits for
  -- nobody, and nothing is done to the door. Of those that do, wrong ones end with the status 1 and
  -- take nothing; the last line tells the first of them that is not allowed. Right ones do what a
  -- server does.
  pub record HosedOutcome (words : List (List ℕ)) : Type 0 where
    pub offline : ¬ AsksToServe words → OfflineOutcome tells offer before.parts after.parts status
        words × (after.door ≡ before.door)
    pub words_at_1 : AsksToServe words → (status ≡ 1) ↔ AreWrongWords offer.pricing.names words
    pub wrong_words : AsksToServe words → status ≡ 1 → OutputAlone before after
        × ((word : ℕ) × IsFirstWrong (words_shape offer.pricing.names) words word
        × IsOut tells.sink before.parts.output after.parts.output (last_line (Words word)))
    pub serves : (task : Task offer.pricing.names command.Serve)
        → AreWords offer.pricing.names words command.Serve task → Serves task
