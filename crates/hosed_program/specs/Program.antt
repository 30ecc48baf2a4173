-- What the program's words ask for, and what comes of them.
use Rattle.std.specs.Prelude.{◌≡◌, ◌⊎◌, ℕ, Bool, true, ◌-◌, ◌^◌, ◌<◌, List, [], ◌∷◌, codes, if◌then◌else◌, IfSome, length, Option, Ok, ⊤}
use Rattle.std.specs.Str.{bytes_eq}
use Rattle.hose_outside.specs.Ending.{EndsTold, IsOut}
use Rattle.hose_outside.specs.Fault.{last_line}
use Rattle.hose_outside.specs.Parts.{DoorParts, Tellings, door_parts}
use Rattle.hose_outside.specs.declared.fault.Fault.TheVariants.{Memory}
use Rattle.hosed.specs.Hosed.{HosedOutcome, OutputAlone}
use Rattle.hosed.specs.Offline.{Offer}
use Rattle.hosed.specs.ServerDoor.{DoorSeen}
use Rattle.hosed_requests.specs.HostWords.{AsksToHost}
use Rattle.hosed_host.specs.HostBook.{DoorTellings}
use Rattle.hosed_program.specs.Given.{AreTextsOf}
use Rattle.hosed_program.specs.HostCommand.{HostCommand}
use Rattle.hosed_program.specs.declared.choice.TextOrCommand.{TextOrCommand}
use Rattle.hosed_program.specs.declared.choice.TextOrCommand.TheVariants.{Help, Version, Command}
use Rattle.hosed_program.specs.declared.texts.TheConstants.{HELP, VERSION}

-- a word asks what the words are
abbrev pub asks_help : List ℕ → Bool
asks_help word = if bytes_eq word (codes "--help") then true
    else if bytes_eq word (codes "-h") then true else bytes_eq word (codes "help")

-- `--help`, `-h` or `help` alone, `--version` alone, or anything else
abbrev pub text_or_command : List (List ℕ) → TextOrCommand
text_or_command (word ∷ []) =
    if asks_help word then Help
    else if bytes_eq word (codes "--version") then Version else Command
text_or_command _ = Command

module _ {I O C E : Type 0} (tells : Tellings I O C E)
    (before after : DoorParts I O C DoorSeen) where
  -- nothing was done but that a text was put out, or a part of it, where the output failed
  abbrev pub TellsText : List ℕ → ℕ → Type 0
  TellsText text status = OutputAlone before after
      × EndsTold {T = ⊤} tells.sink before.parts.output after.parts.output status (Ok tt) text

  module _ (offer : Offer) (status : ℕ) where
    -- What the program's words come to: a text about itself, or all that the server's one call
    -- says.
    pub record ProgramOutcome (words : List (List ℕ)) : Type 0 where
      pub help : text_or_command words ≡ Help → TellsText HELP.now status
      pub version : text_or_command words ≡ Version → TellsText VERSION.now status
      pub command : text_or_command words ≡ Command
          → HosedOutcome tells offer before after status words

module _ {I O C E D N : Type 0} (tells : Tellings I O C E) (by : DoorTellings D N E) (offer : Offer)
    (before after : DoorParts I O C (DoorSeen × D)) (status : ℕ) where
  -- What the program's words come to, those of a host too: it leaves the one door as it is, and all
  -- others the doors of a host.
  pub record WordsOutcome (words : List (List ℕ)) : Type 0 where
    pub others : (¬ AsksToHost words) → ProgramOutcome tells
        (door_parts before.parts before.door.0) (door_parts after.parts after.door.0) offer status
        words × (after.door.1 ≡ before.door.1)
    pub host : AsksToHost words → HostCommand tells by offer
        (door_parts before.parts before.door.1) (door_parts after.parts after.door.1) status words
        × (after.door.0 ≡ before.door.0)

  -- What starting the program comes to, with words that are told or not: they were all taken, in
  -- order, and came to this; or there was no memory for them, and the last line says so.
  abbrev pub StartOutcome : Option (List (List ℕ)) → Type 0
  StartOutcome told = ((words : List (List ℕ))
      × IfSome told (λ all. length all < 2 ^ 64 - 1 → AreTextsOf all words)
      × WordsOutcome words)
      ⊎ ((status ≡ 7) × OutputAlone before after
      × IsOut tells.sink before.parts.output after.parts.output (last_line Memory))
