-- The words that a host is run with.
use Rattle.std.specs.Prelude.{◌≡◌, ℕ, ◌+◌, ◌-◌, ◌≤◌, List, All, Bool, codes, decimal, length, Option, None, Some}
use mathlib.Core.Logic.{◌⊎◌, inl, inr}
use Rattle.hose_doors.specs.Doors.{IsSocketPath, NamesDoor}
use Rattle.hose_doors.specs.Limits.{most_doors}
use Rattle.hose_words.specs.Numbers.{IsWithin}
use Rattle.hose_words.specs.Words.{IsFirst}
use Rattle.hose_words.specs.Shapes.{IsFirstWrong, Shape, Tells, Values, choice, flag, items, line_end, option, value, words_told}
use Rattle.hosed_requests.specs.ProgramWords.{file_and, with_tariff}

-- ---- what a host is to do

-- the word that a host's words begin with
abbrev pub host_word : List ℕ
host_word = codes "host"

-- the word that stands before the path of the operator's socket
abbrev pub operator_option : List ℕ
operator_option = codes "--operator"

-- the word by which no log is written
abbrev pub quiet_option : List ℕ
quiet_option = codes "--quiet"

-- the word that stands before the path of a standby's socket
abbrev pub standby_option : List ℕ
standby_option = codes "--standby"

-- the word that stands before the seconds for which nothing may be heard of the standby
abbrev pub seconds_option : List ℕ
seconds_option = codes "--standby-seconds"

-- the word by which the host ends where the standby is gone
abbrev pub stop_option : List ℕ
stop_option = codes "--standby-or-stop"

-- the standby of a host: the path of its socket, for how many seconds nothing may be heard of it,
-- where that is said, and whether the host ends where it is gone
pub record StandbyAsked : Type 0 where
  pub path : List ℕ
  pub seconds : Option ℕ
  pub or_stop : Bool

-- what a host is to do: by which tariff, if one is chosen, with which socket for the operator
-- alone, if there is one, with a log or without, with which standby, if there is one, by which
-- topology and journal, and at which doors
pub record HostAsked : Type 0 where
  pub tariff : Option ℕ
  pub operator : Option (List ℕ)
  pub quiet : Bool
  pub standby : Option StandbyAsked
  pub topology : List ℕ
  pub journal : List ℕ
  pub doors : List (List ℕ)

-- ---- the words of it

-- for so many seconds nothing may be heard of a standby
abbrev pub IsPatience : ℕ → Type 0
IsPatience seconds = IsWithin 1 3600 seconds

-- words name the doors of one host, which may have more of them
pub record AreDoorWords (words : List (List ℕ)) : Type 0 where
  pub few : length words ≤ most_doors
  pub doors : All NamesDoor words

-- a topology, a journal, and the doors of a host, one at least
abbrev pub hosted : Shape
hosted = file_and (λ topology. file_and (λ journal. items AreDoorWords (λ door. door) 1))

-- the path of a standby's socket, its seconds if they are said, whether a host ends where it is
-- gone, and what comes after them
abbrev pub standby_and : Shape → Shape
standby_and shape = value IsSocketPath (λ path. path)
    (λ path. option seconds_option IsPatience decimal (flag stop_option shape))

-- what comes after the first word of a host, where the tariffs have these names
abbrev pub host_shape : List (List ℕ) → Shape
host_shape names = with_tariff (option operator_option IsSocketPath (λ path. path)
    (flag quiet_option (choice standby_option (standby_and hosted) hosted))) names

-- what words tell of a standby, if there is one, before a topology, a journal and doors
abbrev pub with_standby : Option StandbyAsked → Values hosted
    → Values (standby_and hosted) ⊎ Values hosted
with_standby None files = inr files
with_standby (Some standby) files =
    inl (standby.path, (standby.seconds, (standby.or_stop, files)))

-- what words tell after the first one, where such a host is asked for
abbrev pub host_values : (names : List (List ℕ)) → HostAsked → Values (host_shape names)
host_values names asked = (
  asked.tariff,
  (
    asked.operator,
    (asked.quiet, with_standby asked.standby (asked.topology, (asked.journal, asked.doors))),
  ),
)

-- the words that a host may be run with
abbrev pub host_words_shape : List (List ℕ) → Shape
host_words_shape names = value (λ word. word ≡ host_word) (λ word. word) (λ word. host_shape names)

-- the words are those of this host
abbrev pub AreHostWords : List (List ℕ) → List (List ℕ) → HostAsked → Type 0
AreHostWords names words asked =
    Tells (host_words_shape names) words (host_word, host_values names asked)

-- the first of the words of a host that is not allowed
abbrev pub IsFirstWrongOfHost : List (List ℕ) → List (List ℕ) → ℕ → Type 0
IsFirstWrongOfHost names words word = IsFirstWrong (host_words_shape names) words word

-- the number of the word that names the operator's socket, counted from 1
abbrev pub operator_number : List (List ℕ) → HostAsked → ℕ
operator_number names asked =
    length (words_told (with_tariff line_end names) (asked.tariff, tt)) + 3

-- the number of the word that names the first of the other doors, which are the last words
abbrev pub first_door : List (List ℕ) → HostAsked → ℕ
first_door names asked =
    length (words_told (host_shape names) (host_values names asked)) + 2 - length asked.doors

-- the first word is `host`
abbrev pub AsksToHost : List (List ℕ) → Type 0
AsksToHost words = IsFirst (λ word. word ≡ host_word) words
