-- The words that a host is run with, by forms: steps of proofs.
use Rattle.std.specs.Prelude.{◌≡◌, ℕ, ◌+◌, ◌≤◌, List, [], ◌∷◌, ◌++◌, Bool, true, false, decimal, length, MatchOption, Option, None, Some, ⊤}
use Rattle.hose_doors.specs.Doors.{IsSocketPath}
use Rattle.hose_words.specs.steps.Form.{Form, TellsNumber, grammar_of, list, place, this}
use Rattle.hose_words.specs.steps.Grammar.{IsFirstNotAllowed}
use Rattle.hosed_requests.specs.HostNaming.{asked_of}
use Rattle.hosed_requests.specs.HostWords.{AreDoorWords, HostAsked, IsPatience, StandbyAsked, host_word, operator_option, quiet_option, seconds_option, standby_option, stop_option}
use Rattle.hosed_requests.specs.ProgramWords.{IsFileName}
use Rattle.hosed_requests.specs.steps.Arguments.{FirstWord, IsChosen, first_form, first_with_tariff, tariff_words, with_option}
use Rattle.hosed_requests.specs.declared.host_line.HostWords.{HostWords}

-- ---- the words of it

-- the words of the operator's socket, if there is one
abbrev pub operator_words : Option (List ℕ) → List (List ℕ)
operator_words None = []
operator_words (Some path) = operator_option ∷ path ∷ []

-- the words by which no log is written, or one is
abbrev pub quiet_words : Bool → List (List ℕ)
quiet_words true = quiet_option ∷ []
quiet_words false = []

-- the words of a standby's seconds, if they are said
abbrev pub seconds_words : Option ℕ → List (List ℕ)
seconds_words None = []
seconds_words (Some seconds) = seconds_option ∷ decimal seconds ∷ []

-- the words by which a host ends where its standby is gone, or does not
abbrev pub stop_words : Bool → List (List ℕ)
stop_words true = stop_option ∷ []
stop_words false = []

-- the words of a standby, if there is one
abbrev pub standby_words : Option StandbyAsked → List (List ℕ)
standby_words None = []
standby_words (Some standby) = standby_option ∷ standby.path
    ∷ (seconds_words standby.seconds ++ stop_words standby.or_stop)

-- the words of a host
abbrev pub host_line : List (List ℕ) → HostAsked → List (List ℕ)
host_line names asked =
    host_word ∷ tariff_words names asked.tariff ++ (operator_words asked.operator
    ++ (quiet_words asked.quiet ++ (standby_words asked.standby
    ++ asked.topology ∷ asked.journal ∷ asked.doors)))

-- a standby may be so
pub record MayStandBy (standby : StandbyAsked) : Type 0 where
  pub path : IsSocketPath standby.path
  pub seconds : MatchOption standby.seconds ⊤ IsPatience

-- a host may be asked so: of tariffs with these names the chosen one is there, and at least one
-- door is named
pub record MayHost (names : List (List ℕ)) (asked : HostAsked) : Type 0 where
  pub tariff : IsChosen names asked.tariff
  pub operator : MatchOption asked.operator ⊤ IsSocketPath
  pub standby : MatchOption asked.standby ⊤ MayStandBy
  pub topology : IsFileName asked.topology
  pub journal : IsFileName asked.journal
  pub some : 1 ≤ length asked.doors
  pub doors : AreDoorWords asked.doors

-- the words are those of a host, which may be asked so
pub record AreHostLine (names words : List (List ℕ)) (asked : HostAsked) : Type 0 where
  pub are : words ≡ host_line names asked
  pub may : MayHost names asked

-- the number of the word that names the operator's socket, counted from 1
abbrev pub operator_place : List (List ℕ) → HostAsked → ℕ
operator_place names asked = length (tariff_words names asked.tariff) + 3

-- the number of the word that names the first of the other doors
abbrev pub first_door_place : List (List ℕ) → HostAsked → ℕ
first_door_place names asked =
    length (tariff_words names asked.tariff) + length (operator_words asked.operator)
    + length (quiet_words asked.quiet) + length (standby_words asked.standby) + 4

-- the words are those of this host, and the numbers are those of the words that name its doors
pub record ReadsHostLine (names words : List (List ℕ)) (found : HostWords) : Type 0 where
  pub asked : AreHostLine names words (asked_of found)
  pub operator : MatchOption found.operator ⊤
      (λ operator. operator.1 ≡ operator_place names (asked_of found))
  pub first : found.first ≡ first_door_place names (asked_of found)

-- ---- which words are wrong

-- the doors of a host, one at least
abbrev pub doors_form : Form
doors_form = list (λ word. word) AreDoorWords 1

-- the name of a topology, and after it that of a journal and the doors
abbrev pub files_first : FirstWord
files_first = record { may = IsFileName; after = λ topology. place IsFileName doors_form }

-- what may stand first, and before it the choice of an end where the standby is gone or none
abbrev pub with_stop : FirstWord → FirstWord
with_stop first = with_option stop_option (first_form first) first

-- what may stand first, and before it the seconds of a standby or none
abbrev pub with_seconds : FirstWord → FirstWord
with_seconds first = with_option seconds_option (place (TellsNumber IsPatience) (first_form first))
    first

-- what may stand first, and before it a standby or none
abbrev pub first_with_standby : FirstWord → FirstWord
first_with_standby first = with_option standby_option
    (place IsSocketPath (first_form (with_seconds (with_stop first)))) first

-- what may stand first, and before it the choice of no log or none
abbrev pub with_quiet : FirstWord → FirstWord
with_quiet first = with_option quiet_option (first_form first) first

-- what may stand first, and before it the path of the operator's socket or none
abbrev pub with_operator : FirstWord → FirstWord
with_operator first = with_option operator_option (place IsSocketPath (first_form first)) first

-- what may stand first after the choice of a tariff
abbrev pub host_first : FirstWord
host_first = with_operator (with_quiet (first_with_standby files_first))

-- what the words of a host may be
abbrev pub host_form : List (List ℕ) → Form
host_form names =
    this host_word (first_form (first_with_tariff names (first_form host_first) host_first))

-- the first of the words of a host that is not allowed
abbrev pub IsFirstUnfitOfHost : List (List ℕ) → List (List ℕ) → ℕ → Type 0
IsFirstUnfitOfHost names words word =
    IsFirstNotAllowed (grammar_of (host_form names)) [] words word
