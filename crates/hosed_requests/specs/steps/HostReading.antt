-- What is read of the words of a host.
use Rattle.std.specs.Prelude.{◌≡◌, ◌⊎◌, ℕ, ◌+◌, ◌≤◌, List, Bool, true, false, Option, None, Some, decimal, length}
use Rattle.std.specs.Borrow.{Bor}
use Rattle.hose_doors.specs.Doors.{IsSocketPath}
use Rattle.hose_words.specs.steps.Form.{TellsNumber}
use Rattle.hose_words.specs.Words.{IsFirst}
use Rattle.hose_words.specs.steps.Cursor.{Misses, Took}
use Rattle.hosed_requests.specs.HostWords.{AreDoorWords, IsPatience, operator_option, seconds_option, standby_option, stop_option}
use Rattle.hosed_requests.specs.declared.host_line.StandbyWords.{StandbyWords}
use Rattle.hosed_requests.specs.steps.ProgramWords.{at_word}
use Rattle.hosed_requests.specs.steps.Reading.{NamesFile}

-- the option and the path of a socket came, of which this is the number, and the others follow
pub record HasOperator (words : List (List ℕ)) (from : ℕ) (path : List ℕ) (number at : ℕ) :
    Type 0 where
  pub later : at ≡ from + 2
  pub numbered : number ≡ from + 1
  pub option : Took (at_word from words) (at_word (from + 1) words) operator_option
  pub took : Took (at_word (from + 1) words) (at_word (from + 1 + 1) words) path
  pub is : IsSocketPath path

-- The word of a number says that the operator has a socket, which the next one names, and the
-- others follow; or it does not, and they follow from it on.
abbrev pub ChoosesOperator : List (List ℕ) → ℕ → Option (Bor (List ℕ) × ℕ) → ℕ → Type 0
ChoosesOperator words from None at =
    (¬ IsFirst (λ word. word ≡ operator_option) (at_word from words).left) × (at ≡ from)
ChoosesOperator words from (Some operator) at =
    HasOperator words from operator.0.now operator.1 at

-- the option came, and the word after it, of this number, is the path of no socket
pub record NamesNoOperator (words : List (List ℕ)) (from number : ℕ) : Type 0 where
  pub option : Took (at_word from words) (at_word (from + 1) words) operator_option
  pub misses : Misses IsSocketPath (at_word (from + 1) words) number

-- The word of a number is this one, and the others follow; or it is not, and they follow from it
-- on.
abbrev pub ChoosesFlag : List ℕ → List (List ℕ) → ℕ → Bool → ℕ → Type 0
ChoosesFlag flag words from true at =
    Took (at_word from words) (at_word at words) flag × (at ≡ from + 1)
ChoosesFlag flag words from false at =
    (¬ IsFirst (λ word. word ≡ flag) (at_word from words).left) × (at ≡ from)

-- the option and a number of seconds came, and the others follow
pub record HasSeconds (words : List (List ℕ)) (from seconds at : ℕ) : Type 0 where
  pub later : at ≡ from + 2
  pub option : Took (at_word from words) (at_word (from + 1) words) seconds_option
  pub took : Took (at_word (from + 1) words) (at_word (from + 1 + 1) words) (decimal seconds)
  pub is : IsPatience seconds

-- The word of a number says that seconds are told, by the next one, and the others follow; or it
-- does not, and they follow from it on.
abbrev pub ChoosesSeconds : List (List ℕ) → ℕ → Option ℕ → ℕ → Type 0
ChoosesSeconds words from None at =
    (¬ IsFirst (λ word. word ≡ seconds_option) (at_word from words).left) × (at ≡ from)
ChoosesSeconds words from (Some seconds) at = HasSeconds words from seconds at

-- the option came, and the word after it, of this number, is no number of seconds
pub record NamesNoSeconds (words : List (List ℕ)) (from number : ℕ) : Type 0 where
  pub option : Took (at_word from words) (at_word (from + 1) words) seconds_option
  pub misses : Misses (TellsNumber IsPatience) (at_word (from + 1) words) number

-- from a number on the words name a standby's socket and say what they say of it, and the others
-- follow
pub record HasStandby (words : List (List ℕ)) (from : ℕ) (standby : StandbyWords) (at : ℕ) :
    Type 0 where
  pub took : Took (at_word from words) (at_word (from + 1) words) standby.path.now
  pub is : IsSocketPath standby.path.now
  pub later : ℕ
  pub seconds : ChoosesSeconds words (from + 1) standby.seconds later
  pub stop : ChoosesFlag stop_option words later standby.or_stop at

-- The word of a number says that there is a standby, and those after it tell which; or it does not,
-- and the others follow from it on.
abbrev pub ChoosesStandby : List (List ℕ) → ℕ → Option StandbyWords → ℕ → Type 0
ChoosesStandby words from None at =
    (¬ IsFirst (λ word. word ≡ standby_option) (at_word from words).left) × (at ≡ from)
ChoosesStandby words from (Some standby) at =
    Took (at_word from words) (at_word (from + 1) words) standby_option
    × HasStandby words (from + 1) standby at

-- from a number on the words name no standby: this one is the path of no socket, or it is, and the
-- seconds are none
abbrev pub MissesStandby : List (List ℕ) → ℕ → ℕ → Type 0
MissesStandby words from number = Misses IsSocketPath (at_word from words) number
    ⊎ ((path : List ℕ) × Took (at_word from words) (at_word (from + 1) words) path
    × IsSocketPath path × NamesNoSeconds words (from + 1) number)

-- the option came, and after it no standby
pub record NamesNoStandby (words : List (List ℕ)) (from number : ℕ) : Type 0 where
  pub option : Took (at_word from words) (at_word (from + 1) words) standby_option
  pub misses : MissesStandby words (from + 1) number

-- the words from a number on name a topology, a journal, and then doors, up to the last one
pub record NamesHosted (words : List (List ℕ)) (at : ℕ) (of_topology of_journal : List ℕ)
    (of_doors : List (List ℕ)) : Type 0 where
  pub topology : NamesFile words at of_topology
  pub journal : NamesFile words (at + 1) of_journal
  pub doors : of_doors ≡ (at_word (at + 2) words).left
  pub some : 1 ≤ length of_doors
  pub are : AreDoorWords of_doors
