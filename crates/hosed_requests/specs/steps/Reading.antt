-- What is read of the program's words.
use Rattle.std.specs.Prelude.{◌≡◌, ◌⊎◌, ℕ, ◌+◌, List, [], ◌∷◌, get_or, Bool, true, false, Option, None, Some, MatchResult, Result}
use Rattle.hose_words.specs.steps.Cursor.{Misses, Took}
use Rattle.hose_words.specs.Words.{IsFirst}
use Rattle.hosed_requests.specs.ProgramWords.{AsksFor, IsFileName, IsFirstNamed, live_option, program_word, tariff_option}
use Rattle.hosed_requests.specs.steps.Arguments.{IsFirstUnfit, IsTariffName, IsOtherFile, MayBeAsked, argument_words, verb_arguments}
use Rattle.hosed_requests.specs.steps.ProgramWords.{AreWordsOf, at_word, journal_task}
use Rattle.hosed_requests.specs.declared.verb.ProgramVerb.{ProgramVerb}
use Rattle.hosed_requests.specs.declared.verb.ProgramVerb.TheVariants as command
use Rattle.hosed_requests.specs.declared.words.OfJournal.{OfJournal}
use Rattle.hosed_requests.specs.declared.words.OfTopology.{OfTopology}
use Rattle.hose_outside.specs.declared.reading.Names.{Names}
use Rattle.hosed_requests.specs.declared.words.Request.{Request}

-- the request of the words, or the first of them that is not allowed
abbrev pub ReadsRequest : List (List ℕ) → List (List ℕ) → Result Request ℕ → Type 0
ReadsRequest names words result =
    MatchResult result (AreWordsOf names words) (IsFirstUnfit names words)

-- the second word is not the option, and the others follow from it on
pub record HasNoTariff (words : List (List ℕ)) (at : ℕ) : Type 0 where
  pub at_once : at ≡ 2
  pub none : ¬ IsFirst (λ word. word ≡ tariff_option) (at_word 2 words).left

-- the option and the name of the tariff of this place came, and the others follow
pub record HasTariff (names words : List (List ℕ)) (place at : ℕ) : Type 0 where
  pub later : at ≡ 4
  pub option : Took (at_word 2 words) (at_word 3 words) tariff_option
  pub name : Took (at_word 3 words) (at_word 4 words) (get_or names place [])
  pub is : IsFirstNamed names place

-- a tariff was chosen, or none, and the words from this number on follow
abbrev pub Chooses : List (List ℕ) → List (List ℕ) → Option ℕ → ℕ → Type 0
Chooses names words None at = HasNoTariff words at
Chooses names words (Some which) at = HasTariff names words which at

-- a tariff was chosen, or none, and the name of a topology came; the words from this number on
-- follow
pub record NamesTopology (names words : List (List ℕ)) (of : OfTopology) (at : ℕ) : Type 0 where
  pub from : ℕ
  pub next : at ≡ from + 1
  pub chosen : Chooses names words of.tariff from
  pub took : Took (at_word from words) (at_word (from + 1) words) of.topology.now
  pub is : IsFileName of.topology.now

-- the name of a journal came after them
pub record NamesJournal (names words : List (List ℕ)) (of : OfJournal) (at : ℕ) : Type 0 where
  pub from : ℕ
  pub next : at ≡ from + 1
  pub topology : NamesTopology names words
      (record { tariff = of.tariff; topology = of.names.topology }) from
  pub took : Took (at_word from words) (at_word (from + 1) words) of.names.journal.now
  pub is : IsFileName of.names.journal.now

-- the option came, and the word after it, of this number, is the name of no tariff
pub record NamesNoTariff (names words : List (List ℕ)) (number : ℕ) : Type 0 where
  pub option : Took (at_word 2 words) (at_word 3 words) tariff_option
  pub misses : Misses (IsTariffName names) (at_word 3 words) number

-- no topology is named: there is no such tariff, or the word of this number names no file
abbrev pub NamesNoTopology : List (List ℕ) → List (List ℕ) → ℕ → Type 0
NamesNoTopology names words number = NamesNoTariff names words number
    ⊎ ((tariff : Option ℕ) × (from : ℕ) × Chooses names words tariff from
    × Misses IsFileName (at_word from words) number)

-- no journal is: there is no topology, or the word after its name names no file
abbrev pub NamesNoJournal : List (List ℕ) → List (List ℕ) → ℕ → Type 0
NamesNoJournal names words number = NamesNoTopology names words number
    ⊎ ((of : OfTopology) × (from : ℕ) × NamesTopology names words of from
    × Misses IsFileName (at_word from words) number)

-- the word of this number is the name of this file
pub record NamesFile (words : List (List ℕ)) (at : ℕ) (name : List ℕ) : Type 0 where
  pub took : Took (at_word at words) (at_word (at + 1) words) name
  pub is : IsFileName name

-- The word of a number says that the live VPNs alone are moved, and the others follow; or it does
-- not, and they follow from it on.
abbrev pub ChoosesLive : List (List ℕ) → ℕ → Bool → ℕ → Type 0
ChoosesLive words from true at =
    Took (at_word from words) (at_word at words) live_option × (at ≡ from + 1)
ChoosesLive words from false at =
    (¬ IsFirst (λ word. word ≡ live_option) (at_word from words).left) × (at ≡ from)

-- the words from a number on name a topology, a journal, a new topology, and a journal of another
-- name, and the others follow
pub record NamesMove (words : List (List ℕ)) (at next : ℕ) (of to : Names) : Type 0 where
  pub after : next ≡ at + 4
  pub topology : NamesFile words at of.topology.now
  pub journal : NamesFile words (at + 1) of.journal.now
  pub new_topology : NamesFile words (at + 2) to.topology.now
  pub new_journal : Took (at_word (at + 3) words) (at_word (at + 3 + 1) words) to.journal.now
  pub is_other : IsOtherFile of.journal.now to.journal.now

-- the words are that of such a command and those of what it names, and no more
pub record AreJournalWords (names words : List (List ℕ)) (of : OfJournal) : Type 0 where
  pub are : (verb : ProgramVerb) → AsksFor verb words → words ≡ program_word verb
      ∷ argument_words names (verb_arguments command.Audit) (journal_task of)
  pub may : MayBeAsked names (verb_arguments command.Audit) (journal_task of)
