-- The words of a host by their shape and by forms.
use Rattle.std.specs.Prelude.{MatchOption, decimal, ⊤}
use Rattle.std.specs.Borrow.{Bor}
use Rattle.std.proofs.Common.{◌≡◌, ◌∙◌, ℕ, ◌+◌, ◌≤◌, List, ◌∷◌, ◌++◌, Bool, true, false, Option, None, Some, inl, inr, length, length-append, option_map, refl, sym, ap, arith}
use Rattle.std.proofs.lemmas.List.Elements.{All-nil}
use mathlib.Core.List.{map-id}
use Rattle.hose_doors.specs.Doors.{IsSocketPath, NamesDoor}
use Rattle.hose_words.specs.steps.Form.{TellsNumber, grammar_of, place}
use Rattle.hose_words.specs.Shapes.{Shape, Values, choice, flag, line_end, option, words_told}
use Rattle.hose_words.specs.Shapes as shape
use Rattle.hose_words.proofs.Shapes.{Agrees, agrees_choice, agrees_flag, agrees_items, agrees_option, agrees_place, agrees_value, form_of_wrong, wrong_of_form}
use Rattle.hosed_requests.specs.HostNaming.{ReadsHost, asked_of}
use Rattle.hosed_requests.specs.HostWords.{AreDoorWords, AreHostWords, HostAsked, IsFirstWrongOfHost, IsPatience, StandbyAsked, first_door, host_shape, host_values, host_word, host_words_shape, hosted, operator_number, operator_option, quiet_option, seconds_option, standby_and, standby_option, stop_option, with_standby}
use Rattle.hosed_requests.specs.ProgramWords.{IsFileName, tariff_option, with_tariff}
use Rattle.hosed_requests.specs.steps.Arguments.{FirstWord, first_form, first_with_tariff, tariff_words, with_option}
use Rattle.hosed_requests.specs.steps.HostForms.{AreHostLine, IsFirstUnfitOfHost, MayStandBy, ReadsHostLine, doors_form, files_first, first_with_standby, host_first, host_form, host_line, operator_words, quiet_words, seconds_words, standby_words, stop_words, with_quiet, with_seconds, with_stop}
use Rattle.hosed_requests.specs.declared.host_line.HostWords.{HostWords}
use Rattle.hosed_requests.proofs.Commands.{no_file, same_apart}
use Rattle.hosed_requests.proofs.HostCommands.{no_operator_file, no_quiet_file, no_seconds_file, no_standby_file, no_stop_file, operator_is_no_tariff, quiet_is_no_operator, quiet_is_no_tariff, standby_is_no_operator, standby_is_no_quiet, standby_is_no_tariff, stop_is_no_seconds}
use Rattle.hosed_requests.proofs.HostCommands as by_forms
use Rattle.hosed_requests.proofs.HostDoors.{doors_closed}
use Rattle.hosed_requests.proofs.ProgramShapes.{adds_option, not_first, tariff_agrees}

-- ---- shapes by forms

-- a topology, a journal and doors
hosted_agrees : Agrees hosted (grammar_of (first_form files_first))
hosted_agrees = agrees_value (λ topology. place IsFileName doors_form) same_apart (λ topology _. agrees_place IsFileName doors_form (λ word is. (word, is, refl)) (λ word is. is)
    (λ journal _. agrees_items AreDoorWords (λ door. door) 1 doors_closed (record { few = omega arith; doors = All-nil NamesDoor })))

module _ (known : List ℕ) (first : FirstWord) (one : Shape) (never : first.may known → ⊥) (on : Agrees one (grammar_of (first_form first))) where
  -- a known word or not, before what agrees
  flag_agrees : Agrees (flag known one) (grammar_of (first_form (with_option known (first_form first) first)))
  flag_agrees = agrees_flag known (grammar_of (first_form first)) (grammar_of (first_form first)) (grammar_of (first_form (with_option known (first_form first) first)))
      (adds_option known (first_form first) first never) one on on (not_first known (first_form first) first never one on)

  -- the path of a socket after a known word, or not
  path_agrees : Agrees (option known IsSocketPath (λ path. path) one) (grammar_of (first_form (with_option known (place IsSocketPath (first_form first)) first)))
  path_agrees = agrees_option known (grammar_of (first_form first)) (grammar_of (place IsSocketPath (first_form first))) (grammar_of (first_form (with_option known (place IsSocketPath (first_form first)) first)))
      (adds_option known (place IsSocketPath (first_form first)) first never) IsSocketPath (λ path. path) one on
      (agrees_place IsSocketPath (first_form first) (λ word is. (word, is, refl)) (λ word is. is) (λ _ _. on)) (not_first known (place IsSocketPath (first_form first)) first never one on)

  -- a number of seconds after a known word, or not
  seconds_agree : Agrees (option known IsPatience decimal one) (grammar_of (first_form (with_option known (place (TellsNumber IsPatience) (first_form first)) first)))
  seconds_agree = agrees_option known (grammar_of (first_form first)) (grammar_of (place (TellsNumber IsPatience) (first_form first))) (grammar_of (first_form (with_option known (place (TellsNumber IsPatience) (first_form first)) first)))
      (adds_option known (place (TellsNumber IsPatience) (first_form first)) first never) IsPatience decimal one on
      (agrees_place (TellsNumber IsPatience) (first_form first) (λ word told. (told.0, told.2, told.1)) (λ number is. (number, refl, is)) (λ _ _. on)) (not_first known (place (TellsNumber IsPatience) (first_form first)) first never one on)

-- what stands after the path of a standby
abbrev after_path : FirstWord
after_path = with_seconds (with_stop files_first)

stop_agrees : Agrees (flag stop_option hosted) (grammar_of (first_form (with_stop files_first)))
stop_agrees = flag_agrees stop_option files_first hosted no_stop_file hosted_agrees

no_seconds_first : (with_stop files_first).may seconds_option → ⊥
no_seconds_first (inl same) = stop_is_no_seconds (sym same)
no_seconds_first (inr is) = no_seconds_file is

standby_agrees : Agrees (standby_and hosted) (grammar_of (place IsSocketPath (first_form after_path)))
standby_agrees = agrees_place IsSocketPath (first_form after_path) (λ word is. (word, is, refl)) (λ word is. is)
    (λ _ _. seconds_agree seconds_option (with_stop files_first) (flag stop_option hosted) no_seconds_first stop_agrees)

abbrev after_quiet : FirstWord
after_quiet = first_with_standby files_first

choice_agrees : Agrees (choice standby_option (standby_and hosted) hosted) (grammar_of (first_form after_quiet))
choice_agrees = agrees_choice standby_option (grammar_of (first_form files_first)) (grammar_of (place IsSocketPath (first_form after_path))) (grammar_of (first_form after_quiet))
    (adds_option standby_option (place IsSocketPath (first_form after_path)) files_first no_standby_file) (standby_and hosted) hosted hosted_agrees standby_agrees
    (not_first standby_option (place IsSocketPath (first_form after_path)) files_first no_standby_file hosted hosted_agrees)

no_quiet_first : after_quiet.may quiet_option → ⊥
no_quiet_first (inl same) = standby_is_no_quiet (sym same)
no_quiet_first (inr is) = no_quiet_file is

no_operator_first : (with_quiet after_quiet).may operator_option → ⊥
no_operator_first (inl same) = quiet_is_no_operator (sym same)
no_operator_first (inr (inl same)) = standby_is_no_operator (sym same)
no_operator_first (inr (inr is)) = no_operator_file is

no_tariff_first : host_first.may tariff_option → ⊥
no_tariff_first (inl same) = operator_is_no_tariff (sym same)
no_tariff_first (inr (inl same)) = quiet_is_no_tariff (sym same)
no_tariff_first (inr (inr (inl same))) = standby_is_no_tariff (sym same)
no_tariff_first (inr (inr (inr is))) = no_file is

-- what comes after the choice of no log, the operator's socket, and the tariff
abbrev quiet_shape : Shape
quiet_shape = choice standby_option (standby_and hosted) hosted

abbrev operator_shape : Shape
operator_shape = flag quiet_option quiet_shape

abbrev tariff_shape : Shape
tariff_shape = option operator_option IsSocketPath (λ path. path) operator_shape

host_agrees : (names : List (List ℕ)) → Agrees (host_words_shape names) (grammar_of (host_form names))
host_agrees names = agrees_place (λ word. word ≡ host_word) (first_form (first_with_tariff names (first_form host_first) host_first)) (λ word is. (word, is, refl)) (λ word is. is)
    (λ _ _. tariff_agrees names host_first tariff_shape no_tariff_first (path_agrees operator_option (with_quiet after_quiet) operator_shape no_operator_first (flag_agrees quiet_option after_quiet quiet_shape no_quiet_first choice_agrees)))

module _ (names words : List (List ℕ)) (number : ℕ) where
  -- the first of the words that is not allowed is that one by their forms
  pub unfit_wrong_of_host : IsFirstUnfitOfHost names words number → IsFirstWrongOfHost names words number
  unfit_wrong_of_host wrong = wrong_of_form (host_words_shape names) (grammar_of (host_form names)) (host_agrees names) words number wrong

  pub wrong_unfit_of_host : IsFirstWrongOfHost names words number → IsFirstUnfitOfHost names words number
  wrong_unfit_of_host wrong = form_of_wrong (host_words_shape names) (grammar_of (host_form names)) (host_agrees names) words number wrong

-- ---- the words of a host

tariff_told : (names : List (List ℕ)) (one : Shape) (tariff : Option ℕ) (told : Values one) → words_told (with_tariff one names) (tariff, told) ≡ tariff_words names tariff ++ words_told one told
tariff_told names one None told = refl
tariff_told names one (Some which) told = refl

operator_told : (one : Shape) (operator : Option (List ℕ)) (told : Values one) → words_told (option operator_option IsSocketPath (λ path. path) one) (operator, told) ≡ operator_words operator ++ words_told one told
operator_told one None told = refl
operator_told one (Some path) told = refl

quiet_told : (one : Shape) (quiet : Bool) (told : Values one) → words_told (flag quiet_option one) (quiet, told) ≡ quiet_words quiet ++ words_told one told
quiet_told one true told = refl
quiet_told one false told = refl

after_path_told : (seconds : Option ℕ) (stop : Bool) (files : Values hosted) → words_told (option seconds_option IsPatience decimal (flag stop_option hosted)) (seconds, (stop, files)) ≡ (seconds_words seconds ++ stop_words stop) ++ words_told hosted files
after_path_told None true files = refl
after_path_told None false files = refl
after_path_told (Some seconds) true files = refl
after_path_told (Some seconds) false files = refl

standby_told : (standby : Option StandbyAsked) (files : Values hosted) → words_told (choice standby_option (standby_and hosted) hosted) (with_standby standby files) ≡ standby_words standby ++ words_told hosted files
standby_told None files = refl
standby_told (Some standby) files = ap (λ (more : List (List ℕ)). standby_option ∷ standby.path ∷ more) (after_path_told standby.seconds standby.or_stop files)

hosted_told : (topology journal : List ℕ) (doors : List (List ℕ)) → words_told hosted (topology, (journal, doors)) ≡ topology ∷ journal ∷ doors
hosted_told topology journal doors = ap (λ (more : List (List ℕ)). topology ∷ journal ∷ more) (map-id doors)

module _ (names : List (List ℕ)) (asked : HostAsked) where
  abbrev files : Values hosted
  files = (asked.topology, (asked.journal, asked.doors))

  same_words : host_word ∷ words_told (host_shape names) (host_values names asked) ≡ host_line names asked
  same_words = ap (λ (more : List (List ℕ)). host_word ∷ more) (tariff_told names tariff_shape asked.tariff (asked.operator, (asked.quiet, with_standby asked.standby files))
      ∙ ap (λ (more : List (List ℕ)). tariff_words names asked.tariff ++ more) (operator_told operator_shape asked.operator (asked.quiet, with_standby asked.standby files)
      ∙ ap (λ (more : List (List ℕ)). operator_words asked.operator ++ more) (quiet_told quiet_shape asked.quiet (with_standby asked.standby files)
      ∙ ap (λ (more : List (List ℕ)). quiet_words asked.quiet ++ more) (standby_told asked.standby files
      ∙ ap (λ (more : List (List ℕ)). standby_words asked.standby ++ more) (hosted_told asked.topology asked.journal asked.doors)))))

  standby_may : (standby : Option StandbyAsked) → MatchOption standby ⊤ MayStandBy → IsFileName asked.topology → IsFileName asked.journal → AreDoorWords asked.doors → 1 ≤ length asked.doors
      → shape.MayBeTold (choice standby_option (standby_and hosted) hosted) (with_standby standby files)
  standby_may None may topology journal doors some = (topology, (journal, (doors, some)))
  standby_may (Some standby) may topology journal doors some = (may.path, (may.seconds, (topology, (journal, (doors, some)))))

  standby_back : (standby : Option StandbyAsked) → shape.MayBeTold (choice standby_option (standby_and hosted) hosted) (with_standby standby files)
      → (MatchOption standby ⊤ MayStandBy × shape.MayBeTold hosted files)
  standby_back None may = (tt, may)
  standby_back (Some standby) may = (record { path = may.0; seconds = may.1.0 }, may.1.1)

  module _ (words : List (List ℕ)) where
    -- words are those of a host where they are its line
    pub host_told : AreHostLine names words asked → AreHostWords names words asked
    host_told are = record {
      are = are.are ∙ sym same_words;
      may = (refl, (are.may.tariff, (are.may.operator, standby_may asked.standby are.may.standby are.may.topology are.may.journal are.may.doors are.may.some)));
    }

    pub host_back : AreHostWords names words asked → AreHostLine names words asked
    host_back are =
        let rest = standby_back asked.standby are.may.1.1.1 in
        record {
          are = are.are ∙ same_words;
          may = record {
            tariff = are.may.1.0;
            operator = are.may.1.1.0;
            standby = rest.0;
            topology = rest.1.0;
            journal = rest.1.1.0;
            some = rest.1.1.1.1;
            doors = rest.1.1.1.0;
          };
        }

-- ---- what crates above are told

pub none_wrong_of_host : (names words : List (List ℕ)) (asked : HostAsked) (number : ℕ) → AreHostWords names words asked → IsFirstWrongOfHost names words number → ⊥
none_wrong_of_host names words asked number are wrong = by_forms.none_wrong_of_host names words asked number (host_back names asked words are) (wrong_unfit_of_host names words number wrong)

pub of_one_host : (names words : List (List ℕ)) (P : HostAsked → Type 0) (asked : HostAsked) → AreHostWords names words asked → P asked → (other : HostAsked) → AreHostWords names words other → P other
of_one_host names words P asked are holds other are' = by_forms.of_one_host names words P asked (host_back names asked words are) holds other (host_back names other words are')

-- words are those of one host at most
pub one_host : (names words : List (List ℕ)) (one other : HostAsked) → AreHostWords names words one → AreHostWords names words other → one ≡ other
one_host names words one other are are' = by_forms.one_host names words one other (host_back names one words are) (host_back names other words are')

-- ---- numbers of words

operator_same : (names : List (List ℕ)) (tariff : Option ℕ) → length (tariff_words names tariff) + 3 ≡ length (words_told (with_tariff line_end names) (tariff, tt)) + 3
operator_same names None = refl
operator_same names (Some which) = refl

operator_read : (names : List (List ℕ)) (asked : HostAsked) (operator : Option (Bor (List ℕ) × ℕ)) → MatchOption operator ⊤ (λ one. one.1 ≡ length (tariff_words names asked.tariff) + 3) → MatchOption operator ⊤ (λ one. one.1 ≡ operator_number names asked)
operator_read names asked None told = tt
operator_read names asked (Some one) told = told ∙ operator_same names asked.tariff

-- what was read by forms is read so
pub reads_host : (names words : List (List ℕ)) (found : HostWords) → ReadsHostLine names words found → ReadsHost names words found
reads_host names words found reads = record {
  asked = host_told names (asked_of found) words reads.asked;
  operator = operator_read names (asked_of found) found.operator reads.operator;
  first = first_read;
}
  where
    asked : HostAsked
    asked = asked_of found

    options : List (List ℕ)
    options = operator_words asked.operator ++ (quiet_words asked.quiet ++ (standby_words asked.standby ++ asked.topology ∷ asked.journal ∷ asked.doors))

    first_read : found.first ≡ first_door names (asked_of found)
    first_read = omega (
      arith,
      reads.first,
      ap length (same_words names asked),
      length-append (tariff_words names asked.tariff) (operator_words asked.operator ++ (quiet_words asked.quiet ++ (standby_words asked.standby ++ asked.topology ∷ asked.journal ∷ asked.doors))),
      length-append (operator_words asked.operator) (quiet_words asked.quiet ++ (standby_words asked.standby ++ asked.topology ∷ asked.journal ∷ asked.doors)),
      length-append (quiet_words asked.quiet) (standby_words asked.standby ++ asked.topology ∷ asked.journal ∷ asked.doors),
      length-append (standby_words asked.standby) (asked.topology ∷ asked.journal ∷ asked.doors),
    )

numbered : (number : ℕ) (operator : Option (Bor (List ℕ) × ℕ)) → MatchOption operator ⊤ (λ one. one.1 ≡ number) → option_map {U = List ℕ × ℕ} (λ one. (one.0.now, one.1)) operator ≡ option_map {U = List ℕ × ℕ} (λ path. (path, number)) (option_map (λ one. one.0.now) operator)
numbered number None told = refl
numbered number (Some operator) told = λ i. Some (operator.0.now, told i)

pub operator_numbered : (names words : List (List ℕ)) (found : HostWords) → ReadsHost names words found → option_map {U = List ℕ × ℕ} (λ one. (one.0.now, one.1)) found.operator ≡ option_map {U = List ℕ × ℕ} (λ path. (path, operator_number names (asked_of found))) (asked_of found).operator
operator_numbered names words found reads = numbered (operator_number names (asked_of found)) found.operator reads.operator
