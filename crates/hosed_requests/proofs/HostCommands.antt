-- The words of a host, one after the other.
use Rattle.std.specs.Prelude.{MatchOption, ⊤}
use Rattle.std.specs.Borrow.{Bor}
use Rattle.std.specs.String.{string_bytes}
use Rattle.std.proofs.Common.{◌≡◌, ◌∙◌, ℕ, ◌+◌, List, [], ◌∷◌, ◌++◌, Bool, true, false, Option, None, Some, inl, inr, length, length-append, drop, get_or, map, refl, sym, ap, subst, append_assoc, arith, option_map, ⊎_elim}
use Rattle.std.specs.Prelude.{decimal}
use Rattle.std.proofs.lemmas.Fmt.{decimal_injective}
use Rattle.hose_doors.specs.Doors.{IsSocketPath}
use Rattle.hose_words.specs.steps.Cursor.{IsWrong, Misses, Took}
use Rattle.hose_words.specs.steps.Form.{Form, TellsNumber, place}
use Rattle.hose_words.specs.Words.{IsFirst}
use Rattle.hose_words.proofs.Forms.{Misses-stronger, wrong_at_start, wrong_choice, wrong_chosen, wrong_later, wrong_place}
use Rattle.hose_words.proofs.Passing.{Passes, pass_branch, pass_place}
use Rattle.hosed_requests.specs.HostWords.{AsksToHost, HostAsked, IsPatience, StandbyAsked, host_word, operator_option, quiet_option, seconds_option, standby_option, stop_option}
use Rattle.hosed_requests.specs.steps.HostForms.{AreHostLine, IsFirstUnfitOfHost, MayHost, MayStandBy, doors_form, files_first, host_first, host_form, host_line, operator_words, quiet_words, seconds_words, standby_words, stop_words, with_quiet, with_seconds, first_with_standby, with_stop}
use Rattle.hosed_requests.specs.ProgramWords.{AsksFor, IsFileName, program_word, tariff_option}
use Rattle.hosed_requests.specs.steps.Arguments.{FirstWord, IsChosen, IsTariffName, first_form, form_if, tariff_words, with_option, first_with_tariff}
use Rattle.hosed_requests.specs.declared.verb.ProgramVerb.{ProgramVerb}
use Rattle.hosed_requests.specs.declared.verb.ProgramVerb.TheVariants as command
use Rattle.hosed_requests.specs.declared.host_line.HostWords.{HostWords}
use Rattle.hosed_requests.specs.declared.host_line.StandbyWords.{StandbyWords}
use Rattle.hosed_requests.specs.HostNaming.{standby_of}
use Rattle.hosed_requests.specs.steps.HostForms.{ReadsHostLine}
use Rattle.hosed_requests.specs.steps.HostReading.{ChoosesFlag, ChoosesOperator, ChoosesSeconds, ChoosesStandby, NamesHosted, NamesNoOperator, NamesNoStandby}
use Rattle.hosed_requests.specs.steps.ProgramWords.{at_word}
use Rattle.hosed_requests.specs.steps.Reading.{Chooses, NamesFile, NamesNoTariff}
use Rattle.hosed_requests.proofs.Commands.{chosen_wrong, is_chosen, is_itself, is_named, no_file, no_tariff, one_tariff, option_wrong, same_apart, skip_passes, skip_wrong}
use Rattle.hosed_requests.proofs.HostDoors.{doors_pass}

-- ---- which word is wrong

-- the first word came
host_there : (words : List (List ℕ)) → AsksToHost words → Took (at_word 1 words) (at_word 2 words) host_word
host_there [] asks = absurd asks
host_there (word ∷ words) asks = record { cut = ap (λ (first : List ℕ). first ∷ words) asks; counted = refl }

-- what is wrong of the words after it is so of all
host_wrong : (names words : List (List ℕ)) (number : ℕ) → AsksToHost words → IsWrong (first_form (first_with_tariff names (first_form host_first) host_first)) (at_word 2 words) number → IsFirstUnfitOfHost names words number
host_wrong names words number asks wrong = wrong_at_start words refl (wrong_later (host_there words asks) refl wrong)

-- no tariff is of the name that follows the option
pub host_no_tariff : (names words : List (List ℕ)) (number : ℕ) → AsksToHost words → NamesNoTariff names words number → IsFirstUnfitOfHost names words number
host_no_tariff names words number asks none = host_wrong names words number asks (no_tariff names (first_form host_first) host_first words number none)

-- what is wrong of the words after a tariff, if one was chosen
after_tariff : (names words : List (List ℕ)) (tariff : Option ℕ) (from number : ℕ) → AsksToHost words → Chooses names words tariff from → IsWrong (first_form host_first) (at_word from words) number → IsFirstUnfitOfHost names words number
after_tariff names words tariff from number asks chosen wrong = host_wrong names words number asks (chosen_wrong names host_first words tariff from number chosen wrong)

-- what may stand first after the operator's socket, if there is one
abbrev after_operator : FirstWord
after_operator = with_quiet (first_with_standby files_first)

-- and after a standby's path
abbrev after_path : FirstWord
after_path = with_seconds (with_stop files_first)

-- the word after the option is the path of no socket
pub host_no_operator : (names words : List (List ℕ)) (tariff : Option ℕ) (from number : ℕ) → AsksToHost words → Chooses names words tariff from → NamesNoOperator words from number → IsFirstUnfitOfHost names words number
host_no_operator names words tariff from number asks chosen none = after_tariff names words tariff from number asks chosen
    (option_wrong operator_option (place IsSocketPath (first_form after_operator)) after_operator none.option (wrong_place none.misses))

-- what is wrong of the words after the operator's socket, if there is one
operator_then : (words : List (List ℕ)) (from at number : ℕ) (operator : Option (Bor (List ℕ) × ℕ)) → ChoosesOperator words from operator at → IsWrong (first_form after_operator) (at_word at words) number → IsWrong (first_form host_first) (at_word from words) number
operator_then words from at number None chosen wrong = skip_wrong operator_option (place IsSocketPath (first_form after_operator)) after_operator (at_word from words) number chosen.0
    (subst (λ n. IsWrong (first_form after_operator) (at_word n words) number) chosen.1 wrong)
operator_then words from at number (Some operator) chosen wrong = option_wrong operator_option (place IsSocketPath (first_form after_operator)) after_operator chosen.option
    (wrong_later chosen.took chosen.is (subst (λ n. IsWrong (first_form after_operator) (at_word n words) number) (chosen.later ∙ omega arith) wrong))

-- and of those after a flag
flag_then : (flag : List ℕ) (first : FirstWord) (words : List (List ℕ)) (from at number : ℕ) (chosen : Bool) → ChoosesFlag flag words from chosen at → IsWrong (first_form first) (at_word at words) number → IsWrong (first_form (with_option flag (first_form first) first)) (at_word from words) number
flag_then flag first words from at number true chosen wrong = option_wrong flag (first_form first) first chosen.0 wrong
flag_then flag first words from at number false chosen wrong = skip_wrong flag (first_form first) first (at_word from words) number chosen.0 (subst (λ n. IsWrong (first_form first) (at_word n words) number) chosen.1 wrong)

-- and of those after seconds
seconds_then : (first : FirstWord) (words : List (List ℕ)) (from at number : ℕ) (seconds : Option ℕ) → ChoosesSeconds words from seconds at → IsWrong (first_form first) (at_word at words) number → IsWrong (first_form (with_seconds first)) (at_word from words) number
seconds_then first words from at number None chosen wrong = skip_wrong seconds_option (place (TellsNumber IsPatience) (first_form first)) first (at_word from words) number chosen.0
    (subst (λ n. IsWrong (first_form first) (at_word n words) number) chosen.1 wrong)
seconds_then first words from at number (Some seconds) chosen wrong = option_wrong seconds_option (place (TellsNumber IsPatience) (first_form first)) first chosen.option
    (wrong_later chosen.took (seconds, refl, chosen.is) (subst (λ n. IsWrong (first_form first) (at_word n words) number) (chosen.later ∙ omega arith) wrong))

-- and of those after a standby, if there is one
standby_then : (words : List (List ℕ)) (from at number : ℕ) (standby : Option StandbyWords) → ChoosesStandby words from standby at → IsWrong (first_form files_first) (at_word at words) number → IsWrong (first_form (first_with_standby files_first)) (at_word from words) number
standby_then words from at number None chosen wrong = skip_wrong standby_option (place IsSocketPath (first_form after_path)) files_first (at_word from words) number chosen.0
    (subst (λ n. IsWrong (first_form files_first) (at_word n words) number) chosen.1 wrong)
standby_then words from at number (Some standby) chosen wrong = option_wrong standby_option (place IsSocketPath (first_form after_path)) files_first chosen.0
    (wrong_later chosen.1.took chosen.1.is (seconds_then (with_stop files_first) words (from + 1 + 1) chosen.1.later number standby.seconds chosen.1.seconds (flag_then stop_option files_first words chosen.1.later at number standby.or_stop chosen.1.stop wrong)))

-- no standby is named after the option
no_standby : (words : List (List ℕ)) (from number : ℕ) → NamesNoStandby words from number → IsWrong (first_form (first_with_standby files_first)) (at_word from words) number
no_standby words from number none = option_wrong standby_option (place IsSocketPath (first_form after_path)) files_first none.option (⊎_elim
    (λ misses. wrong_place misses)
    (λ later. wrong_later later.1 later.2 (option_wrong seconds_option (place (TellsNumber IsPatience) (first_form (with_stop files_first))) (with_stop files_first) later.3.option (wrong_place later.3.misses)))
    none.misses)

-- what is wrong of the words after the choice of a log is so of all words
after_quiet : (names words : List (List ℕ)) (tariff : Option ℕ) (operator : Option (Bor (List ℕ) × ℕ)) (quiet : Bool) (from later then number : ℕ) → AsksToHost words → Chooses names words tariff from → ChoosesOperator words from operator later → ChoosesFlag quiet_option words later quiet then
    → IsWrong (first_form (first_with_standby files_first)) (at_word then words) number → IsFirstUnfitOfHost names words number
after_quiet names words tariff operator quiet from later then number asks chosen operators quiets wrong =
    after_tariff names words tariff from number asks chosen (operator_then words from later number operator operators (flag_then quiet_option (first_with_standby files_first) words later then number quiet quiets wrong))

pub host_no_standby : (names words : List (List ℕ)) (tariff : Option ℕ) (operator : Option (Bor (List ℕ) × ℕ)) (quiet : Bool) (from later then number : ℕ) → AsksToHost words → Chooses names words tariff from → ChoosesOperator words from operator later → ChoosesFlag quiet_option words later quiet then
    → NamesNoStandby words then number → IsFirstUnfitOfHost names words number
host_no_standby names words tariff operator quiet from later then number asks chosen operators quiets none =
    after_quiet names words tariff operator quiet from later then number asks chosen operators quiets (no_standby words then number none)

-- what is wrong of the names and the doors is so of all words
pub host_not_hosted : (names words : List (List ℕ)) (tariff : Option ℕ) (operator : Option (Bor (List ℕ) × ℕ)) (quiet : Bool) (standby : Option StandbyWords) (from later then at number : ℕ) → AsksToHost words → Chooses names words tariff from → ChoosesOperator words from operator later → ChoosesFlag quiet_option words later quiet then → ChoosesStandby words then standby at
    → IsWrong (first_form files_first) (at_word at words) number → IsFirstUnfitOfHost names words number
host_not_hosted names words tariff operator quiet standby from later then at number asks chosen operators quiets standbys wrong =
    after_quiet names words tariff operator quiet from later then number asks chosen operators quiets (standby_then words then at number standby standbys wrong)

-- ---- names and doors

-- no topology is named
pub no_hosted_topology : (words : List (List ℕ)) (at number : ℕ) → Misses IsFileName (at_word at words) number → IsWrong (first_form files_first) (at_word at words) number
no_hosted_topology words at number misses = wrong_choice (Misses-stronger (λ word choice. subst IsFileName (sym choice.2) choice.1) misses)

-- what is wrong of the words after it
after_topology : (words : List (List ℕ)) (at number : ℕ) (topology : List ℕ) → NamesFile words at topology → IsWrong (place IsFileName doors_form) (at_word (at + 1) words) number → IsWrong (first_form files_first) (at_word at words) number
after_topology words at number topology file wrong = wrong_chosen topology file.is same_apart file.took wrong

-- no journal is
pub no_hosted_journal : (words : List (List ℕ)) (at number : ℕ) (topology : List ℕ) → NamesFile words at topology → Misses IsFileName (at_word (at + 1) words) number → IsWrong (first_form files_first) (at_word at words) number
no_hosted_journal words at number topology file misses = after_topology words at number topology file (wrong_place misses)

-- and after it no doors, or a word that names none
pub no_hosted_doors : (words : List (List ℕ)) (at number : ℕ) (topology journal : List ℕ) → NamesFile words at topology → NamesFile words (at + 1) journal → IsWrong doors_form (at_word (at + 2) words) number → IsWrong (first_form files_first) (at_word at words) number
no_hosted_doors words at number topology journal file other wrong = after_topology words at number topology file
    (wrong_later other.took other.is (subst (λ n. IsWrong doors_form (at_word n words) number) (omega arith) wrong))

-- ---- all words

left_at : (words : List (List ℕ)) (one other : ℕ) → one ≡ other → (at_word one words).left ≡ (at_word other words).left
left_at words one other same = ap (λ n. (at_word n words).left) same

tariff_left : (names words : List (List ℕ)) (tariff : Option ℕ) (from : ℕ) → Chooses names words tariff from → (at_word 2 words).left ≡ tariff_words names tariff ++ (at_word from words).left
tariff_left names words None from chosen = left_at words 2 from (sym chosen.at_once)
tariff_left names words (Some which) from chosen =
    chosen.option.cut ∙ ap (λ (w : List (List ℕ)). tariff_option ∷ w) (chosen.name.cut ∙ ap (λ n. get_or names which [] ∷ (at_word n words).left) (sym chosen.later))

-- the path in what was read of the operator's socket
abbrev path_of : Option (Bor (List ℕ) × ℕ) → Option (List ℕ)
path_of operator = option_map (λ one. one.0.now) operator

operator_left : (words : List (List ℕ)) (from at : ℕ) (operator : Option (Bor (List ℕ) × ℕ)) → ChoosesOperator words from operator at → (at_word from words).left ≡ operator_words (path_of operator) ++ (at_word at words).left
operator_left words from at None chosen = left_at words from at (sym chosen.1)
operator_left words from at (Some operator) chosen =
    chosen.option.cut ∙ ap (λ (w : List (List ℕ)). operator_option ∷ w) (chosen.took.cut ∙ ap (λ (w : List (List ℕ)). operator.0.now ∷ w) (left_at words (from + 1 + 1) at (omega (arith, chosen.later))))

quiet_left : (words : List (List ℕ)) (from at : ℕ) (quiet : Bool) → ChoosesFlag quiet_option words from quiet at → (at_word from words).left ≡ quiet_words quiet ++ (at_word at words).left
quiet_left words from at true chosen = chosen.0.cut
quiet_left words from at false chosen = left_at words from at (sym chosen.1)

stop_left : (words : List (List ℕ)) (from at : ℕ) (or_stop : Bool) → ChoosesFlag stop_option words from or_stop at → (at_word from words).left ≡ stop_words or_stop ++ (at_word at words).left
stop_left words from at true chosen = chosen.0.cut
stop_left words from at false chosen = left_at words from at (sym chosen.1)

seconds_left : (words : List (List ℕ)) (from at : ℕ) (seconds : Option ℕ) → ChoosesSeconds words from seconds at → (at_word from words).left ≡ seconds_words seconds ++ (at_word at words).left
seconds_left words from at None chosen = left_at words from at (sym chosen.1)
seconds_left words from at (Some seconds) chosen =
    chosen.option.cut ∙ ap (λ (w : List (List ℕ)). seconds_option ∷ w) (chosen.took.cut ∙ ap (λ (w : List (List ℕ)). decimal seconds ∷ w) (left_at words (from + 1 + 1) at (omega (arith, chosen.later))))

standby_left : (words : List (List ℕ)) (from at : ℕ) (standby : Option StandbyWords) → ChoosesStandby words from standby at → (at_word from words).left ≡ standby_words (option_map standby_of standby) ++ (at_word at words).left
standby_left words from at None chosen = left_at words from at (sym chosen.1)
standby_left words from at (Some standby) chosen =
    chosen.0.cut ∙ ap (λ (w : List (List ℕ)). standby_option ∷ w) (chosen.1.took.cut ∙ ap (λ (w : List (List ℕ)). standby.path.now ∷ w)
    (seconds_left words (from + 1 + 1) chosen.1.later standby.seconds chosen.1.seconds ∙ ap (λ (w : List (List ℕ)). seconds_words standby.seconds ++ w) (stop_left words chosen.1.later at standby.or_stop chosen.1.stop)
    ∙ sym (append_assoc (seconds_words standby.seconds) (stop_words standby.or_stop) (at_word at words).left)))

hosted_left : (words : List (List ℕ)) (at : ℕ) (topology journal : List ℕ) (doors : List (List ℕ)) → NamesHosted words at topology journal doors → (at_word at words).left ≡ topology ∷ journal ∷ doors
hosted_left words at topology journal doors naming =
    naming.topology.took.cut ∙ ap (λ (w : List (List ℕ)). topology ∷ w) (naming.journal.took.cut ∙ ap (λ (w : List (List ℕ)). journal ∷ w) (left_at words (at + 1 + 1) (at + 2) (omega arith) ∙ sym naming.doors))

-- ---- their numbers

tariff_length : (names words : List (List ℕ)) (tariff : Option ℕ) (from : ℕ) → Chooses names words tariff from → from ≡ length (tariff_words names tariff) + 2
tariff_length names words None from chosen = chosen.at_once
tariff_length names words (Some which) from chosen = chosen.later

operator_length : (words : List (List ℕ)) (from at : ℕ) (operator : Option (Bor (List ℕ) × ℕ)) → ChoosesOperator words from operator at → at ≡ length (operator_words (path_of operator)) + from
operator_length words from at None chosen = omega (arith, chosen.1)
operator_length words from at (Some operator) chosen = omega (arith, chosen.later)

quiet_length : (words : List (List ℕ)) (from at : ℕ) (quiet : Bool) → ChoosesFlag quiet_option words from quiet at → at ≡ length (quiet_words quiet) + from
quiet_length words from at true chosen = omega (arith, chosen.1)
quiet_length words from at false chosen = omega (arith, chosen.1)

stop_length : (words : List (List ℕ)) (from at : ℕ) (or_stop : Bool) → ChoosesFlag stop_option words from or_stop at → at ≡ length (stop_words or_stop) + from
stop_length words from at true chosen = omega (arith, chosen.1)
stop_length words from at false chosen = omega (arith, chosen.1)

seconds_length : (words : List (List ℕ)) (from at : ℕ) (seconds : Option ℕ) → ChoosesSeconds words from seconds at → at ≡ length (seconds_words seconds) + from
seconds_length words from at None chosen = omega (arith, chosen.1)
seconds_length words from at (Some seconds) chosen = omega (arith, chosen.later)

standby_length : (words : List (List ℕ)) (from at : ℕ) (standby : Option StandbyWords) → ChoosesStandby words from standby at → at ≡ length (standby_words (option_map standby_of standby)) + from
standby_length words from at None chosen = omega (arith, chosen.1)
standby_length words from at (Some standby) chosen = omega (
  arith,
  seconds_length words (from + 1 + 1) chosen.1.later standby.seconds chosen.1.seconds,
  stop_length words chosen.1.later at standby.or_stop chosen.1.stop,
  length-append (seconds_words standby.seconds) (stop_words standby.or_stop),
)

seconds_may : (words : List (List ℕ)) (from at : ℕ) (seconds : Option ℕ) → ChoosesSeconds words from seconds at → MatchOption seconds ⊤ IsPatience
seconds_may words from at None chosen = tt
seconds_may words from at (Some seconds) chosen = chosen.is

standby_may : (words : List (List ℕ)) (from at : ℕ) (standby : Option StandbyWords) → ChoosesStandby words from standby at → MatchOption (option_map standby_of standby) ⊤ MayStandBy
standby_may words from at None chosen = tt
standby_may words from at (Some standby) chosen = record { path = chosen.1.is; seconds = seconds_may words (from + 1 + 1) chosen.1.later standby.seconds chosen.1.seconds }

operator_may : (words : List (List ℕ)) (from at : ℕ) (operator : Option (Bor (List ℕ) × ℕ)) → ChoosesOperator words from operator at → MatchOption (path_of operator) ⊤ IsSocketPath
operator_may words from at None chosen = tt
operator_may words from at (Some operator) chosen = chosen.is

operator_told : (names words : List (List ℕ)) (tariff : Option ℕ) (from at : ℕ) (operator : Option (Bor (List ℕ) × ℕ)) → Chooses names words tariff from → ChoosesOperator words from operator at → MatchOption operator ⊤ (λ one. one.1 ≡ length (tariff_words names tariff) + 3)
operator_told names words tariff from at None chosen operators = tt
operator_told names words tariff from at (Some operator) chosen operators = omega (arith, operators.numbered, tariff_length names words tariff from chosen)

-- the words are those of a host
pub are_host_words : (names words : List (List ℕ)) (found : HostWords) (from later then at : ℕ) → AsksToHost words → Chooses names words found.tariff from → ChoosesOperator words from found.operator later → ChoosesFlag quiet_option words later found.quiet then → ChoosesStandby words then found.standby at
    → NamesHosted words at found.topology.now found.journal.now (map string_bytes found.doors.now) → found.first ≡ at + 2 → ReadsHostLine names words found
are_host_words names words found from later then at asks chosen operators quiets standbys naming first = record {
  asked = record {
    are = (host_there words asks).cut ∙ ap (λ (left : List (List ℕ)). host_word ∷ left) (tariff_left names words found.tariff from chosen
        ∙ ap (λ (left : List (List ℕ)). tariff_words names found.tariff ++ left) (operator_left words from later found.operator operators
        ∙ ap (λ (left : List (List ℕ)). operator_words (path_of found.operator) ++ left) (quiet_left words later then found.quiet quiets
        ∙ ap (λ (left : List (List ℕ)). quiet_words found.quiet ++ left) (standby_left words then at found.standby standbys
        ∙ ap (λ (left : List (List ℕ)). standby_words (option_map standby_of found.standby) ++ left) (hosted_left words at found.topology.now found.journal.now (map string_bytes found.doors.now) naming)))));
    may = record {
      tariff = is_chosen names words found.tariff from chosen;
      operator = operator_may words from later found.operator operators;
      standby = standby_may words then at found.standby standbys;
      topology = naming.topology.is;
      journal = naming.journal.is;
      some = naming.some;
      doors = naming.are;
    };
  };
  operator = operator_told names words found.tariff from later found.operator chosen operators;
  first = omega (arith, first, tariff_length names words found.tariff from chosen, operator_length words from later found.operator operators, quiet_length words later then found.quiet quiets, standby_length words then at found.standby standbys);
}

-- ---- right words

-- words of which the first may stand first, and the others pass what may stand after it
abbrev Begins : FirstWord → List (List ℕ) → Type 0
Begins first [] = ⊥
Begins first (word ∷ words) = first.may word × Passes (first.after word) words

-- no such option is the first of the words
abbrev IsWithout : List ℕ → List (List ℕ) → Type 0
IsWithout option words = IsFirst (λ word. word ≡ option) words → ⊥

begin_form : (first : FirstWord) (words : List (List ℕ)) → Begins first words → Passes (first_form first) words
begin_form first [] begins = absurd begins
begin_form first (word ∷ words) (may, passes) = pass_branch word may same_apart passes

-- an option and what passes after it
begin_option : (option : List ℕ) (form : Form) (first : FirstWord) (words : List (List ℕ)) → Passes form words → Begins (with_option option form first) (option ∷ words)
begin_option option form first words passes = (inl refl, subst (λ (is : Bool). Passes (form_if is form (first.after option)) words) (sym (is_itself option)) passes)

-- words without it
begin_without : (option : List ℕ) (form : Form) (first : FirstWord) (words : List (List ℕ)) → IsWithout option words → Begins first words → Begins (with_option option form first) words
begin_without option form first [] none begins = absurd begins
begin_without option form first (word ∷ words) none (may, passes) = (inr may, skip_passes option form first word words none may passes)

-- no option is another one, and none names a file
pub no_operator_file : IsFileName operator_option → ⊥
no_operator_file is = is.no_option refl

pub no_quiet_file : IsFileName quiet_option → ⊥
no_quiet_file is = is.no_option refl

pub operator_is_no_tariff : operator_option ≡ tariff_option → ⊥
operator_is_no_tariff same = omega (arith, ap length same)

pub quiet_is_no_tariff : quiet_option ≡ tariff_option → ⊥
quiet_is_no_tariff same = omega (arith, ap length same)

pub quiet_is_no_operator : quiet_option ≡ operator_option → ⊥
quiet_is_no_operator same = omega (arith, ap length same)

pub no_standby_file : IsFileName standby_option → ⊥
no_standby_file is = is.no_option refl

pub no_seconds_file : IsFileName seconds_option → ⊥
no_seconds_file is = is.no_option refl

pub no_stop_file : IsFileName stop_option → ⊥
no_stop_file is = is.no_option refl

pub standby_is_no_tariff : standby_option ≡ tariff_option → ⊥
standby_is_no_tariff same = omega (arith, ap length same)

pub standby_is_no_operator : standby_option ≡ operator_option → ⊥
standby_is_no_operator same = omega (arith, ap length same)

pub standby_is_no_quiet : standby_option ≡ quiet_option → ⊥
standby_is_no_quiet same = omega (arith, ap length same)

pub stop_is_no_seconds : stop_option ≡ seconds_option → ⊥
stop_is_no_seconds same = omega (arith, ap (λ (word : List ℕ). get_or word 10 0) same)

file_without : (option name : List ℕ) (words : List (List ℕ)) → (IsFileName option → ⊥) → IsFileName name → IsWithout option (name ∷ words)
file_without option name words none is first = none (subst IsFileName first is)

stop_without : (name : List ℕ) (words : List (List ℕ)) (or_stop : Bool) → IsFileName name → IsWithout seconds_option (stop_words or_stop ++ name ∷ words)
stop_without name words true is first = stop_is_no_seconds first
stop_without name words false is first = file_without seconds_option name words no_seconds_file is first

standby_without : (option name : List ℕ) (words : List (List ℕ)) (standby : Option StandbyAsked) → (IsFileName option → ⊥) → (standby_option ≡ option → ⊥) → IsFileName name → IsWithout option (standby_words standby ++ name ∷ words)
standby_without option name words None none other is first = file_without option name words none is first
standby_without option name words (Some standby) none other is first = other first

quiet_without : (option name : List ℕ) (words : List (List ℕ)) (quiet : Bool) (standby : Option StandbyAsked) → (IsFileName option → ⊥) → (quiet_option ≡ option → ⊥) → (standby_option ≡ option → ⊥) → IsFileName name → IsWithout option (quiet_words quiet ++ (standby_words standby ++ name ∷ words))
quiet_without option name words true standby none other third is first = other first
quiet_without option name words false standby none other third is first = standby_without option name words standby none third is first

operator_without : (name : List ℕ) (words : List (List ℕ)) (operator : Option (List ℕ)) (quiet : Bool) (standby : Option StandbyAsked) → IsFileName name → IsWithout tariff_option (operator_words operator ++ (quiet_words quiet ++ (standby_words standby ++ name ∷ words)))
operator_without name words None quiet standby is first = quiet_without tariff_option name words quiet standby no_file quiet_is_no_tariff standby_is_no_tariff is first
operator_without name words (Some path) quiet standby is first = operator_is_no_tariff first

module _ (asked : HostAsked) (names : List (List ℕ)) (may : MayHost names asked) where
  abbrev hosted_words : List (List ℕ)
  hosted_words = asked.topology ∷ asked.journal ∷ asked.doors

  abbrev standby_on : List (List ℕ)
  standby_on = standby_words asked.standby ++ hosted_words

  abbrev quiet_on : List (List ℕ)
  quiet_on = quiet_words asked.quiet ++ standby_on

  files_begin : Begins files_first hosted_words
  files_begin = (may.topology, pass_place may.journal (doors_pass asked.doors may.some may.doors))

  stop_begins : (or_stop : Bool) → Begins (with_stop files_first) (stop_words or_stop ++ hosted_words)
  stop_begins true = begin_option stop_option (first_form files_first) files_first hosted_words (begin_form files_first hosted_words files_begin)
  stop_begins false = begin_without stop_option (first_form files_first) files_first hosted_words (file_without stop_option asked.topology (asked.journal ∷ asked.doors) no_stop_file may.topology) files_begin

  seconds_begin : (seconds : Option ℕ) (or_stop : Bool) → MatchOption seconds ⊤ IsPatience → Begins after_path (seconds_words seconds ++ (stop_words or_stop ++ hosted_words))
  seconds_begin None or_stop fine = begin_without seconds_option (place (TellsNumber IsPatience) (first_form (with_stop files_first))) (with_stop files_first) (stop_words or_stop ++ hosted_words)
      (stop_without asked.topology (asked.journal ∷ asked.doors) or_stop may.topology) (stop_begins or_stop)
  seconds_begin (Some seconds) or_stop fine = begin_option seconds_option (place (TellsNumber IsPatience) (first_form (with_stop files_first))) (with_stop files_first) (decimal seconds ∷ stop_words or_stop ++ hosted_words)
      (pass_place (seconds, refl, fine) (begin_form (with_stop files_first) (stop_words or_stop ++ hosted_words) (stop_begins or_stop)))

  standby_begins : (standby : Option StandbyAsked) → MatchOption standby ⊤ MayStandBy → Begins (first_with_standby files_first) (standby_words standby ++ hosted_words)
  standby_begins None fine = begin_without standby_option (place IsSocketPath (first_form after_path)) files_first hosted_words (file_without standby_option asked.topology (asked.journal ∷ asked.doors) no_standby_file may.topology) files_begin
  standby_begins (Some standby) fine = begin_option standby_option (place IsSocketPath (first_form after_path)) files_first (standby.path ∷ (seconds_words standby.seconds ++ stop_words standby.or_stop) ++ hosted_words)
      (pass_place fine.path (subst (Passes (first_form after_path)) (sym (append_assoc (seconds_words standby.seconds) (stop_words standby.or_stop) hosted_words))
      (begin_form after_path (seconds_words standby.seconds ++ (stop_words standby.or_stop ++ hosted_words)) (seconds_begin standby.seconds standby.or_stop fine.seconds))))

  quiet_begins : (quiet : Bool) → Begins after_operator (quiet_words quiet ++ standby_on)
  quiet_begins true = begin_option quiet_option (first_form (first_with_standby files_first)) (first_with_standby files_first) standby_on (begin_form (first_with_standby files_first) standby_on (standby_begins asked.standby may.standby))
  quiet_begins false = begin_without quiet_option (first_form (first_with_standby files_first)) (first_with_standby files_first) standby_on
      (standby_without quiet_option asked.topology (asked.journal ∷ asked.doors) asked.standby no_quiet_file standby_is_no_quiet may.topology) (standby_begins asked.standby may.standby)

  operator_begins : (operator : Option (List ℕ)) → MatchOption operator ⊤ IsSocketPath → Begins host_first (operator_words operator ++ quiet_on)
  operator_begins None fine = begin_without operator_option (place IsSocketPath (first_form after_operator)) after_operator quiet_on
      (quiet_without operator_option asked.topology (asked.journal ∷ asked.doors) asked.quiet asked.standby no_operator_file quiet_is_no_operator standby_is_no_operator may.topology) (quiet_begins asked.quiet)
  operator_begins (Some path) fine = begin_option operator_option (place IsSocketPath (first_form after_operator)) after_operator (path ∷ quiet_on)
      (pass_place fine (begin_form after_operator quiet_on (quiet_begins asked.quiet)))

  tariff_begins : (tariff : Option ℕ) → IsChosen names tariff → Begins (first_with_tariff names (first_form host_first) host_first) (tariff_words names tariff ++ (operator_words asked.operator ++ quiet_on))
  tariff_begins None chosen = begin_without tariff_option (place (IsTariffName names) (first_form host_first)) host_first (operator_words asked.operator ++ quiet_on)
      (operator_without asked.topology (asked.journal ∷ asked.doors) asked.operator asked.quiet asked.standby may.topology) (operator_begins asked.operator may.operator)
  tariff_begins (Some which) chosen = begin_option tariff_option (place (IsTariffName names) (first_form host_first)) host_first (get_or names which [] ∷ operator_words asked.operator ++ quiet_on)
      (pass_place (is_named names which chosen) (begin_form host_first (operator_words asked.operator ++ quiet_on) (operator_begins asked.operator may.operator)))

  host_passes : Passes (host_form names) (host_line names asked)
  host_passes = pass_place refl (begin_form (first_with_tariff names (first_form host_first) host_first) (tariff_words names asked.tariff ++ (operator_words asked.operator ++ quiet_on)) (tariff_begins asked.tariff may.tariff))

-- none of the words of a host is wrong
pub none_wrong_of_host : (names words : List (List ℕ)) (asked : HostAsked) (number : ℕ) → AreHostLine names words asked → IsFirstUnfitOfHost names words number → ⊥
none_wrong_of_host names words asked number are wrong = (subst (Passes (host_form names)) (sym are.are) (host_passes asked names are.may)).none number wrong

-- they ask for a host
pub asks_to_host : (names words : List (List ℕ)) (asked : HostAsked) → AreHostLine names words asked → AsksToHost words
asks_to_host names words asked are = subst AsksToHost (sym are.are) refl

-- ---- words tell one host

-- one socket of the operator, and the same words after it
one_operator : (one other : Option (List ℕ)) (rest rest' : List (List ℕ)) → IsWithout operator_option rest → IsWithout operator_option rest' → operator_words one ++ rest ≡ operator_words other ++ rest' → (one ≡ other) × (rest ≡ rest')
one_operator None None rest rest' plain plain' same = (refl, same)
one_operator None (Some path) rest rest' plain plain' same = absurd (plain (subst (IsFirst (λ word. word ≡ operator_option)) (sym same) refl))
one_operator (Some path) None rest rest' plain plain' same = absurd (plain' (subst (IsFirst (λ word. word ≡ operator_option)) same refl))
one_operator (Some path) (Some path') rest rest' plain plain' same = (ap Some (ap (λ (w : List (List ℕ)). get_or w 1 []) same), ap (drop 2) same)

-- one choice of a log
one_quiet : (one other : Bool) (rest rest' : List (List ℕ)) → IsWithout quiet_option rest → IsWithout quiet_option rest' → quiet_words one ++ rest ≡ quiet_words other ++ rest' → (one ≡ other) × (rest ≡ rest')
one_quiet true true rest rest' plain plain' same = (refl, ap (drop 1) same)
one_quiet false false rest rest' plain plain' same = (refl, same)
one_quiet true false rest rest' plain plain' same = absurd (plain' (subst (IsFirst (λ word. word ≡ quiet_option)) same refl))
one_quiet false true rest rest' plain plain' same = absurd (plain (subst (IsFirst (λ word. word ≡ quiet_option)) (sym same) refl))

-- one choice of an end
one_stop : (one other : Bool) (rest rest' : List (List ℕ)) → IsWithout stop_option rest → IsWithout stop_option rest' → stop_words one ++ rest ≡ stop_words other ++ rest' → (one ≡ other) × (rest ≡ rest')
one_stop true true rest rest' plain plain' same = (refl, ap (drop 1) same)
one_stop false false rest rest' plain plain' same = (refl, same)
one_stop true false rest rest' plain plain' same = absurd (plain' (subst (IsFirst (λ word. word ≡ stop_option)) same refl))
one_stop false true rest rest' plain plain' same = absurd (plain (subst (IsFirst (λ word. word ≡ stop_option)) (sym same) refl))

-- one number of seconds
one_seconds : (one other : Option ℕ) (rest rest' : List (List ℕ)) → MatchOption one ⊤ IsPatience → MatchOption other ⊤ IsPatience → IsWithout seconds_option rest → IsWithout seconds_option rest' → seconds_words one ++ rest ≡ seconds_words other ++ rest' → (one ≡ other) × (rest ≡ rest')
one_seconds None None rest rest' is is' plain plain' same = (refl, same)
one_seconds None (Some seconds) rest rest' is is' plain plain' same = absurd (plain (subst (IsFirst (λ word. word ≡ seconds_option)) (sym same) refl))
one_seconds (Some seconds) None rest rest' is is' plain plain' same = absurd (plain' (subst (IsFirst (λ word. word ≡ seconds_option)) same refl))
one_seconds (Some seconds) (Some seconds') rest rest' is is' plain plain' same =
    (ap Some (decimal_injective seconds seconds' (omega (arith, is.1)) (omega (arith, is'.1)) (ap (λ (w : List (List ℕ)). get_or w 1 []) same)), ap (drop 2) same)

-- one standby
one_standby : (one other : Option StandbyAsked) (topology topology' : List ℕ) (rest rest' : List (List ℕ)) → MatchOption one ⊤ MayStandBy → MatchOption other ⊤ MayStandBy → IsFileName topology → IsFileName topology' → standby_words one ++ topology ∷ rest ≡ standby_words other ++ topology' ∷ rest'
    → (one ≡ other) × (topology ∷ rest ≡ topology' ∷ rest')
one_standby None None topology topology' rest rest' may may' is is' same = (refl, same)
one_standby None (Some standby) topology topology' rest rest' may may' is is' same = absurd (file_without standby_option topology rest no_standby_file is (subst (IsFirst (λ word. word ≡ standby_option)) (sym same) refl))
one_standby (Some standby) None topology topology' rest rest' may may' is is' same = absurd (file_without standby_option topology' rest' no_standby_file is' (subst (IsFirst (λ word. word ≡ standby_option)) same refl))
one_standby (Some one) (Some other) topology topology' rest rest' may may' is is' same =
    let after : seconds_words one.seconds ++ (stop_words one.or_stop ++ topology ∷ rest) ≡ seconds_words other.seconds ++ (stop_words other.or_stop ++ topology' ∷ rest') =
    sym (append_assoc (seconds_words one.seconds) (stop_words one.or_stop) (topology ∷ rest)) ∙ (ap (drop 2) same ∙ append_assoc (seconds_words other.seconds) (stop_words other.or_stop) (topology' ∷ rest')) in
    let seconds = one_seconds one.seconds other.seconds (stop_words one.or_stop ++ topology ∷ rest) (stop_words other.or_stop ++ topology' ∷ rest') may.seconds may'.seconds
    (stop_without topology rest one.or_stop is) (stop_without topology' rest' other.or_stop is') after in
    let stops = one_stop one.or_stop other.or_stop (topology ∷ rest) (topology' ∷ rest') (file_without stop_option topology rest no_stop_file is) (file_without stop_option topology' rest' no_stop_file is') seconds.1 in
    ((λ i. Some (record { path = get_or (same i) 1 []; seconds = seconds.0 i; or_stop = stops.0 i })), stops.1)

-- words are those of one host
pub one_host : (names words : List (List ℕ)) (one other : HostAsked) → AreHostLine names words one → AreHostLine names words other → one ≡ other
one_host names words one other are are' =
    let same : host_line names one ≡ host_line names other = sym are.are ∙ are'.are in
    let standby_on' = λ (asked : HostAsked). standby_words asked.standby ++ asked.topology ∷ asked.journal ∷ asked.doors in
    let quiet_on' = λ (asked : HostAsked). quiet_words asked.quiet ++ standby_on' asked in
    let tariffs = one_tariff names one.tariff other.tariff (operator_words one.operator ++ quiet_on' one) (operator_words other.operator ++ quiet_on' other)
    are.may.tariff are'.may.tariff (operator_without one.topology (one.journal ∷ one.doors) one.operator one.quiet one.standby are.may.topology) (operator_without other.topology (other.journal ∷ other.doors) other.operator other.quiet other.standby are'.may.topology) (ap (drop 1) same) in
    let operators = one_operator one.operator other.operator (quiet_on' one) (quiet_on' other)
    (quiet_without operator_option one.topology (one.journal ∷ one.doors) one.quiet one.standby no_operator_file quiet_is_no_operator standby_is_no_operator are.may.topology)
    (quiet_without operator_option other.topology (other.journal ∷ other.doors) other.quiet other.standby no_operator_file quiet_is_no_operator standby_is_no_operator are'.may.topology) tariffs.rests in
    let quiets = one_quiet one.quiet other.quiet (standby_on' one) (standby_on' other)
    (standby_without quiet_option one.topology (one.journal ∷ one.doors) one.standby no_quiet_file standby_is_no_quiet are.may.topology) (standby_without quiet_option other.topology (other.journal ∷ other.doors) other.standby no_quiet_file standby_is_no_quiet are'.may.topology) operators.1 in
    let standbys = one_standby one.standby other.standby one.topology other.topology (one.journal ∷ one.doors) (other.journal ∷ other.doors) are.may.standby are'.may.standby are.may.topology are'.may.topology quiets.1 in
    λ i. record {
      tariff = tariffs.tariffs i;
      operator = operators.0 i;
      quiet = quiets.0 i;
      standby = standbys.0 i;
      topology = get_or (standbys.1 i) 0 [];
      journal = get_or (standbys.1 i) 1 [];
      doors = drop 2 (standbys.1 i);
    }

-- what is so of a host that words tell is so of each that they tell
pub of_one_host : (names words : List (List ℕ)) (P : HostAsked → Type 0) (asked : HostAsked) → AreHostLine names words asked → P asked → (other : HostAsked) → AreHostLine names words other → P other
of_one_host names words P asked are holds other are' = subst P (one_host names words asked other are are') holds

-- ---- no other command

-- words of a host ask for no other command
pub host_is_no_verb : (verb : ProgramVerb) (words : List (List ℕ)) → AsksToHost words → AsksFor verb words → ⊥
host_is_no_verb verb [] hosts asks = hosts
host_is_no_verb verb (word ∷ words) hosts asks = other verb (sym asks ∙ hosts)
  where
    other : (verb : ProgramVerb) → program_word verb ≡ host_word → ⊥
    other command.Run same = omega (arith, ap (λ (w : List ℕ). get_or w 0 0) same)
    other verb same = omega (arith, ap (λ (w : List ℕ). get_or w 0 0) same)
