-- The program's words, one after the other.
use Rattle.std.specs.Prelude.{MatchOption, ⊤}
use Rattle.std.specs.Str.{bytes_eq}
use Rattle.std.proofs.Common.{◌≡◌, ◌≢◌, ◌∙◌, ◌⊎◌, ℕ, ◌+◌, ◌<◌, ◌≤◌, ◌-◌, ◌^◌, List, [], ◌∷◌, ◌++◌, Bool, IsTrue, true, false, Option, None, Some, IfNone, IfSome, inl, inr, suc, zero, append_assoc, length, take, drop, get_or, map, refl, sym, ap, subst, arith}
use Rattle.std.proofs.lemmas.Bool.{cases_lt}
use Rattle.std.proofs.lemmas.Fmt.{decimal_injective}
use Rattle.std.proofs.lemmas.List.{drop-map, drop_more, get_or-map, length-drop, length-map, take_rest}
use Rattle.std.proofs.lemmas.Slice.Eq.{bytes_eq-Decides}
use mathlib.Core.List.{map-id}
use Rattle.hose_words.specs.steps.Cursor.{IsWrong, Misses, Position, Took}
use Rattle.hose_words.specs.steps.Form.{Form, TellsNumber, finish, grammar_of, maybe, place}
use Rattle.hose_words.specs.Words.{IsChoice, IsFirst}
use Rattle.hose_words.specs.Numbers.{IsWithin}
use Rattle.hose_words.specs.steps.Grammar.{IsFirstNotAllowed}
use Rattle.hose_words.proofs.Keywords.{choice_of}
use Rattle.hose_words.proofs.Forms.{AreApart, Misses-stronger, after_branch, front_wrong, wrong_at_start, wrong_choice, wrong_chosen, wrong_later, wrong_maybe, wrong_place}
use Rattle.hose_words.proofs.Passing.{Passes, pass_branch, pass_finish, pass_list, pass_maybe, pass_nothing, pass_place}
use Rattle.hose_proto.proofs.EndWords.{end_words_closed}
use Rattle.hose_proto.specs.steps.Choices.{IsWordTable}
use Rattle.hose_proto.proofs.Words.{is_table}
use Rattle.hosed_requests.specs.ProgramWords.{ArePriceable, AsksFor, IsAvailable, IsFileName, IsFirstNamed, chosen_of, first_end, live_option, program_word, tariff_option}
use Rattle.hosed_requests.specs.steps.Arguments.{AreArgumentWords, ArgumentValues, Arguments, FirstWord, IsChosen, IsFirstUnfit, IsOtherFile, IsTariffName, MayBeAsked, MayChoose, MayTell, MayTellAll, Operand, OperandValue, OperandValues, Operands, OptionValues, Options, ArgumentTask, argument_words, arguments_form, file_first, first_form, form_if, journal_operand, last_file, live_words, moved_names, name_operand, name_words, operand_word, operand_words, operands_form, option_words, program_form, tariff_words, verb_arguments, with_live, with_option, with_options, first_with_tariff, words_form}
use Rattle.hosed_requests.specs.steps.Arguments.Arguments.{only_operands, options_and_file, tariff_and_any_file}
use Rattle.hosed_requests.specs.steps.Arguments.Operand.{file_name, number_within, other_name}
use Rattle.hosed_requests.specs.steps.Arguments.Operands.{end_words, next_word, no_more}
use Rattle.hosed_requests.specs.steps.Arguments.Options.{by_tariff, by_tariff_and_live, without}
use Rattle.hosed_requests.specs.steps.ProgramWords.{at_word}
use Rattle.hosed_requests.specs.declared.verb.ProgramVerb.{ProgramVerb}
use Rattle.hosed_requests.specs.declared.verb.ProgramVerb.TheVariants as command
use Rattle.hosed_requests.specs.declared.verb.TheConstants.{PROGRAM_VERBS}
use Rattle.hosed_requests.specs.declared.words.OfJournal.{OfJournal}
use Rattle.hosed_requests.specs.declared.words.OfTopology.{OfTopology}
use Rattle.hose_outside.specs.declared.reading.Names.{Names}
use Rattle.hosed_requests.specs.steps.Reading.{AreJournalWords, Chooses, ChoosesLive, NamesFile, NamesJournal, NamesMove, NamesNoJournal, NamesNoTariff, NamesNoTopology, NamesTopology}

-- ---- words of a slice

-- the words of a slice are the first and those after it
pub first_and_rest : {A : Type 0} (view : A → List ℕ) (words : List A) (first : A) → 1 ≤ length words → first ≡ get_or words 0 first → map view words ≡ view first ∷ map view (take (length words - 1) (drop 1 words))
first_and_rest view [] first some is = absurd (omega (arith, some))
first_and_rest view (word ∷ words) first some is = ap (λ w. view w ∷ map view words) (sym is) ∙ ap (λ all. view first ∷ map view all) (sym (take_rest (word ∷ words) 1))

-- a word that is there is the first of those from it on
pub word_there : {A : Type 0} (view : A → List ℕ) (words : List A) (at : ℕ) (word other : A) → 1 ≤ at → at - 1 < length words → word ≡ get_or words (at - 1) other → Took (at_word at (map view words)) (at_word (at + 1) (map view words)) (view word)
word_there view words at word other some there is = record {
  cut =
      let next : at - 1 + 1 ≡ at + 1 - 1 = omega (arith, some) in
      drop-map view (at - 1) words ∙ (ap (map view) (drop_more words (at - 1) other there)
      ∙ (ap (λ first. view first ∷ map view (drop (at - 1 + 1) words)) (sym is) ∙ ap (λ rest. view word ∷ rest) (ap (λ n. map view (drop n words)) next ∙ sym (drop-map view (at + 1 - 1) words))));
  counted = omega (arith, some);
}

-- the place after a word may be told in two ways
pub took_to : (words : List (List ℕ)) {old : Position} {word : List ℕ} (one other : ℕ) → one ≡ other → Took old (at_word one words) word → Took old (at_word other words) word
took_to words {old} {word} one other same took = subst (λ n. Took old (at_word n words) word) same took

-- where no word is left there are fewer words
pub none_left : (words : List (List ℕ)) (at : ℕ) → 1 ≤ at → length words < at → (at_word at words).left ≡ []
none_left words at some few = empty (drop (at - 1) words) (omega (arith, length-drop (at - 1) words, some, few))
  where
    empty : (left : List (List ℕ)) → length left ≡ 0 → left ≡ []
    empty [] none = refl
    empty (word ∷ left) none = absurd (omega (arith, none))

-- where a word came one was left
pub took_left : {old new : Position} {word : List ℕ} → Took old new word → old.left ≡ [] → ⊥
took_left took none = absurd (cc (sym none ∙ took.cut))

-- and where there are as many one is left
pub some_left : (words : List (List ℕ)) (at : ℕ) → 1 ≤ at → at ≤ length words → (at_word at words).left ≡ [] → ⊥
some_left words at some enough none = omega (arith, length-drop (at - 1) words, ap length none, some, enough)

-- ---- commands

-- each command has a word of its own, by which it is found again
abbrev verb_at : List ℕ → ProgramVerb
verb_at word = choice_of program_word (map (λ row. row.0) PROGRAM_VERBS) command.Run word

verb_back : (verb : ProgramVerb) → verb_at (program_word verb) ≡ verb
verb_back command.Run = refl
verb_back verb = refl

verb_apart : (one other : ProgramVerb) → program_word one ≡ program_word other → one ≡ other
verb_apart one other same = sym (verb_back one) ∙ (ap verb_at same ∙ verb_back other)

pub verbs_apart : (names : List (List ℕ)) → AreApart (IsAvailable names) program_word
verbs_apart names = record { apart = λ one other here there same. verb_apart one other same }

-- the table has each command with its word
pub verbs_told : IsWordTable program_word (map (λ row. (row.0, row.1.now)) PROGRAM_VERBS)
verbs_told = is_table program_word (map (λ row. (row.0, row.1.now)) PROGRAM_VERBS) command.Run refl verb_back (λ P all. all 0 command.Run (omega arith))

-- where the first word, as its bytes, is that of no command, no command is asked for
pub asks_first : (first : List ℕ) (more : List (List ℕ)) (word : List ℕ) (words : List (List ℕ)) (found : Option ProgramVerb) → words ≡ first ∷ more → word ≡ first → IfNone found ((verb : ProgramVerb) → word ≡ program_word verb → ⊥) → IfNone found ((verb : ProgramVerb) → AsksFor verb words → ⊥)
asks_first first more word words (Some one) is same none = tt
asks_first first more word words None is same none = λ verb asks. none verb (same ∙ subst (AsksFor verb) is asks)

-- where it is that of a command, this command is asked for
pub asks_one : (first : List ℕ) (more : List (List ℕ)) (word : List ℕ) (words : List (List ℕ)) (found : Option ProgramVerb) → words ≡ first ∷ more → word ≡ first → IfSome found (λ verb. word ≡ program_word verb) → IfSome found (λ verb. AsksFor verb words)
asks_one first more word words (Some one) is same told = subst (AsksFor one) (sym is) (sym same ∙ told)
asks_one first more word words None is same told = tt

-- the word of a command is the first
pub verb_there : (verb : ProgramVerb) (words : List (List ℕ)) → AsksFor verb words → Took (at_word 1 words) (at_word 2 words) (program_word verb)
verb_there verb [] asks = absurd asks
verb_there verb (word ∷ words) asks = record { cut = ap (λ (first : List ℕ). first ∷ words) asks; counted = refl }

-- what is wrong of the words after it is so of all
pub verb_wrong : (names : List (List ℕ)) (verb : ProgramVerb) (words : List (List ℕ)) (number : ℕ) → IsAvailable names verb → AsksFor verb words → IsWrong (program_form names verb) (at_word 2 words) number → IsFirstUnfit names words number
verb_wrong names verb words number offered asks wrong = wrong_at_start words refl (wrong_chosen verb offered (verbs_apart names) (verb_there verb words asks) wrong)

-- the first word is that of no command that there is
pub no_verb : (names words : List (List ℕ)) → ((verb : ProgramVerb) → IsAvailable names verb → AsksFor verb words → ⊥) → IsFirstUnfit names words 1
no_verb names words none = wrong_at_start {start = at_word 1 words} words refl (wrong_choice (record { none = never words none; at = refl }))
  where
    never : (all : List (List ℕ)) → ((verb : ProgramVerb) → IsAvailable names verb → AsksFor verb all → ⊥) → IsFirst (IsChoice (IsAvailable names) program_word) all → ⊥
    never [] none first = first
    never (word ∷ more) none first = none first.0 first.1 first.2

-- words ask for one command
pub one_verb : (one other : ProgramVerb) (words : List (List ℕ)) → AsksFor one words → AsksFor other words → one ≡ other
one_verb one other [] asks asks' = absurd asks
one_verb one other (word ∷ words) asks asks' = verb_apart one other (sym asks ∙ asks')

-- there are no tariffs to price under, or too many
pub not_offered : (names words : List (List ℕ)) → AsksFor command.Price words → (ArePriceable names → ⊥) → IsFirstUnfit names words 1
not_offered names words asks never = no_verb names words (λ verb offered other. never (subst (IsAvailable names) (one_verb verb command.Price words other asks) offered))

-- a word that is there is one too many
pub one_too_many : (words : List (List ℕ)) (at : ℕ) → 1 ≤ at → at ≤ length words → IsWrong finish (at_word at words) at
one_too_many words at some there = record {
  place = 1;
  at = omega (arith, some);
  wrong = extra (drop (at - 1) words) (omega (arith, length-drop (at - 1) words, some, there));
}
  where
    extra : (left : List (List ℕ)) → 0 < length left → IsFirstNotAllowed (grammar_of finish) [] left 1
    extra [] more = absurd (omega (arith, more))
    extra (word ∷ left) more = inr (λ follows. follows, refl)

-- ---- words that tell values

-- what a word tells is told by no other word
pub operand_apart : (operand : Operand) → AreApart (MayTell operand) (operand_word operand)
operand_apart file_name = record { apart = λ one other here there same. same }
operand_apart (other_name name) = record { apart = λ one other here there same. same }
operand_apart (number_within least most) = record { apart = λ one other here there same. decimal_injective one other here.1 there.1 same }

-- the next word tells a value that it may, and a later one is wrong
pub value_then : (operand : Operand) (more : OperandValue operand → Operands) {old new : Position} {number : ℕ} (value : OperandValue operand) → MayTell operand value → Took old new (operand_word operand value) → IsWrong (operands_form (more value)) new number
    → IsWrong (operands_form (next_word operand more)) old number
value_then operand more value may took wrong = wrong_chosen value may (operand_apart operand) took wrong

-- the next word is the name of no file
pub no_name : (more : List ℕ → Operands) {old : Position} {number : ℕ} → Misses IsFileName old number → IsWrong (operands_form (name_operand more)) old number
no_name more misses = wrong_choice (Misses-stronger (λ word choice. subst IsFileName (sym choice.2) choice.1) misses)

-- nor that of another file than this one
pub no_other_name : (name : List ℕ) (more : List ℕ → Operands) {old : Position} {number : ℕ} → Misses (IsOtherFile name) old number → IsWrong (operands_form (next_word (other_name name) more)) old number
no_other_name name more misses = wrong_choice (Misses-stronger (λ word choice. subst (IsOtherFile name) (sym choice.2) choice.1) misses)

-- the next word tells no number within the bounds
pub no_number : (least most : ℕ) (more : ℕ → Operands) {old : Position} {number : ℕ} → Misses (TellsNumber (IsWithin least most)) old number → IsWrong (operands_form (next_word (number_within least most) more)) old number
no_number least most more misses = wrong_choice (Misses-stronger (λ word choice. (choice.0, choice.2, choice.1.0)) misses)

-- ---- options

-- a word is told from others by itself
pub same_apart : {is : List ℕ → Type 0} → AreApart is (λ word. word)
same_apart = record { apart = λ one other here there same. same }

pub is_itself : (word : List ℕ) → bytes_eq word word ≡ true
is_itself word = (bytes_eq-Decides word word).1 refl

pub is_another : (word other : List ℕ) → (word ≡ other → ⊥) → bytes_eq word other ≡ false
is_another word other never = by (bytes_eq word other) (λ yes. never ((bytes_eq-Decides word other).0 yes))
  where
    by : (found : Bool) → (IsTrue found → ⊥) → found ≡ false
    by true never = absurd (never refl)
    by false never = refl

-- no option names a file
pub no_file : IsFileName tariff_option → ⊥
no_file is = is.no_option refl

pub no_live_file : IsFileName live_option → ⊥
no_live_file is = is.no_option refl

-- no option is the other one
pub options_apart : tariff_option ≡ live_option → ⊥
options_apart same = omega (arith, ap length same)

-- a file is named, and a later word is wrong
pub file_wrong : (more : List ℕ → Operands) {old new : Position} {number : ℕ} (name : List ℕ) → IsFileName name → Took old new name → IsWrong (operands_form (more name)) new number → IsWrong (first_form (file_first more)) old number
file_wrong more name is took wrong = wrong_chosen name is same_apart took wrong

-- no file is
pub no_file_named : (more : List ℕ → Operands) {old : Position} {number : ℕ} → Misses IsFileName old number → IsWrong (first_form (file_first more)) old number
no_file_named more misses = wrong_choice (Misses-stronger (λ word choice. subst IsFileName (sym choice.2) choice.1) misses)

module _ (option : List ℕ) (form : Form) (first : FirstWord) where
  -- the option is there, and a later word is wrong
  pub option_wrong : {old new : Position} {number : ℕ} → Took old new option → IsWrong form new number → IsWrong (first_form (with_option option form first)) old number
  option_wrong {new = new} {number = number} took wrong =
      wrong_chosen option (inl refl) same_apart took (subst (λ (is : Bool). IsWrong (form_if is form (first.after option)) new number) (sym (is_itself option)) wrong)

  -- where it does not stand, what is wrong of the form without it is wrong
  pub skip_wrong : (old : Position) (number : ℕ) → (IsFirst (λ word. word ≡ option) old.left → ⊥) → IsWrong (first_form first) old number → IsWrong (first_form (with_option option form first)) old number
  skip_wrong old number none wrong = at old.left refl
    where
      -- a word came that may stand first
      later : (word : List ℕ) (words : List (List ℕ)) → old.left ≡ word ∷ words → (word ≡ option → ⊥) → first.may word → IsFirstNotAllowed (grammar_of (first_form first)) (word ∷ []) words wrong.place → IsWrong (first_form (with_option option form first)) old number
      later word words is never may behind =
          let back = front_wrong (grammar_of (first_form first)) (grammar_of (first.after word)) (word ∷ []) [] words wrong.place (after_branch first.may (λ (w : List ℕ). w) first.after word may same_apart) behind in
          wrong_chosen {new = record { left = words; read = old.read + 1 }} word (inr may) same_apart (record { cut = is; counted = refl })
          (subst (λ (found : Bool). IsWrong (form_if found form (first.after word)) (record { left = words; read = old.read + 1 }) number) (sym (is_another word option never)) (record { place = back.0; at = omega (arith, wrong.at, back.1); wrong = back.2 }))

      at : (left : List (List ℕ)) → old.left ≡ left → IsWrong (first_form (with_option option form first)) old number
      at [] is = wrong_choice (record {
        none = λ one. subst (IsFirst (IsChoice (with_option option form first).may (λ word. word))) is one;
        at = wrong.at ∙ ap (λ n. old.read + n) (subst (λ (words : List (List ℕ)). IsFirstNotAllowed (grammar_of (first_form first)) [] words wrong.place) is wrong.wrong).1;
      })
      at (word ∷ words) is = by (subst (λ (words : List (List ℕ)). IsFirstNotAllowed (grammar_of (first_form first)) [] words wrong.place) is wrong.wrong)
        where
          never : word ≡ option → ⊥
          never same = none (subst (IsFirst (λ w. w ≡ option)) (sym is) same)

          no_choice : (IsChoice first.may (λ w. w) word → ⊥) → IsChoice (with_option option form first).may (λ w. w) word → ⊥
          no_choice missing (one, inl is_option, same) = never (same ∙ is_option)
          no_choice missing (one, inr may, same) = missing (one, may, same)

          by : (IsChoice first.may (λ w. w) word × IsFirstNotAllowed (grammar_of (first_form first)) (word ∷ []) words wrong.place) ⊎ ((IsChoice first.may (λ w. w) word → ⊥) × (wrong.place ≡ 1)) → IsWrong (first_form (with_option option form first)) old number
          by (inl ((one, may, same), behind)) = later word words is never (subst first.may (sym same) may) behind
          by (inr (missing, here)) = wrong_choice (record {
            none = λ one. no_choice missing (subst (IsFirst (IsChoice (with_option option form first).may (λ w. w))) is one);
            at = wrong.at ∙ ap (λ n. old.read + n) here;
          })

  -- words that pass after the option pass with it
  option_passes : (words : List (List ℕ)) → Passes form words → Passes (first_form (with_option option form first)) (option ∷ words)
  option_passes words passes = pass_branch option (inl refl) same_apart (subst (λ (is : Bool). Passes (form_if is form (first.after option)) words) (sym (is_itself option)) passes)

  -- so do those that begin with another word that may stand first
  pub skip_passes : (word : List ℕ) (words : List (List ℕ)) → (word ≡ option → ⊥) → first.may word → Passes (first.after word) words → Passes ((with_option option form first).after word) words
  skip_passes word words never may passes = subst (λ (is : Bool). Passes (form_if is form (first.after word)) words) (sym (is_another word option never)) passes

pub is_named : (names : List (List ℕ)) (which : ℕ) → IsFirstNamed names which → IsTariffName names (get_or names which [])
is_named names which is = record { place = which; within = is.within; is = refl }

-- no tariff is of the name that follows the option
pub no_tariff : (names : List (List ℕ)) (form : Form) (first : FirstWord) (words : List (List ℕ)) (number : ℕ) → NamesNoTariff names words number → IsWrong (first_form (first_with_tariff names form first)) (at_word 2 words) number
no_tariff names form first words number none = option_wrong tariff_option (place (IsTariffName names) form) first none.option (wrong_place none.misses)

-- what is wrong of the words after a tariff, if one was chosen
pub chosen_wrong : (names : List (List ℕ)) (first : FirstWord) (words : List (List ℕ)) (tariff : Option ℕ) (at number : ℕ) → Chooses names words tariff at → IsWrong (first_form first) (at_word at words) number
    → IsWrong (first_form (first_with_tariff names (first_form first) first)) (at_word 2 words) number
chosen_wrong names first words None at number chosen wrong = skip_wrong tariff_option (place (IsTariffName names) (first_form first)) first (at_word 2 words) number chosen.none (subst (λ n. IsWrong (first_form first) (at_word n words) number) chosen.at_once wrong)
chosen_wrong names first words (Some which) at number chosen wrong = option_wrong tariff_option (place (IsTariffName names) (first_form first)) first chosen.option
    (wrong_later chosen.name (is_named names which chosen.is) (subst (λ n. IsWrong (first_form first) (at_word n words) number) chosen.later wrong))

-- ---- a run

-- what is wrong of the words of a run, where the name of a journal may follow a tariff
run_wrong : (names words : List (List ℕ)) (tariff : Option ℕ) (at number : ℕ) → Chooses names words tariff at → ((at_word at words).left ≡ [] → ⊥) → IsWrong (first_form last_file) (at_word at words) number
    → IsWrong (program_form names command.Run) (at_word 2 words) number
run_wrong names words None at number chosen some wrong = wrong_maybe (subst (λ n. (at_word n words).left ≡ [] → ⊥) chosen.at_once some)
    (skip_wrong tariff_option (place (IsTariffName names) (maybe (first_form last_file))) last_file (at_word 2 words) number chosen.none (subst (λ n. IsWrong (first_form last_file) (at_word n words) number) chosen.at_once wrong))
run_wrong names words (Some which) at number chosen some wrong = wrong_maybe (took_left chosen.option)
    (option_wrong tariff_option (place (IsTariffName names) (maybe (first_form last_file))) last_file chosen.option (wrong_later chosen.name (is_named names which chosen.is)
    (wrong_maybe (subst (λ n. (at_word n words).left ≡ [] → ⊥) chosen.later some) (subst (λ n. IsWrong (first_form last_file) (at_word n words) number) chosen.later wrong))))

-- the word after the tariff, if one was chosen, is the name of no file
pub run_no_journal : (names words : List (List ℕ)) (tariff : Option ℕ) (at number : ℕ) → Chooses names words tariff at → ((at_word at words).left ≡ [] → ⊥) → Misses IsFileName (at_word at words) number → IsWrong (program_form names command.Run) (at_word 2 words) number
run_no_journal names words tariff at number chosen some misses = run_wrong names words tariff at number chosen some (no_file_named (λ name. no_more) misses)

-- a word follows the name of the journal
pub run_too_long : (names words : List (List ℕ)) (tariff : Option ℕ) (at number : ℕ) (name : List ℕ) → Chooses names words tariff at → Took (at_word at words) (at_word (at + 1) words) name → IsFileName name → IsWrong finish (at_word (at + 1) words) number
    → IsWrong (program_form names command.Run) (at_word 2 words) number
run_too_long names words tariff at number name chosen took is wrong = run_wrong names words tariff at number chosen (took_left took) (file_wrong (λ name. no_more) name is took wrong)

-- no tariff is of the name that follows the option of a run
pub run_no_tariff : (names words : List (List ℕ)) (number : ℕ) → NamesNoTariff names words number → IsWrong (program_form names command.Run) (at_word 2 words) number
run_no_tariff names words number none = wrong_maybe (took_left none.option) (no_tariff names (maybe (first_form last_file)) last_file words number none)

-- ---- all words of a command

-- the words are that of the command, those of the tariff, and those that follow
pub all_words : (names : List (List ℕ)) (verb : ProgramVerb) (words : List (List ℕ)) (tariff : Option ℕ) (at : ℕ) → AsksFor verb words → Chooses names words tariff at → words ≡ program_word verb ∷ tariff_words names tariff ++ (at_word at words).left
all_words names verb words None at asks chosen = (verb_there verb words asks).cut ∙ ap (λ n. program_word verb ∷ (at_word n words).left) (sym chosen.at_once)
all_words names verb words (Some which) at asks chosen = (verb_there verb words asks).cut ∙ ap (λ (w : List (List ℕ)). program_word verb ∷ w)
    (chosen.option.cut ∙ ap (λ (w : List (List ℕ)). tariff_option ∷ w) (chosen.name.cut ∙ ap (λ n. get_or names which [] ∷ (at_word n words).left) (sym chosen.later)))

pub is_chosen : (names words : List (List ℕ)) (tariff : Option ℕ) (at : ℕ) → Chooses names words tariff at → IsChosen names tariff
is_chosen names words None at chosen = tt
is_chosen names words (Some which) at chosen = chosen.is

-- ---- names of a topology and of a journal

-- what may stand after a tariff or none and a topology
abbrev pub after_topology : List (List ℕ) → (List ℕ → Operands) → Form
after_topology names more = arguments_form names (options_and_file by_tariff more)

-- what is wrong of the words after a topology
pub topology_then : (names words : List (List ℕ)) (of : OfTopology) (at number : ℕ) (more : List ℕ → Operands) → NamesTopology names words of at → IsWrong (operands_form (more of.topology.now)) (at_word at words) number → IsWrong (after_topology names more) (at_word 2 words) number
topology_then names words of at number more naming wrong =
    chosen_wrong names (file_first more) words of.tariff naming.from number naming.chosen (file_wrong more of.topology.now naming.is naming.took (subst (λ n. IsWrong (operands_form (more of.topology.now)) (at_word n words) number) naming.next wrong))

-- and of those after a journal, whose name may bear on them
pub named_journal_then : (names words : List (List ℕ)) (of : OfJournal) (at number : ℕ) (more : List ℕ → Operands) → NamesJournal names words of at → IsWrong (operands_form (more of.names.journal.now)) (at_word at words) number
    → IsWrong (after_topology names (λ topology. name_operand more)) (at_word 2 words) number
named_journal_then names words of at number more naming wrong =
    topology_then names words _ naming.from number (λ topology. name_operand more) naming.topology (value_then file_name more of.names.journal.now naming.is naming.took (subst (λ n. IsWrong (operands_form (more of.names.journal.now)) (at_word n words) number) naming.next wrong))

-- and where it does not
pub journal_then : (names words : List (List ℕ)) (of : OfJournal) (at number : ℕ) (more : Operands) → NamesJournal names words of at → IsWrong (operands_form more) (at_word at words) number
    → IsWrong (after_topology names (journal_operand more)) (at_word 2 words) number
journal_then names words of at number more naming wrong = named_journal_then names words of at number (λ journal. more) naming wrong

-- the words that name a topology, and those after it
pub topology_words : (names words : List (List ℕ)) (verb : ProgramVerb) (of : OfTopology) (at : ℕ) → AsksFor verb words → NamesTopology names words of at → words ≡ program_word verb ∷ tariff_words names of.tariff ++ of.topology.now ∷ (at_word at words).left
topology_words names words verb of at asks naming =
    all_words names verb words of.tariff naming.from asks naming.chosen ∙ ap (λ left. program_word verb ∷ tariff_words names of.tariff ++ left) (naming.took.cut ∙ ap (λ n. of.topology.now ∷ (at_word n words).left) (sym naming.next))

-- the words that name a journal, and those after it
pub journal_words : (names words : List (List ℕ)) (verb : ProgramVerb) (of : OfJournal) (at : ℕ) → AsksFor verb words → NamesJournal names words of at
    → words ≡ program_word verb ∷ tariff_words names of.tariff ++ of.names.topology.now ∷ of.names.journal.now ∷ (at_word at words).left
journal_words names words verb of at asks naming =
    topology_words names words verb _ naming.from asks naming.topology ∙ ap (λ left. program_word verb ∷ tariff_words names of.tariff ++ of.names.topology.now ∷ left) (naming.took.cut ∙ ap (λ n. of.names.journal.now ∷ (at_word n words).left) (sym naming.next))

-- where no topology is named the words are wrong, whatever is to follow
pub no_topology : (names words : List (List ℕ)) (number : ℕ) (more : List ℕ → Operands) → NamesNoTopology names words number → IsWrong (after_topology names more) (at_word 2 words) number
no_topology names words number more (inl none) = no_tariff names (first_form (file_first more)) (file_first more) words number none
no_topology names words number more (inr (tariff, from, chosen, misses)) = chosen_wrong names (file_first more) words tariff from number chosen (no_file_named more misses)

-- and where no journal is, whose name may bear on what is to follow
pub no_named_journal : (names words : List (List ℕ)) (number : ℕ) (more : List ℕ → Operands) → NamesNoJournal names words number → IsWrong (after_topology names (λ topology. name_operand more)) (at_word 2 words) number
no_named_journal names words number more (inl none) = no_topology names words number (λ topology. name_operand more) none
no_named_journal names words number more (inr (of, from, naming, misses)) = topology_then names words of from number (λ topology. name_operand more) naming (no_name more misses)

-- or does not
pub no_journal : (names words : List (List ℕ)) (number : ℕ) (more : Operands) → NamesNoJournal names words number → IsWrong (after_topology names (journal_operand more)) (at_word 2 words) number
no_journal names words number more none = no_named_journal names words number (λ journal. more) none

-- the name of a journal is the last of the words
pub ends_at_journal : (names words : List (List ℕ)) (of : OfJournal) (at : ℕ) → NamesJournal names words of at → (at_word at words).left ≡ [] → AreJournalWords names words of
ends_at_journal names words of at naming none = record {
  are = λ verb asks. journal_words names words verb of at asks naming ∙ ap (λ left. program_word verb ∷ tariff_words names of.tariff ++ of.names.topology.now ∷ of.names.journal.now ∷ left) none;
  may = (is_chosen names words of.tariff naming.topology.from naming.topology.chosen, naming.topology.is, (naming.is, tt));
}

-- ---- names of a move

-- what may stand first after the tariff of a move
abbrev move_first : FirstWord
move_first = with_live (file_first moved_names)

-- what is wrong of the words behind the name of a file is wrong of those from it on
name_then : (more : List ℕ → Operands) (words : List (List ℕ)) (at next number : ℕ) (name : List ℕ) → at + 1 ≡ next → NamesFile words at name → IsWrong (operands_form (more name)) (at_word next words) number → IsWrong (operands_form (name_operand more)) (at_word at words) number
name_then more words at next number name same file wrong = value_then file_name more name file.is file.took (subst (λ n. IsWrong (operands_form (more name)) (at_word n words) number) (sym same) wrong)

-- what may stand after the names of a move
abbrev new_names : List ℕ → List ℕ → Operands
new_names journal new_topology = next_word (other_name journal) (λ new_journal. no_more)

-- what is wrong of the words after the old names of a move, the name of the old journal included
pub moved_journal : (words : List (List ℕ)) (at number : ℕ) (topology : List ℕ) → NamesFile words at topology → IsWrong (operands_form (moved_names topology)) (at_word (at + 1) words) number → IsWrong (first_form (file_first moved_names)) (at_word at words) number
moved_journal words at number topology file wrong = file_wrong moved_names topology file.is file.took wrong

pub moved_topology : (words : List (List ℕ)) (at next number : ℕ) (topology journal : List ℕ) → at + 1 ≡ next → NamesFile words at journal → IsWrong (operands_form (name_operand (new_names journal))) (at_word next words) number → IsWrong (operands_form (moved_names topology)) (at_word at words) number
moved_topology words at next number topology journal same file wrong = name_then (λ journal. name_operand (new_names journal)) words at next number journal same file wrong

pub moved_new : (words : List (List ℕ)) (at next number : ℕ) (journal new_topology : List ℕ) → at + 1 ≡ next → NamesFile words at new_topology → IsWrong (operands_form (new_names journal new_topology)) (at_word next words) number → IsWrong (operands_form (name_operand (new_names journal))) (at_word at words) number
moved_new words at next number journal new_topology same file wrong = name_then (new_names journal) words at next number new_topology same file wrong

pub no_move_topology : (words : List (List ℕ)) (at number : ℕ) → Misses IsFileName (at_word at words) number → IsWrong (first_form (file_first moved_names)) (at_word at words) number
no_move_topology words at number misses = no_file_named moved_names misses

pub no_move_journal : (words : List (List ℕ)) (at number : ℕ) (topology : List ℕ) → Misses IsFileName (at_word at words) number → IsWrong (operands_form (moved_names topology)) (at_word at words) number
no_move_journal words at number topology misses = no_name (λ journal. name_operand (new_names journal)) misses

pub no_new_topology : (words : List (List ℕ)) (at number : ℕ) (journal : List ℕ) → Misses IsFileName (at_word at words) number → IsWrong (operands_form (name_operand (new_names journal))) (at_word at words) number
no_new_topology words at number journal misses = no_name (new_names journal) misses

pub no_new_journal : (words : List (List ℕ)) (at number : ℕ) (journal new_topology : List ℕ) → Misses (IsOtherFile journal) (at_word at words) number → IsWrong (operands_form (new_names journal new_topology)) (at_word at words) number
no_new_journal words at number journal new_topology misses = no_other_name journal (λ new_journal. no_more) misses

-- what is wrong of the words after the four names
pub moved_then : (words : List (List ℕ)) (at next number : ℕ) (of to : Names) → NamesMove words at next of to → IsWrong finish (at_word next words) number → IsWrong (first_form (file_first moved_names)) (at_word at words) number
moved_then words at next number of to naming wrong =
    moved_journal words at number of.topology.now naming.topology
    (moved_topology words (at + 1) (at + 2) number of.topology.now of.journal.now (omega arith) naming.journal
    (moved_new words (at + 2) (at + 3) number of.journal.now to.topology.now (omega arith) naming.new_topology
    (value_then (other_name of.journal.now) (λ new_journal. no_more) to.journal.now naming.is_other naming.new_journal (subst (λ n. IsWrong finish (at_word n words) number) (naming.after ∙ omega arith) wrong))))

-- what is wrong of the names is wrong of the words from the choice of live VPNs on
pub live_then : (words : List (List ℕ)) (from at number : ℕ) (live : Bool) → ChoosesLive words from live at → IsWrong (first_form (file_first moved_names)) (at_word at words) number → IsWrong (first_form move_first) (at_word from words) number
live_then words from at number true chosen wrong = option_wrong live_option (first_form (file_first moved_names)) (file_first moved_names) chosen.0 wrong
live_then words from at number false chosen wrong = skip_wrong live_option (first_form (file_first moved_names)) (file_first moved_names) (at_word from words) number chosen.0 (subst (λ n. IsWrong (first_form (file_first moved_names)) (at_word n words) number) chosen.1 wrong)

-- what is wrong of the words after a tariff, if one was chosen, is wrong of a move's
pub move_then : (names words : List (List ℕ)) (tariff : Option ℕ) (from number : ℕ) → Chooses names words tariff from → IsWrong (first_form move_first) (at_word from words) number → IsWrong (program_form names command.Move) (at_word 2 words) number
move_then names words tariff from number chosen wrong = chosen_wrong names move_first words tariff from number chosen wrong

-- no tariff is of the name that follows the option of a move
pub move_no_tariff : (names words : List (List ℕ)) (number : ℕ) → NamesNoTariff names words number → IsWrong (program_form names command.Move) (at_word 2 words) number
move_no_tariff names words number none = no_tariff names (first_form move_first) move_first words number none

-- the names of a move are the last of the words, after the choice of live VPNs
pub ends_at_names : (words : List (List ℕ)) (from at next : ℕ) (live : Bool) (of to : Names) → ChoosesLive words from live at → NamesMove words at next of to → (at_word next words).left ≡ []
    → (at_word from words).left ≡ live_words live ++ of.topology.now ∷ of.journal.now ∷ to.topology.now ∷ to.journal.now ∷ []
ends_at_names words from at next live of to chosen naming none = by live chosen
  where
    left_at : (one other : ℕ) → one ≡ other → (at_word one words).left ≡ (at_word other words).left
    left_at one other same = ap (λ n. (at_word n words).left) same

    names : (at_word at words).left ≡ of.topology.now ∷ of.journal.now ∷ to.topology.now ∷ to.journal.now ∷ []
    names = naming.topology.took.cut ∙ ap (λ (w : List (List ℕ)). of.topology.now ∷ w) (naming.journal.took.cut
        ∙ ap (λ (w : List (List ℕ)). of.journal.now ∷ w) (left_at (at + 1 + 1) (at + 2) (omega arith) ∙ (naming.new_topology.took.cut
        ∙ ap (λ (w : List (List ℕ)). to.topology.now ∷ w) (left_at (at + 2 + 1) (at + 3) (omega arith) ∙ (naming.new_journal.cut
        ∙ ap (λ (w : List (List ℕ)). to.journal.now ∷ w) (left_at (at + 3 + 1) next (omega (arith, naming.after)) ∙ none))))))

    by : (live : Bool) → ChoosesLive words from live at → (at_word from words).left ≡ live_words live ++ of.topology.now ∷ of.journal.now ∷ to.topology.now ∷ to.journal.now ∷ []
    by true chosen = chosen.0.cut ∙ ap (λ (w : List (List ℕ)). live_option ∷ w) names
    by false chosen = left_at from at (sym chosen.1) ∙ names

-- the words are those of a move
pub are_move_words : (names words : List (List ℕ)) (tariff : Option ℕ) (from at next : ℕ) (live : Bool) (of to : Names) → AsksFor command.Move words → Chooses names words tariff from → ChoosesLive words from live at → NamesMove words at next of to → (at_word next words).left ≡ []
    → AreArgumentWords names words command.Move ((tariff, live), of.topology.now, (of.journal.now, (to.topology.now, (to.journal.now, tt))))
are_move_words names words tariff from at next live of to asks chosen lives naming none = record {
  are = all_words names command.Move words tariff from asks chosen ∙ (ap (λ (left : List (List ℕ)). program_word command.Move ∷ tariff_words names tariff ++ left) (ends_at_names words from at next live of to lives naming none)
      ∙ ap (λ (left : List (List ℕ)). program_word command.Move ∷ left) (sym (append_assoc (tariff_words names tariff) (live_words live) _)));
  may = (is_chosen names words tariff from chosen, naming.topology.is, (naming.journal.is, (naming.new_topology.is, (naming.is_other, tt))));
  available = tt;
}

-- ---- right words

-- words that tell what they may pass
operands_pass : (these : Operands) (values : OperandValues these) → MayTellAll these values → Passes (operands_form these) (operand_words these values)
operands_pass no_more values may = pass_finish
operands_pass end_words words may = subst (Passes (operands_form end_words)) (map-id words) (pass_list end_words_closed may.enough may.are)
operands_pass (next_word operand more) (value, values) may = pass_branch value may.0 (operand_apart operand) (operands_pass (more value) values may.1)

no_tariff_file : (name : List ℕ) → IsFileName name → name ≡ tariff_option → ⊥
no_tariff_file name is same = no_file (subst IsFileName same is)

no_live_name : (name : List ℕ) → IsFileName name → name ≡ live_option → ⊥
no_live_name name is same = no_live_file (subst IsFileName same is)

module _ (names : List (List ℕ)) (form : Form) (first : FirstWord) (word : List ℕ) (words : List (List ℕ)) where
  -- a tariff, if one is chosen, and then what passes
  tariff_passes : (tariff : Option ℕ) → IsChosen names tariff → (word ≡ tariff_option → ⊥) → first.may word → Passes (first.after word) words → Passes form (word ∷ words) → Passes (first_form (first_with_tariff names form first)) (tariff_words names tariff ++ word ∷ words)
  tariff_passes None chosen never may passes whole = pass_branch word (inr may) same_apart (skip_passes tariff_option (place (IsTariffName names) form) first word words never may passes)
  tariff_passes (Some which) chosen never may passes whole = option_passes tariff_option (place (IsTariffName names) form) first (get_or names which [] ∷ word ∷ words) (pass_place (is_named names which chosen) whole)

module _ (names : List (List ℕ)) (more : List ℕ → Operands) (name : List ℕ) (is : IsFileName name) (values : OperandValues (more name)) (may : MayTellAll (more name) values) where
  abbrev left_words : List (List ℕ)
  left_words = operand_words (more name) values

  file_passes : Passes (first_form (file_first more)) (name ∷ left_words)
  file_passes = pass_branch name is same_apart (operands_pass (more name) values may)

  live_passes : (live : Bool) → Passes (first_form (with_live (file_first more))) (live_words live ++ name ∷ left_words)
  live_passes true = option_passes live_option (first_form (file_first more)) (file_first more) (name ∷ left_words) file_passes
  live_passes false = pass_branch name (inr is) same_apart (skip_passes live_option (first_form (file_first more)) (file_first more) name left_words (no_live_name name is) is (operands_pass (more name) values may))

  both_pass : (tariff : Option ℕ) (live : Bool) → IsChosen names tariff → Passes (first_form (with_options names by_tariff_and_live (file_first more))) (tariff_words names tariff ++ (live_words live ++ name ∷ left_words))
  both_pass tariff true chosen = tariff_passes names (first_form (with_live (file_first more))) (with_live (file_first more)) live_option (name ∷ left_words) tariff chosen (λ same. options_apart (sym same)) (inl refl)
      (subst (λ (is : Bool). Passes (form_if is (first_form (file_first more)) ((file_first more).after live_option)) (name ∷ left_words)) (sym (is_itself live_option)) file_passes) (live_passes true)
  both_pass tariff false chosen = tariff_passes names (first_form (with_live (file_first more))) (with_live (file_first more)) name left_words tariff chosen (no_tariff_file name is) (inr is)
      (skip_passes live_option (first_form (file_first more)) (file_first more) name left_words (no_live_name name is) is (operands_pass (more name) values may)) (live_passes false)

  options_pass : (options : Options) (chosen : OptionValues options) → MayChoose names options chosen → Passes (first_form (with_options names options (file_first more))) (option_words names options chosen ++ name ∷ left_words)
  options_pass without chosen fine = file_passes
  options_pass by_tariff tariff fine = tariff_passes names (first_form (file_first more)) (file_first more) name left_words tariff fine (no_tariff_file name is) is (operands_pass (more name) values may) file_passes
  options_pass by_tariff_and_live (tariff, live) fine =
      subst (Passes (first_form (with_options names by_tariff_and_live (file_first more)))) (sym (append_assoc (tariff_words names tariff) (live_words live) (name ∷ left_words))) (both_pass tariff live fine)

any_file_passes : (names : List (List ℕ)) (tariff : Option ℕ) (name : Option (List ℕ)) → IsChosen names tariff → MatchOption name ⊤ IsFileName → Passes (arguments_form names tariff_and_any_file) (tariff_words names tariff ++ name_words name)
any_file_passes names None None chosen is = pass_nothing
any_file_passes names (Some which) None chosen is = pass_maybe (option_passes tariff_option (place (IsTariffName names) (maybe (first_form last_file))) last_file (get_or names which [] ∷ []) (pass_place (is_named names which chosen) pass_nothing))
any_file_passes names None (Some name) chosen is =
    pass_maybe (tariff_passes names (maybe (first_form last_file)) last_file name [] None chosen (no_tariff_file name is) is pass_finish (pass_maybe (file_passes names (λ name. no_more) name is tt tt)))
any_file_passes names (Some which) (Some name) chosen is =
    pass_maybe (tariff_passes names (maybe (first_form last_file)) last_file name [] (Some which) chosen (no_tariff_file name is) is pass_finish (pass_maybe (file_passes names (λ name. no_more) name is tt tt)))

task_passes : (names : List (List ℕ)) (arguments : Arguments) (task : ArgumentValues arguments) → MayBeAsked names arguments task → Passes (arguments_form names arguments) (argument_words names arguments task)
task_passes names (only_operands these) values may = operands_pass these values may
task_passes names (options_and_file options more) (chosen, name, values) may = options_pass names more name may.1 values may.2 options chosen may.0
task_passes names tariff_and_any_file (tariff, name) may = any_file_passes names tariff name may.0 may.1

-- none of the words of a command is wrong
pub none_wrong : (names words : List (List ℕ)) (verb : ProgramVerb) (task : ArgumentTask verb) (number : ℕ) → AreArgumentWords names words verb task → IsFirstUnfit names words number → ⊥
none_wrong names words verb task number are wrong =
    (subst (Passes (words_form names)) (sym are.are) (pass_branch verb are.available (verbs_apart names) (task_passes names (verb_arguments verb) task are.may))).none number wrong

-- they ask for it
pub asks_for : (names words : List (List ℕ)) (verb : ProgramVerb) (task : ArgumentTask verb) → AreArgumentWords names words verb task → AsksFor verb words
asks_for names words verb task are = subst (AsksFor verb) (sym are.are) refl

-- ---- words tell one thing

-- nothing, or what begins with no option
abbrev pub NoOption : List (List ℕ) → Type 0
NoOption words = IsFirst (λ word. word ≡ tariff_option) words → ⊥

-- the first of a name is one place
one_place : (names : List (List ℕ)) (one other : ℕ) → IsFirstNamed names one → IsFirstNamed names other → get_or names one [] ≡ get_or names other [] → one ≡ other
one_place names one other is is' same = by (cases_lt one other) (cases_lt other one)
  where
    by : (one < other) ⊎ (other ≤ one) → (other < one) ⊎ (one ≤ other) → one ≡ other
    by (inl below) later = absurd (is'.first one below same)
    by (inr le) (inl below) = absurd (is.first other below (sym same))
    by (inr le) (inr ge) = omega (arith, le, ge)

-- one tariff, and the same words after it
pub record IsSameRest (one other : Option ℕ) (rest rest' : List (List ℕ)) : Type 0 where
  pub tariffs : one ≡ other
  pub rests : rest ≡ rest'

pub one_tariff : (names : List (List ℕ)) (one other : Option ℕ) (rest rest' : List (List ℕ)) → IsChosen names one → IsChosen names other → NoOption rest → NoOption rest' → tariff_words names one ++ rest ≡ tariff_words names other ++ rest'
    → IsSameRest one other rest rest'
one_tariff names None None rest rest' is is' plain plain' same = record { tariffs = refl; rests = same }
one_tariff names None (Some which) rest rest' is is' plain plain' same = absurd (plain (subst (IsFirst (λ word. word ≡ tariff_option)) (sym same) refl))
one_tariff names (Some which) None rest rest' is is' plain plain' same = absurd (plain' (subst (IsFirst (λ word. word ≡ tariff_option)) same refl))
one_tariff names (Some which) (Some other) rest rest' is is' plain plain' same = record {
  tariffs = ap Some (one_place names which other is is' (ap (λ (w : List (List ℕ)). get_or w 1 []) same));
  rests = ap (drop 2) same;
}

-- the first word
abbrev first_of_words : List (List ℕ) → List ℕ
first_of_words words = get_or words 0 []

-- a value and those after it are the same
abbrev AreSame : (operand : Operand) (more : OperandValue operand → Operands) → (one other : OperandValues (next_word operand more)) → Type 0
AreSame operand more one other = one ≡ other

-- a name and the values after it are the same
abbrev AreSameNamed : (more : List ℕ → Operands) → (one other : (name : List ℕ) × OperandValues (more name)) → Type 0
AreSameNamed more one other = one ≡ other

-- words tell one list of values
one_values : (these : Operands) (one other : OperandValues these) → MayTellAll these one → MayTellAll these other → operand_words these one ≡ operand_words these other → one ≡ other
one_values no_more one other may may' same = refl
one_values end_words one other may may' same = same
one_values (next_word operand more) (value, values) (value', values') may may' same =
    subst (λ (v : OperandValue operand). (vs : OperandValues (more v)) → MayTellAll (more v) vs → operand_words (more value) values ≡ operand_words (more v) vs → AreSame operand more (value, values) (v, vs))
    ((operand_apart operand).apart value value' may.0 may'.0 (ap first_of_words same))
    (λ vs fine rests. λ i. (value, one_values (more value) values vs may.1 fine rests i)) values' may'.1 (ap (drop 1) same)

-- a file and what follows it are told by one list of words
one_file : (more : List ℕ → Operands) (name name' : List ℕ) (values : OperandValues (more name)) (values' : OperandValues (more name')) → MayTellAll (more name) values → MayTellAll (more name') values' → name ∷ operand_words (more name) values ≡ name' ∷ operand_words (more name') values'
    → AreSameNamed more (name, values) (name', values')
one_file more name name' values values' may may' same =
    subst (λ (n : List ℕ). (vs : OperandValues (more n)) → MayTellAll (more n) vs → operand_words (more name) values ≡ operand_words (more n) vs → AreSameNamed more (name, values) (n, vs))
    (ap first_of_words same)
    (λ vs fine rests. λ i. (name, one_values (more name) values vs may fine rests i)) values' may' (ap (drop 1) same)

one_live : (one other : Bool) (file file' : List ℕ) (rest rest' : List (List ℕ)) → IsFileName file → IsFileName file' → live_words one ++ file ∷ rest ≡ live_words other ++ file' ∷ rest' → (one ≡ other) × (file ∷ rest ≡ file' ∷ rest')
one_live true true file file' rest rest' is is' same = (refl, ap (drop 1) same)
one_live false false file file' rest rest' is is' same = (refl, same)
one_live true false file file' rest rest' is is' same = absurd (no_live_file (subst IsFileName (sym (ap first_of_words same)) is'))
one_live false true file file' rest rest' is is' same = absurd (no_live_file (subst IsFileName (ap first_of_words same) is))

plain_file : (file : List ℕ) (words : List (List ℕ)) → IsFileName file → NoOption (file ∷ words)
plain_file file words is first = no_file (subst IsFileName first is)

plain_live : (live : Bool) (file : List ℕ) (words : List (List ℕ)) → IsFileName file → NoOption (live_words live ++ file ∷ words)
plain_live true file words is first = options_apart (sym first)
plain_live false file words is first = plain_file file words is first

-- options, and the same words after them
record AreSameOptions (options : Options) (one other : OptionValues options) (rest rest' : List (List ℕ)) : Type 0 where
  pub chosen : one ≡ other
  pub rests : rest ≡ rest'

one_choice : (names : List (List ℕ)) (options : Options) (one other : OptionValues options) (file file' : List ℕ) (rest rest' : List (List ℕ)) → MayChoose names options one → MayChoose names options other → IsFileName file → IsFileName file'
    → option_words names options one ++ file ∷ rest ≡ option_words names options other ++ file' ∷ rest' → AreSameOptions options one other (file ∷ rest) (file' ∷ rest')
one_choice names without one other file file' rest rest' may may' is is' same = record { chosen = refl; rests = same }
one_choice names by_tariff one other file file' rest rest' may may' is is' same =
    let both = one_tariff names one other (file ∷ rest) (file' ∷ rest') may may' (plain_file file rest is) (plain_file file' rest' is') same in
    record { chosen = both.tariffs; rests = both.rests }
one_choice names by_tariff_and_live (one, live) (other, live') file file' rest rest' may may' is is' same =
    let both = one_tariff names one other (live_words live ++ file ∷ rest) (live_words live' ++ file' ∷ rest') may may' (plain_live live file rest is) (plain_live live' file' rest' is')
    (sym (append_assoc (tariff_words names one) (live_words live) (file ∷ rest)) ∙ (same ∙ append_assoc (tariff_words names other) (live_words live') (file' ∷ rest'))) in
    let lives = one_live live live' file file' rest rest' is is' both.rests in
    record { chosen = λ i. (both.tariffs i, lives.0 i); rests = lives.1 }

one_any_file : (names : List (List ℕ)) (one other : Option ℕ) (name name' : Option (List ℕ)) → IsChosen names one → IsChosen names other → MatchOption name ⊤ IsFileName → MatchOption name' ⊤ IsFileName → tariff_words names one ++ name_words name ≡ tariff_words names other ++ name_words name'
    → (one ≡ other) × (name ≡ name')
one_any_file names one other name name' chosen chosen' is is' same =
    let both = one_tariff names one other (name_words name) (name_words name') chosen chosen' (plain name is) (plain name' is') same in
    (both.tariffs, back name name' both.rests)
  where
    plain : (file : Option (List ℕ)) → MatchOption file ⊤ IsFileName → NoOption (name_words file)
    plain None is first = first
    plain (Some file) is first = plain_file file [] is first

    back : (file file' : Option (List ℕ)) → name_words file ≡ name_words file' → file ≡ file'
    back None None same = refl
    back None (Some file) same = absurd (cc same)
    back (Some file) None same = absurd (cc same)
    back (Some file) (Some file') same = ap Some (ap first_of_words same)

-- the words of a command tell one task
one_task : (names : List (List ℕ)) (arguments : Arguments) (one other : ArgumentValues arguments) → MayBeAsked names arguments one → MayBeAsked names arguments other → argument_words names arguments one ≡ argument_words names arguments other → one ≡ other
one_task names (only_operands these) one other may may' same = one_values these one other may may' same
one_task names (options_and_file options more) (chosen, name, values) (chosen', name', values') may may' same =
    let both = one_choice names options chosen chosen' name name' (operand_words (more name) values) (operand_words (more name') values') may.0 may'.0 may.1 may'.1 same in
    let files = one_file more name name' values values' may.2 may'.2 both.rests in
    λ i. (both.chosen i, (files i).0, (files i).1)
one_task names tariff_and_any_file (tariff, name) (tariff', name') may may' same =
    let both = one_any_file names tariff tariff' name name' may.0 may'.0 may.1 may'.1 same in
    λ i. (both.0 i, both.1 i)

-- what is so of a task that words tell is so of each of the same command
pub of_same : (names words : List (List ℕ)) (verb : ProgramVerb) (P : ArgumentTask verb → Type 0) (task : ArgumentTask verb) → AreArgumentWords names words verb task → P task → (other : ArgumentTask verb) → AreArgumentWords names words verb other → P other
of_same names words verb P task are holds other are' = subst P (one_task names (verb_arguments verb) task other are.may are'.may (ap (drop 1) (sym are.are ∙ are'.are))) holds

-- and of each of any command
pub of_each : (names words : List (List ℕ)) (P : (verb : ProgramVerb) → ArgumentTask verb → Type 0) (verb : ProgramVerb) (task : ArgumentTask verb) → AreArgumentWords names words verb task → P verb task
    → (other : ProgramVerb) (other_task : ArgumentTask other) → AreArgumentWords names words other other_task → P other other_task
of_each names words P verb task are holds other other_task are' =
    subst (λ (v : ProgramVerb). (t : ArgumentTask v) → AreArgumentWords names words v t → P v t) (one_verb verb other words (asks_for names words verb task are) (asks_for names words other other_task are'))
    (of_same names words verb (P verb) task are holds) other_task are'

-- ---- tariffs

-- the tariff that was read of a place is the one that is chosen by it
pub chosen_there : {T : Type 0} (tariffs : List T) (which : ℕ) (tariff : T) → tariff ≡ get_or tariffs which tariff → which < length tariffs → Some tariff ≡ chosen_of tariffs (Some which)
chosen_there [] which tariff is below = absurd (omega (arith, below))
chosen_there (first ∷ tariffs) zero tariff is below = ap Some is
chosen_there (first ∷ tariffs) (suc which) tariff is below = chosen_there tariffs which tariff is (omega (arith, below))

-- no tariff is chosen by a place that is not there
pub chosen_nowhere : {T : Type 0} (tariffs : List T) (which : ℕ) → length tariffs ≤ which → None ≡ chosen_of tariffs (Some which)
chosen_nowhere [] which past = refl
chosen_nowhere (first ∷ tariffs) zero past = absurd (omega (arith, past))
chosen_nowhere (first ∷ tariffs) (suc which) past = chosen_nowhere tariffs which (omega (arith, past))

-- the number of the first endpoint fits
pub first_small : (tariff : Option ℕ) (first : ℕ) → first ≡ first_end tariff → first ≤ 2 ^ 63
first_small None first is = omega (arith, is)
first_small (Some which) first is = omega (arith, is)

-- ---- names

-- the place of the first tariff of a name that came
pub named_some : {T : Type 0} (name_of : T → List ℕ) (tariffs : List T) (words : List (List ℕ)) (name : List ℕ) (found : Option ℕ)
    → IfSome found (λ which. (which < length tariffs) × ((d : T) → name_of (get_or tariffs which d) ≡ name) × ((other : ℕ) (d : T) → other < which → name_of (get_or tariffs other d) ≢ name))
    → Took (at_word 3 words) (at_word 4 words) name → IfSome found (λ which. IsFirstNamed (map name_of tariffs) which × Took (at_word 3 words) (at_word 4 words) (get_or (map name_of tariffs) which []))
named_some name_of tariffs words name None is took = tt
named_some name_of [] words name (Some which) is took = absurd (omega (arith, is.0))
named_some name_of (first ∷ more) words name (Some which) is took =
    let all = first ∷ more in
    let here : get_or (map name_of all) which [] ≡ name = get_or-map name_of all which first [] is.0 ∙ is.1 first in (
      record {
        within = omega (arith, is.0, length-map all name_of);
        first = λ other below same. is.2 other first below (sym (get_or-map name_of all other first [] (omega (arith, is.0, below))) ∙ (same ∙ here));
      },
      subst (λ (w : List ℕ). Took (at_word 3 words) (at_word 4 words) w) (sym here) took,
    )

-- none has the name that came
pub named_none : {T : Type 0} (name_of : T → List ℕ) (tariffs : List T) (words : List (List ℕ)) (name : List ℕ) (found : Option ℕ)
    → IfNone found ((other : ℕ) (d : T) → other < length tariffs → name_of (get_or tariffs other d) ≢ name)
    → Took (at_word 3 words) (at_word 4 words) name → IfNone found (IsFirst (IsTariffName (map name_of tariffs)) (at_word 3 words).left → ⊥)
named_none {T} name_of tariffs words name (Some which) none took = tt
named_none {T} name_of tariffs words name None none took = λ first. at tariffs none (subst (IsFirst (IsTariffName (map name_of tariffs))) took.cut first)
  where
    at : (all : List T) → ((other : ℕ) (d : T) → other < length all → name_of (get_or all other d) ≢ name) → IsTariffName (map name_of all) name → ⊥
    at [] none is = omega (arith, is.within)
    at (one ∷ more) none is =
        let below : is.place < length (one ∷ more) = omega (arith, is.within, length-map (one ∷ more) name_of) in
        none is.place one below (sym (get_or-map name_of (one ∷ more) is.place one [] below) ∙ sym is.is)
