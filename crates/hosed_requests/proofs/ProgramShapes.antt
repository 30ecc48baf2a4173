-- The program's words by their shapes and by the forms of their arguments.
use Rattle.std.specs.Str.{bytes_eq}
use Rattle.std.proofs.Common.{◌≡◌, ◌≢◌, ◌∙◌, ◌⊎◌, ℕ, ◌<◌, ◌-◌, ◌^◌, List, [], ◌∷◌, Bool, true, false, None, Some, inl, inr, suc, zero, get_or, refl, sym, ap, subst, arith}
use Rattle.std.proofs.lemmas.Slice.Eq.{bytes_eq-Decides}
use mathlib.Core.List.{map-id}
use Rattle.hose_words.specs.steps.Form.{Form, Follows, IsWhole, finish, grammar_of, maybe, place}
use Rattle.hose_words.specs.Words.{IsChoice}
use Rattle.hose_words.specs.steps.Grammar.{Grammar}
use Rattle.hose_words.specs.Shapes.{Begin, IsFirstWrong, MayBeTold, Shape, last, line_end, words_told}
use Rattle.hose_words.specs.Shapes as shape
use Rattle.hose_words.proofs.Shapes.{AddsOption, Agrees, agrees_end, agrees_flag, agrees_items, agrees_last, agrees_option, agrees_place, agrees_value, form_of_wrong, wrong_of_form}
use Rattle.hose_proto.proofs.EndWords.{end_words_closed, no_end_words}
use Rattle.hose_gen.specs.Limits.{least_nodes, most_hoses}
use Rattle.hose_graph.specs.Limits.{least_ends, most_epoch, most_links, most_nodes}
use Rattle.hose_pool.specs.Limits.{most_workers}
use Rattle.hose_proto.specs.EndWords.{AreNewEndWords}
use Rattle.hosed_requests.specs.Limits.{most_connections}
use Rattle.hosed_requests.specs.ProgramWords.{AreWords, IsFileName, IsFirstNamed, Task, file_and, live_option, number_and, other_and, program_shape, program_word, tariff_option, with_tariff, words_shape}
use Rattle.hosed_requests.specs.steps.Arguments.{AreArgumentWords, ArgumentTask, FirstWord, IsFirstUnfit, IsTariffName, MayBeAsked, Operands, argument_words, file_first, first_form, first_with_tariff, form_if, last_file, cut_operands, moved_names, name_operand, number_operand, operands_form, server_numbers, program_form, verb_arguments, with_live, with_option, words_form}
use Rattle.hosed_requests.specs.steps.Arguments.Operand.{number_within, other_name}
use Rattle.hosed_requests.specs.steps.Arguments.Operands.{end_words, next_word, no_more}
use Rattle.hosed_requests.specs.declared.verb.ProgramVerb.{ProgramVerb}
use Rattle.hosed_requests.specs.declared.verb.ProgramVerb.TheVariants as command
use Rattle.hosed_requests.proofs.Commands.{is_another, is_itself, is_named, no_file, no_live_file, none_wrong, of_each, of_same, operand_apart, options_apart, same_apart, verbs_apart}

-- ---- options

-- what stands after a word that may stand first
module _ (option : List ℕ) (form : Form) (first : FirstWord) (never : first.may option → ⊥) where
  abbrev with_it : FirstWord
  with_it = with_option option form first

  -- after the option its own form, and after another word what stands there without it
  abbrev after_word : List ℕ → Form
  after_word word = form_if (bytes_eq word option) form (first.after word)

  option_form : (word : List ℕ) → word ≡ option → after_word word ≡ form
  option_form word same = ap (λ (is : Bool). form_if is form (first.after word)) (subst (λ (w : List ℕ). bytes_eq w option ≡ true) (sym same) (is_itself option))

  other_form : (word : List ℕ) → (word ≡ option → ⊥) → after_word word ≡ first.after word
  other_form word other = ap (λ (is : Bool). form_if is form (first.after word)) (is_another word option other)

  first_word_is : (word : List ℕ) → IsChoice with_it.may (λ (w : List ℕ). w) word → (word ≡ option) ⊎ IsChoice first.may (λ (w : List ℕ). w) word
  first_word_is word (one, inl is, same) = inl (same ∙ is)
  first_word_is word (one, inr may, same) = inr (one, may, same)

  pub adds_option : AddsOption option (grammar_of (first_form first)) (grammar_of form) (grammar_of (first_form with_it))
  adds_option = record {
    first = first_word_is;
    known_first = (option, inl refl, refl);
    plain_first = λ word choice. (choice.0, inr choice.1, choice.2);
    later = λ before word follows. subst (λ (f : Form). Follows f before word) (option_form follows.0 (sym follows.2)) follows.3;
    later_back = λ before word follows. (option, inl refl, refl, subst (λ (f : Form). Follows f before word) (sym (option_form option refl)) follows);
    without = λ one before word other follows. without one before word other follows;
    without_back = λ one before word other follows. (follows.0, inr follows.1, follows.2, subst (λ (f : Form). Follows f before word) (sym (other_form follows.0 (λ same. other (follows.2 ∙ same)))) follows.3);
    none = λ none. none;
    none_back = λ none. none;
    whole_behind = λ before whole. subst (λ (f : Form). IsWhole f before) (option_form whole.0 (sym whole.2)) whole.3;
    whole_behind_back = λ before whole. (option, inl refl, refl, subst (λ (f : Form). IsWhole f before) (sym (option_form option refl)) whole);
    whole_without = λ one before other whole. whole_without one before other whole;
    whole_without_back = λ one before other whole. (whole.0, inr whole.1, whole.2, subst (λ (f : Form). IsWhole f before) (sym (other_form whole.0 (λ same. other (whole.2 ∙ same)))) whole.3);
  }
    where
      without : (one : List ℕ) (before : List (List ℕ)) (word : List ℕ) → (one ≡ option → ⊥) → Follows (first_form with_it) (one ∷ before) word → Follows (first_form first) (one ∷ before) word
      without one before word other (choice, inl is, same, follows) = absurd (other (same ∙ is))
      without one before word other (choice, inr may, same, follows) = (choice, may, same, subst (λ (f : Form). Follows f before word) (other_form choice (λ is. other (same ∙ is))) follows)

      whole_without : (one : List ℕ) (before : List (List ℕ)) → (one ≡ option → ⊥) → IsWhole (first_form with_it) (one ∷ before) → IsWhole (first_form first) (one ∷ before)
      whole_without one before other (choice, inl is, same, whole) = absurd (other (same ∙ is))
      whole_without one before other (choice, inr may, same, whole) = (choice, may, same, subst (λ (f : Form). IsWhole f before) (other_form choice (λ is. other (same ∙ is))) whole)

  -- nothing that begins without the option begins with its word
  pub not_first : (one : Shape) → Agrees one (grammar_of (first_form first)) → (words : List (List ℕ)) → Begin one (option ∷ words) → ⊥
  not_first one on words begin = let choice = on.steps.follow_back [] option (on.steps.front (option ∷ []) words begin) in never (subst first.may (sym choice.2) choice.1)

-- so it is where there may be no word at all
pub adds_maybe : (known : List ℕ) (plain form : Form) (behind : Grammar) → AddsOption known (grammar_of plain) behind (grammar_of form) → AddsOption known (grammar_of (maybe plain)) behind (grammar_of (maybe form))
adds_maybe known plain form behind adds = record {
  first = adds.first;
  known_first = adds.known_first;
  plain_first = adds.plain_first;
  later = adds.later;
  later_back = adds.later_back;
  without = adds.without;
  without_back = adds.without_back;
  none = λ none. tt;
  none_back = λ none. tt;
  whole_behind = adds.whole_behind;
  whole_behind_back = adds.whole_behind_back;
  whole_without = adds.whole_without;
  whole_without_back = adds.whole_without_back;
}

-- ---- tariffs

-- the name of a tariff is that of the first with it
first_named : (names : List (List ℕ)) (word : List ℕ) → IsTariffName names word → IsChoice (IsFirstNamed names) (λ which. get_or names which []) word
first_named [] word is = absurd (omega (arith, is.within))
first_named (name ∷ names) word is = by (first_named names word) (bytes_eq word name) refl is.place refl
  where
    here : word ≡ name → IsChoice (IsFirstNamed (name ∷ names)) (λ which. get_or (name ∷ names) which []) word
    here same = (0, record { within = omega arith; first = λ other below. absurd (omega (arith, below)) }, same)

    later : (word ≡ name → ⊥) → IsChoice (IsFirstNamed names) (λ which. get_or names which []) word → IsChoice (IsFirstNamed (name ∷ names)) (λ which. get_or (name ∷ names) which []) word
    later never (which, first, same) = (suc which, record { within = omega (arith, first.within); first = sooner }, same)
      where
        sooner : (other : ℕ) → other < suc which → get_or (name ∷ names) other [] ≢ get_or names which []
        sooner zero below is_name = never (same ∙ sym is_name)
        sooner (suc other) below is_other = first.first other (omega (arith, below)) is_other

    by : (IsTariffName names word → IsChoice (IsFirstNamed names) (λ which. get_or names which []) word) → (found : Bool) → bytes_eq word name ≡ found → (place : ℕ) → is.place ≡ place
        → IsChoice (IsFirstNamed (name ∷ names)) (λ which. get_or (name ∷ names) which []) word
    by more true found spot at = here ((bytes_eq-Decides word name).0 found)
    by more false found zero at = here (is.is ∙ ap (λ n. get_or (name ∷ names) n []) at)
    by more false found (suc spot) at = later (λ same. absurd (cc (sym found ∙ (bytes_eq-Decides word name).1 same)))
        (more (record { place = spot; within = omega (arith, is.within, at); is = is.is ∙ ap (λ n. get_or (name ∷ names) n []) at }))

-- the choice of a tariff or none, before what agrees
pub tariff_agrees : (names : List (List ℕ)) (first : FirstWord) (one : Shape) → (first.may tariff_option → ⊥) → Agrees one (grammar_of (first_form first)) → Agrees (with_tariff one names) (grammar_of (first_form (first_with_tariff names (first_form first) first)))
tariff_agrees names first one never on =
    agrees_option tariff_option (grammar_of (first_form first)) (grammar_of (place (IsTariffName names) (first_form first))) (grammar_of (first_form (first_with_tariff names (first_form first) first)))
    (adds_option tariff_option (place (IsTariffName names) (first_form first)) first never) (IsFirstNamed names) (λ which. get_or names which []) one on
    (agrees_place (IsTariffName names) (first_form first) (first_named names) (is_named names) (λ which _. on)) (not_first tariff_option (place (IsTariffName names) (first_form first)) first never one on)

-- ---- the words of each command

abbrev operand_grammar : Operands → Grammar
operand_grammar these = grammar_of (operands_form these)

-- the name of a file, and what agrees after it
name_agrees : (after : List ℕ → Shape) (more : List ℕ → Operands) → ((name : List ℕ) → Agrees (after name) (operand_grammar (more name))) → Agrees (file_and after) (operand_grammar (name_operand more))
name_agrees after more on = agrees_value (λ name. operands_form (more name)) same_apart (λ name _. on name)

first_agrees : (after : List ℕ → Shape) (more : List ℕ → Operands) → ((name : List ℕ) → Agrees (after name) (operand_grammar (more name))) → Agrees (file_and after) (grammar_of (first_form (file_first more)))
first_agrees after more on = agrees_value (λ name. operands_form (more name)) same_apart (λ name _. on name)

number_agrees : (least most : ℕ) (after : ℕ → Shape) (more : ℕ → Operands) → ((number : ℕ) → Agrees (after number) (operand_grammar (more number))) → Agrees (number_and least most after) (operand_grammar (number_operand least most more))
number_agrees least most after more on = agrees_value (λ number. operands_form (more number)) (operand_apart (number_within least most)) (λ number _. on number)

other_agrees : (name : List ℕ) → Agrees (other_and name (λ other. line_end)) (operand_grammar (next_word (other_name name) (λ other. no_more)))
other_agrees name = agrees_value (λ other. finish) (operand_apart (other_name name)) (λ other _. agrees_end)

-- a topology after the choice of a tariff or none, and what agrees after it
topology_agrees : (names : List (List ℕ)) (after : List ℕ → Shape) (more : List ℕ → Operands) → ((name : List ℕ) → Agrees (after name) (operand_grammar (more name)))
    → Agrees (with_tariff (file_and after) names) (grammar_of (first_form (first_with_tariff names (first_form (file_first more)) (file_first more))))
topology_agrees names after more on = tariff_agrees names (file_first more) (file_and after) no_file (first_agrees after more on)

journal_agrees : (names : List (List ℕ)) (after : List ℕ → Shape) (more : List ℕ → Operands) → ((journal : List ℕ) → Agrees (after journal) (operand_grammar (more journal)))
    → Agrees (with_tariff (file_and (λ topology. file_and after)) names) (grammar_of (first_form (first_with_tariff names (first_form (file_first (λ topology. name_operand more))) (file_first (λ topology. name_operand more)))))
journal_agrees names after more on = topology_agrees names (λ topology. file_and after) (λ topology. name_operand more) (λ topology. name_agrees after more on)

-- a last file or nothing
last_agrees : Agrees (last IsFileName (λ name. name)) (grammar_of (maybe (first_form last_file)))
last_agrees = agrees_last IsFileName (λ name. name) (first_form last_file) (agrees_value (λ name. finish) same_apart (λ name _. agrees_end))

run_agrees : (names : List (List ℕ)) → Agrees (with_tariff (last IsFileName (λ name. name)) names) (grammar_of (program_form names command.Run))
run_agrees names =
    let form : Form = place (IsTariffName names) (maybe (first_form last_file)) in
    agrees_option tariff_option (grammar_of (maybe (first_form last_file))) (grammar_of form) (grammar_of (program_form names command.Run))
    (adds_maybe tariff_option (first_form last_file) (first_form (first_with_tariff names (maybe (first_form last_file)) last_file)) (grammar_of form) (adds_option tariff_option form last_file no_file))
    (IsFirstNamed names) (λ which. get_or names which []) (last IsFileName (λ name. name)) last_agrees
    (agrees_place (IsTariffName names) (maybe (first_form last_file)) (first_named names) (is_named names) (λ which _. last_agrees)) apart
  where
    apart : (words : List (List ℕ)) → Begin (last IsFileName (λ name. name)) (tariff_option ∷ words) → ⊥
    apart words (name, is, same, rest) = no_file (subst IsFileName (sym same) is)

-- after `--live` or without it the names of a move
live_agrees : (names : List (List ℕ)) (one : Shape) (more : List ℕ → Operands) → Agrees one (grammar_of (first_form (file_first more))) → Agrees (shape.flag live_option one) (grammar_of (first_form (with_live (file_first more))))
live_agrees names one more on =
    agrees_flag live_option (grammar_of (first_form (file_first more))) (grammar_of (first_form (file_first more))) (grammar_of (first_form (with_live (file_first more))))
    (adds_option live_option (first_form (file_first more)) (file_first more) no_live_file) one on on (not_first live_option (first_form (file_first more)) (file_first more) no_live_file one on)

no_tariff_first : (more : List ℕ → Operands) → (with_live (file_first more)).may tariff_option → ⊥
no_tariff_first more (inl same) = options_apart same
no_tariff_first more (inr is) = no_file is

abbrev of_nodes : ℕ → Operands
of_nodes nodes = number_operand (nodes - 1) most_links (λ links. number_operand 0 most_hoses (λ hoses. no_more))

abbrev of_seed : ℕ → Operands
of_seed seed = number_operand least_nodes most_nodes of_nodes

verb_agrees : (names : List (List ℕ)) (verb : ProgramVerb) → Agrees (program_shape names verb) (grammar_of (program_form names verb))
verb_agrees names command.Run = run_agrees names
verb_agrees names command.Audit = journal_agrees names _ (λ journal. no_more) (λ journal. agrees_end)
verb_agrees names command.Serve = journal_agrees names _ (λ journal. server_numbers) (λ journal. number_agrees 1 65535 _ (λ port. number_operand 1 most_connections (λ connections. number_operand 1 most_workers (λ workers. no_more)))
    (λ port. number_agrees 1 most_connections _ (λ connections. number_operand 1 most_workers (λ workers. no_more)) (λ connections. number_agrees 1 most_workers _ (λ workers. no_more) (λ workers. agrees_end))))
verb_agrees names command.Prove = topology_agrees names _ (λ topology. end_words) (λ topology. agrees_items AreNewEndWords (λ end. end) least_ends end_words_closed no_end_words)
verb_agrees names command.Check = topology_agrees names _ (λ topology. no_more) (λ topology. agrees_end)
verb_agrees names command.Price = first_agrees _ (λ topology. no_more) (λ topology. agrees_end)
verb_agrees names command.Ship = journal_agrees names _ (λ journal. number_operand 1 most_epoch (λ from. no_more)) (λ journal. number_agrees 1 most_epoch _ (λ from. no_more) (λ from. agrees_end))
verb_agrees names command.Follow = journal_agrees names _ (λ journal. no_more) (λ journal. agrees_end)
verb_agrees names command.Move = tariff_agrees names (with_live (file_first moved_names)) _ (no_tariff_first moved_names)
    (live_agrees names _ moved_names (first_agrees _ moved_names (λ topology. name_agrees _ (λ journal. name_operand (λ new_topology. next_word (other_name journal) (λ new_journal. no_more)))
    (λ journal. name_agrees _ (λ new_topology. next_word (other_name journal) (λ new_journal. no_more)) (λ new_topology. other_agrees journal)))))
verb_agrees names command.Cut = topology_agrees names _ cut_operands (λ topology. name_agrees _ (λ journal. number_operand 0 most_epoch (λ n. next_word (other_name journal) (λ new_journal. no_more)))
    (λ journal. number_agrees 0 most_epoch _ (λ n. next_word (other_name journal) (λ new_journal. no_more)) (λ n. other_agrees journal)))
verb_agrees names command.Generate = number_agrees 0 (2 ^ 64 - 1) _ of_seed (λ seed. number_agrees least_nodes most_nodes _ of_nodes
    (λ nodes. number_agrees (nodes - 1) most_links _ (λ links. number_operand 0 most_hoses (λ hoses. no_more)) (λ links. number_agrees 0 most_hoses _ (λ hoses. no_more) (λ hoses. agrees_end))))

words_agree : (names : List (List ℕ)) → Agrees (words_shape names) (grammar_of (words_form names))
words_agree names = agrees_value (program_form names) (verbs_apart names) (λ verb _. verb_agrees names verb)

-- the first of the words that is not allowed is that one by their forms
pub unfit_wrong : (names words : List (List ℕ)) (number : ℕ) → IsFirstUnfit names words number → IsFirstWrong (words_shape names) words number
unfit_wrong names words number wrong = wrong_of_form (words_shape names) (grammar_of (words_form names)) (words_agree names) words number wrong

pub wrong_unfit : (names words : List (List ℕ)) (number : ℕ) → IsFirstWrong (words_shape names) words number → IsFirstUnfit names words number
wrong_unfit names words number wrong = form_of_wrong (words_shape names) (grammar_of (words_form names)) (words_agree names) words number wrong

-- ---- what words tell

module _ (names : List (List ℕ)) where
  -- what words tell as a task, of what they tell as arguments
  abbrev pub task_told : (verb : ProgramVerb) → ArgumentTask verb → Task names verb
  task_told command.Price (_, topology, _) = (topology, tt)
  task_told command.Move ((tariff, live), topology, rest) = (tariff, (live, (topology, rest)))
  task_told command.Run task = task
  task_told command.Audit (tariff, topology, rest) = (tariff, (topology, rest))
  task_told command.Serve (tariff, topology, rest) = (tariff, (topology, rest))
  task_told command.Prove (tariff, topology, rest) = (tariff, (topology, rest))
  task_told command.Check (tariff, topology, rest) = (tariff, (topology, rest))
  task_told command.Ship (tariff, topology, rest) = (tariff, (topology, rest))
  task_told command.Follow (tariff, topology, rest) = (tariff, (topology, rest))
  task_told command.Cut (tariff, topology, rest) = (tariff, (topology, rest))
  task_told command.Generate task = task

  abbrev pub arguments_of : (verb : ProgramVerb) → Task names verb → ArgumentTask verb
  arguments_of command.Price (topology, _) = (tt, topology, tt)
  arguments_of command.Move (tariff, (live, (topology, rest))) = ((tariff, live), topology, rest)
  arguments_of command.Run task = task
  arguments_of command.Audit (tariff, (topology, rest)) = (tariff, topology, rest)
  arguments_of command.Serve (tariff, (topology, rest)) = (tariff, topology, rest)
  arguments_of command.Prove (tariff, (topology, rest)) = (tariff, topology, rest)
  arguments_of command.Check (tariff, (topology, rest)) = (tariff, topology, rest)
  arguments_of command.Ship (tariff, (topology, rest)) = (tariff, topology, rest)
  arguments_of command.Follow (tariff, (topology, rest)) = (tariff, topology, rest)
  arguments_of command.Cut (tariff, (topology, rest)) = (tariff, topology, rest)
  arguments_of command.Generate task = task

  pub same_task : (verb : ProgramVerb) (task : Task names verb) → task_told verb (arguments_of verb task) ≡ task
  same_task command.Price (topology, _) = refl
  same_task command.Move (tariff, (live, (topology, rest))) = refl
  same_task command.Run task = refl
  same_task command.Audit (tariff, (topology, rest)) = refl
  same_task command.Serve (tariff, (topology, rest)) = refl
  same_task command.Prove (tariff, (topology, rest)) = refl
  same_task command.Check (tariff, (topology, rest)) = refl
  same_task command.Ship (tariff, (topology, rest)) = refl
  same_task command.Follow (tariff, (topology, rest)) = refl
  same_task command.Cut (tariff, (topology, rest)) = refl
  same_task command.Generate task = refl

  -- both are told by the same words
  same_words : (verb : ProgramVerb) (task : ArgumentTask verb) → argument_words names (verb_arguments verb) task ≡ words_told (program_shape names verb) (task_told verb task)
  same_words command.Run (None, None) = refl
  same_words command.Run (None, Some journal) = refl
  same_words command.Run (Some which, None) = refl
  same_words command.Run (Some which, Some journal) = refl
  same_words command.Audit (None, topology, rest) = refl
  same_words command.Audit (Some which, topology, rest) = refl
  same_words command.Serve (None, topology, rest) = refl
  same_words command.Serve (Some which, topology, rest) = refl
  same_words command.Prove (None, topology, ends) = ap (λ (words : List (List ℕ)). topology ∷ words) (sym (map-id ends))
  same_words command.Prove (Some which, topology, ends) = ap (λ (words : List (List ℕ)). tariff_option ∷ get_or names which [] ∷ topology ∷ words) (sym (map-id ends))
  same_words command.Check (None, topology, rest) = refl
  same_words command.Check (Some which, topology, rest) = refl
  same_words command.Price (_, topology, _) = refl
  same_words command.Ship (None, topology, rest) = refl
  same_words command.Ship (Some which, topology, rest) = refl
  same_words command.Follow (None, topology, rest) = refl
  same_words command.Follow (Some which, topology, rest) = refl
  same_words command.Move ((None, true), topology, rest) = refl
  same_words command.Move ((None, false), topology, rest) = refl
  same_words command.Move ((Some which, true), topology, rest) = refl
  same_words command.Move ((Some which, false), topology, rest) = refl
  same_words command.Cut (None, topology, rest) = refl
  same_words command.Cut (Some which, topology, rest) = refl
  same_words command.Generate task = refl

  -- and where the one may be told so may the other
  may_told : (verb : ProgramVerb) (task : ArgumentTask verb) → MayBeAsked names (verb_arguments verb) task → MayBeTold (program_shape names verb) (task_told verb task)
  may_told command.Prove (tariff, topology, ends) may = (may.0, (may.1, (may.2.are, may.2.enough)))
  may_told command.Price (_, topology, _) may = (may.1, tt)
  may_told command.Move ((tariff, live), topology, rest) may = (may.0, (may.1, may.2))
  may_told command.Run task may = may
  may_told command.Audit (tariff, topology, rest) may = (may.0, (may.1, may.2))
  may_told command.Serve (tariff, topology, rest) may = (may.0, (may.1, may.2))
  may_told command.Check (tariff, topology, rest) may = (may.0, (may.1, may.2))
  may_told command.Ship (tariff, topology, rest) may = (may.0, (may.1, may.2))
  may_told command.Follow (tariff, topology, rest) may = (may.0, (may.1, may.2))
  may_told command.Cut (tariff, topology, rest) may = (may.0, (may.1, may.2))
  may_told command.Generate task may = may

  may_back : (verb : ProgramVerb) (task : Task names verb) → MayBeTold (program_shape names verb) task → MayBeAsked names (verb_arguments verb) (arguments_of verb task)
  may_back command.Prove (tariff, (topology, ends)) may = (may.0, may.1.0, record { enough = may.1.1.1; are = may.1.1.0 })
  may_back command.Price (topology, _) may = (tt, may.0, tt)
  may_back command.Move (tariff, (live, (topology, rest))) may = (may.0, may.1.0, may.1.1)
  may_back command.Run task may = may
  may_back command.Audit (tariff, (topology, rest)) may = (may.0, may.1.0, may.1.1)
  may_back command.Serve (tariff, (topology, rest)) may = (may.0, may.1.0, may.1.1)
  may_back command.Check (tariff, (topology, rest)) may = (may.0, may.1.0, may.1.1)
  may_back command.Ship (tariff, (topology, rest)) may = (may.0, may.1.0, may.1.1)
  may_back command.Follow (tariff, (topology, rest)) may = (may.0, may.1.0, may.1.1)
  may_back command.Cut (tariff, (topology, rest)) may = (may.0, may.1.0, may.1.1)
  may_back command.Generate task may = may

  module _ (words : List (List ℕ)) where
    -- the words are those of a task where they are those of its arguments
    pub are_told : (verb : ProgramVerb) (task : ArgumentTask verb) → AreArgumentWords names words verb task → AreWords names words verb (task_told verb task)
    are_told verb task are = record {
      are = are.are ∙ ap (λ (more : List (List ℕ)). program_word verb ∷ more) (same_words verb task);
      may = (are.available, may_told verb task are.may);
    }

    pub are_back : (verb : ProgramVerb) (task : Task names verb) → AreWords names words verb task → AreArgumentWords names words verb (arguments_of verb task)
    are_back verb task are = record {
      are = are.are ∙ ap (λ (more : List (List ℕ)). program_word verb ∷ more) (sym (same_words verb (arguments_of verb task) ∙ ap (words_told (program_shape names verb)) (same_task verb task)));
      may = may_back verb task are.may.1;
      available = are.may.0;
    }

    -- none of the words of a command is unfit
    pub no_task : (verb : ProgramVerb) (task : Task names verb) (number : ℕ) → AreWords names words verb task → IsFirstUnfit names words number → ⊥
    no_task verb task number are wrong = none_wrong names words verb (arguments_of verb task) number (are_back verb task are) wrong

    -- what is so of a task that words tell is so of each of any command
    pub each_task : (P : (verb : ProgramVerb) → Task names verb → Type 0) (verb : ProgramVerb) (task : ArgumentTask verb) → AreArgumentWords names words verb task → P verb (task_told verb task)
        → (other : ProgramVerb) (other_task : Task names other) → AreWords names words other other_task → P other other_task
    each_task P verb task are holds other other_task are' =
        subst (P other) (same_task other other_task) (of_each names words (λ one arguments. P one (task_told one arguments)) verb task are holds other (arguments_of other other_task) (are_back other other_task are'))

    -- and of each of a server
    pub same_server : (P : Task names command.Serve → Type 0) (task : ArgumentTask command.Serve) → AreArgumentWords names words command.Serve task → P (task_told command.Serve task) → (other : Task names command.Serve) → AreWords names words command.Serve other → P other
    same_server P task are holds other are' =
        subst P (same_task command.Serve other) (of_same names words command.Serve (λ arguments. P (task_told command.Serve arguments)) task are holds (arguments_of command.Serve other) (are_back command.Serve other are'))
