-- The words that the program is run with, by forms: steps of proofs.
use Rattle.std.specs.Prelude.{◌≡◌, ◌≢◌, ◌⊎◌, ℕ, ◌-◌, ◌^◌, ◌<◌, List, [], ◌∷◌, ◌++◌, decimal, get_or, length, Bool, true, false, Option, MatchOption, None, Some, ⊤}
use Rattle.std.specs.Str.{bytes_eq}
use Rattle.hose_words.specs.Numbers.{Fits64, IsWithin}
use Rattle.hose_words.specs.steps.Form.{Form, branch, finish, grammar_of, maybe, place}
use Rattle.hose_words.specs.steps.Grammar.{IsFirstNotAllowed}
use Rattle.hose_gen.specs.Limits.{least_nodes, most_hoses}
use Rattle.hose_graph.specs.Limits.{most_epoch, most_links, most_nodes}
use Rattle.hose_proto.specs.steps.EndWords.{AreEndWords, end_words_form}
use Rattle.hose_pool.specs.Limits.{most_workers}
use Rattle.hosed_requests.specs.Limits.{most_connections}
use Rattle.hosed_requests.specs.ProgramWords.{IsAvailable, IsFileName, IsFirstNamed, live_option, program_word, tariff_option}
use Rattle.hosed_requests.specs.declared.verb.ProgramVerb.{ProgramVerb}
use Rattle.hosed_requests.specs.declared.verb.ProgramVerb.TheVariants as command

-- ---- files and tariffs

-- a word names a file, and another one than this name does
abbrev pub IsOtherFile : List ℕ → List ℕ → Type 0
IsOtherFile name word = IsFileName word × (word ≢ name)

-- a word is the name of a tariff, of tariffs with these names
pub record IsTariffName (names : List (List ℕ)) (word : List ℕ) : Type 0 where
  pub place : ℕ
  pub within : place < length names
  pub is : word ≡ get_or names place []

-- a tariff may be chosen, by its place, or none
abbrev pub IsChosen : List (List ℕ) → Option ℕ → Type 0
IsChosen names tariff = MatchOption tariff ⊤ (IsFirstNamed names)

-- what one word tells: the name of a file; that of another file than this one; or a number from the
-- least to the most
pub data Operand : Type 0 where
  file_name : Operand
  other_name : List ℕ → Operand
  number_within : ℕ → ℕ → Operand

-- what a word tells is a name or a number
abbrev pub OperandValue : Operand → Type 0
OperandValue file_name = List ℕ
OperandValue (other_name name) = List ℕ
OperandValue (number_within least most) = ℕ

-- What words tell, one after the other, to the last one. What a word tells may bear on those after
-- it.
pub data Operands : Type 0 where
  no_more : Operands
  -- the endpoints of a hose
  end_words : Operands
  next_word : (operand : Operand) → (OperandValue operand → Operands) → Operands

-- the options that may stand before the name of a file: none, the choice of a tariff, or that and
-- then the choice of live VPNs
pub data Options : Type 0 where
  without : Options
  by_tariff : Options
  by_tariff_and_live : Options

-- what stands after a command's own word
pub data Arguments : Type 0 where
  -- no option and no file
  only_operands : Operands → Arguments
  -- options, the name of a file, and what that makes of the words after it
  options_and_file : Options → (List ℕ → Operands) → Arguments
  -- the choice of a tariff or none, and then the name of a file or nothing
  tariff_and_any_file : Arguments

-- the name of a file, and what that makes of the words after it
abbrev pub name_operand : (List ℕ → Operands) → Operands
name_operand more = next_word file_name more

-- a number from the least to the most, and what that makes of the words after it
abbrev pub number_operand : ℕ → ℕ → (ℕ → Operands) → Operands
number_operand least most more = next_word (number_within least most) more

-- after a topology: a journal, and these
abbrev pub journal_operand : Operands → List ℕ → Operands
journal_operand more topology = name_operand (λ journal. more)

-- after the topology of a move: its journal, a new topology, and a journal of another name
abbrev pub moved_names : List ℕ → Operands
moved_names topology = name_operand (λ journal. name_operand (λ new_topology.
    next_word (other_name journal) (λ new_journal. no_more)))

-- after the topology of a cut: its journal, how many entries are cut off, and a journal of another
-- name
abbrev pub cut_operands : List ℕ → Operands
cut_operands topology = name_operand (λ journal. number_operand 0 most_epoch (λ n.
    next_word (other_name journal) (λ new_journal. no_more)))

-- the numbers of a server: a port, which 16 bits hold and which is not 0, how many connections it
-- accepts, and how many workers answer them
abbrev pub server_numbers : Operands
server_numbers = number_operand 1 65535 (λ port. number_operand 1 most_connections (λ connections.
    number_operand 1 most_workers (λ workers. no_more)))

-- the numbers by which a network and a script are generated: a seed of 64 bits, so many nodes, so
-- many links, which are enough to join them, and so many hoses
abbrev pub generated_numbers : Operands
generated_numbers = number_operand 0 (2 ^ 64 - 1) (λ seed. number_operand least_nodes most_nodes
    (λ nodes. number_operand (nodes - 1) most_links (λ links. number_operand 0 most_hoses
    (λ hoses. no_more))))

-- what stands after a command's own word
abbrev pub verb_arguments : ProgramVerb → Arguments
verb_arguments command.Run = tariff_and_any_file
verb_arguments command.Audit = options_and_file by_tariff (journal_operand no_more)
verb_arguments command.Serve = options_and_file by_tariff (journal_operand server_numbers)
verb_arguments command.Prove = options_and_file by_tariff (λ topology. end_words)
verb_arguments command.Check = options_and_file by_tariff (λ topology. no_more)
verb_arguments command.Price = options_and_file without (λ topology. no_more)
verb_arguments command.Ship = options_and_file by_tariff
    (journal_operand (number_operand 1 most_epoch (λ from. no_more)))
verb_arguments command.Follow = options_and_file by_tariff (journal_operand no_more)
verb_arguments command.Move = options_and_file by_tariff_and_live moved_names
verb_arguments command.Cut = options_and_file by_tariff cut_operands
verb_arguments command.Generate = only_operands generated_numbers

-- ---- what a command is to do

-- what the words tell, one after the other
abbrev pub OperandValues : Operands → Type 0
OperandValues no_more = ⊤
OperandValues end_words = List (List ℕ)
OperandValues (next_word operand more) =
    (value : OperandValue operand) × OperandValues (more value)

-- what options tell: the tariff that is chosen, if one is, and whether the live VPNs alone are
abbrev pub OptionValues : Options → Type 0
OptionValues without = ⊤
OptionValues by_tariff = Option ℕ
OptionValues by_tariff_and_live = Option ℕ × Bool

-- what all words after a command's own tell
abbrev pub ArgumentValues : Arguments → Type 0
ArgumentValues (only_operands these) = OperandValues these
ArgumentValues (options_and_file options more) =
    OptionValues options × (name : List ℕ) × OperandValues (more name)
ArgumentValues tariff_and_any_file = Option ℕ × Option (List ℕ)

-- what a command is to do
abbrev pub ArgumentTask : ProgramVerb → Type 0
ArgumentTask verb = ArgumentValues (verb_arguments verb)

-- ---- the words of a task

-- the word that tells this
abbrev pub operand_word : (operand : Operand) → OperandValue operand → List ℕ
operand_word file_name name = name
operand_word (other_name name) other = other
operand_word (number_within least most) number = decimal number

-- the words that tell these, one after the other
abbrev pub operand_words : (these : Operands) → OperandValues these → List (List ℕ)
operand_words no_more values = []
operand_words end_words words = words
operand_words (next_word operand more) (value, values) =
    operand_word operand value ∷ operand_words (more value) values

-- the words by which a tariff is chosen, if one is
abbrev pub tariff_words : List (List ℕ) → Option ℕ → List (List ℕ)
tariff_words names None = []
tariff_words names (Some which) = tariff_option ∷ get_or names which [] ∷ []

-- the words by which the live VPNs alone are chosen, or all entries
abbrev pub live_words : Bool → List (List ℕ)
live_words true = live_option ∷ []
live_words false = []

-- the words of options
abbrev pub option_words : List (List ℕ) → (options : Options) → OptionValues options
    → List (List ℕ)
option_words names without values = []
option_words names by_tariff tariff = tariff_words names tariff
option_words names by_tariff_and_live (tariff, live) = tariff_words names tariff ++ live_words live

-- the words of a name, if there is one
abbrev pub name_words : Option (List ℕ) → List (List ℕ)
name_words None = []
name_words (Some name) = name ∷ []

-- all words after a command's own, of what they tell
abbrev pub argument_words : List (List ℕ) → (arguments : Arguments) → ArgumentValues arguments
    → List (List ℕ)
argument_words names (only_operands these) values = operand_words these values
argument_words names (options_and_file options more) (chosen, name, values) =
    option_words names options chosen ++ name ∷ operand_words (more name) values
argument_words names tariff_and_any_file (tariff, name) =
    tariff_words names tariff ++ name_words name

-- a word may tell this; a number has to be one that 64 bits hold
abbrev pub MayTell : (operand : Operand) → OperandValue operand → Type 0
MayTell file_name name = IsFileName name
MayTell (other_name name) other = IsOtherFile name other
MayTell (number_within least most) number = IsWithin least most number × Fits64 number

-- words may tell these, one after the other
abbrev pub MayTellAll : (these : Operands) → OperandValues these → Type 0
MayTellAll no_more values = ⊤
MayTellAll end_words words = AreEndWords words
MayTellAll (next_word operand more) (value, values) =
    MayTell operand value × MayTellAll (more value) values

-- options may tell this
abbrev pub MayChoose : List (List ℕ) → (options : Options) → OptionValues options → Type 0
MayChoose names without values = ⊤
MayChoose names by_tariff tariff = IsChosen names tariff
MayChoose names by_tariff_and_live (tariff, live) = IsChosen names tariff

-- the words after a command's own may tell this
abbrev pub MayBeAsked : List (List ℕ) → (arguments : Arguments) → ArgumentValues arguments → Type 0
MayBeAsked names (only_operands these) values = MayTellAll these values
MayBeAsked names (options_and_file options more) (chosen, name, values) =
    MayChoose names options chosen × IsFileName name × MayTellAll (more name) values
MayBeAsked names tariff_and_any_file (tariff, name) =
    IsChosen names tariff × MatchOption name ⊤ IsFileName

-- The words are that of the command, which there is, and then those of its task, which it may be
-- given.
pub record AreArgumentWords (names words : List (List ℕ)) (verb : ProgramVerb)
    (task : ArgumentTask verb) : Type 0 where
  pub are : words ≡ program_word verb ∷ argument_words names (verb_arguments verb) task
  pub may : MayBeAsked names (verb_arguments verb) task
  pub available : IsAvailable names verb

-- ---- which words are wrong

-- what may stand where words tell these
abbrev pub operands_form : Operands → Form
operands_form no_more = finish
operands_form end_words = end_words_form
operands_form (next_word operand more) =
    branch (MayTell operand) (operand_word operand) (λ value. operands_form (more value))

-- which word may stand first, and what may stand after each
pub record FirstWord : Type 1 where
  pub may : List ℕ → Type 0
  pub after : List ℕ → Form

-- a word that may stand first, and what may stand after it
abbrev pub first_form : FirstWord → Form
first_form first = branch first.may (λ word. word) first.after

-- the first of two forms where this is so, else the second
abbrev pub form_if : Bool → Form → Form → Form
form_if true form other = form
form_if false form other = other

-- this option and a form after it, or what may stand first without it
abbrev pub with_option : List ℕ → Form → FirstWord → FirstWord
with_option option form first = record {
  may = λ word. (word ≡ option) ⊎ first.may word;
  after = λ word. form_if (bytes_eq word option) form (first.after word);
}

-- the choice of a tariff and a form after it, or what may stand first without it
abbrev pub first_with_tariff : List (List ℕ) → Form → FirstWord → FirstWord
first_with_tariff names form first =
    with_option tariff_option (place (IsTariffName names) form) first

-- what may stand first, and before it the choice of live VPNs or none
abbrev pub with_live : FirstWord → FirstWord
with_live first = with_option live_option (first_form first) first

-- what may stand first, and before it such options
abbrev pub with_options : List (List ℕ) → Options → FirstWord → FirstWord
with_options names without first = first
with_options names by_tariff first = first_with_tariff names (first_form first) first
with_options names by_tariff_and_live first =
    first_with_tariff names (first_form (with_live first)) (with_live first)

-- the name of a file, and what may stand after it
abbrev pub file_first : (List ℕ → Operands) → FirstWord
file_first more = record { may = IsFileName; after = λ name. operands_form (more name) }

-- the name of a file and nothing more
abbrev pub last_file : FirstWord
last_file = file_first (λ name. no_more)

-- what may stand after a command's own word
abbrev pub arguments_form : List (List ℕ) → Arguments → Form
arguments_form names (only_operands these) = operands_form these
arguments_form names (options_and_file options more) =
    first_form (with_options names options (file_first more))
arguments_form names tariff_and_any_file =
    maybe (first_form (first_with_tariff names (maybe (first_form last_file)) last_file))

-- what may stand after the word of a command
abbrev pub program_form : List (List ℕ) → ProgramVerb → Form
program_form names verb = arguments_form names (verb_arguments verb)

-- what the words may be
abbrev pub words_form : List (List ℕ) → Form
words_form names = branch (IsAvailable names) program_word (program_form names)

-- the first of the words that is not allowed
abbrev pub IsFirstUnfit : List (List ℕ) → List (List ℕ) → ℕ → Type 0
IsFirstUnfit names words word = IsFirstNotAllowed (grammar_of (words_form names)) [] words word
