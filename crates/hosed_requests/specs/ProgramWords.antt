-- The words that the program is run with.
use Rattle.std.specs.Prelude.{◌≡◌, ◌≢◌, ℕ, ◌-◌, ◌^◌, ◌<◌, ◌≤◌, List, [], codes, decimal, get_or, length, Option, None, Some, slice_get, ⊤}
use Rattle.hose_words.specs.Numbers.{Fits64, IsWithin}
use Rattle.hose_words.specs.Words.{IsFirst}
use Rattle.hose_words.specs.Shapes.{Shape, Tells, Values, flag, items, last, line_end, option, value}
use Rattle.hose_gen.specs.Limits.{least_nodes, most_hoses}
use Rattle.hose_graph.specs.Network.{Network}
use Rattle.hose_graph.specs.Limits.{least_ends, most_epoch, most_links, most_nodes}
use Rattle.hose_outside.specs.TopologyTold.{own_costs}
use Rattle.hose_proto.specs.EndWords.{AreNewEndWords}
use Rattle.hose_pool.specs.Limits.{most_workers}
use Rattle.hose_price.specs.Limits.{most_tariffs}
use Rattle.hosed_requests.specs.Limits.{most_connections}
use Rattle.hosed_requests.specs.declared.verb.ProgramVerb.{ProgramVerb}
use Rattle.hosed_requests.specs.declared.verb.ProgramVerb.TheVariants as command

-- ---- files and tariffs

-- a word may name a file: it has 1 to 255 bytes, and does not begin as an option does
pub record IsFileName (word : List ℕ) : Type 0 where
  pub some : 1 ≤ length word
  pub short : length word ≤ 255
  pub no_option : get_or word 0 0 ≢ 45

-- the word that stands before the name of a tariff
abbrev pub tariff_option : List ℕ
tariff_option = codes "--tariff"

-- the word by which a move takes the live VPNs alone
abbrev pub live_option : List ℕ
live_option = codes "--live"

-- the tariff of this place is the first with its name
pub record IsFirstNamed (names : List (List ℕ)) (place : ℕ) : Type 0 where
  pub within : place < length names
  pub first : (other : ℕ) → other < place → get_or names other [] ≢ get_or names place []

-- the tariff that is chosen, if one is
abbrev pub chosen_of : {T : Type 0} → List T → Option ℕ → Option T
chosen_of tariffs None = None
chosen_of tariffs (Some which) = slice_get tariffs which

module _ {T : Type 0} (prices : T → Network → Network → Type 0) where
  -- what a tariff makes of a network; its own costs where there is none
  abbrev pub prices_of : Option T → Network → Network → Type 0
  prices_of None = own_costs
  prices_of (Some tariff) = prices tariff

  -- what the tariff that is chosen makes of a network
  abbrev pub costs_at : List T → Option ℕ → Network → Network → Type 0
  costs_at tariffs tariff = prices_of (chosen_of tariffs tariff)

-- ---- the table

-- the name of a file, and what this makes of the words after it
abbrev pub file_and : (List ℕ → Shape) → Shape
file_and after = value IsFileName (λ name. name) after

-- the name of another file than this one, and what this makes of the words after it
abbrev pub other_and : List ℕ → (List ℕ → Shape) → Shape
other_and name after = value (λ other. IsFileName other × (other ≢ name)) (λ other. other) after

-- a number from the least to the most, which 64 bits hold, and what this makes of the words after
-- it
abbrev pub number_and : ℕ → ℕ → (ℕ → Shape) → Shape
number_and least most after =
    value (λ number. IsWithin least most number × Fits64 number) decimal after

-- the choice of one of the tariffs with these names by its place, or of none, and the words after
-- it
abbrev pub with_tariff : Shape → List (List ℕ) → Shape
with_tariff shape names =
    option tariff_option (IsFirstNamed names) (λ which. get_or names which []) shape

-- a topology after the choice of a tariff or none, and what comes after it
abbrev pub topology_and : (List ℕ → Shape) → List (List ℕ) → Shape
topology_and after names = with_tariff (file_and after) names

-- such a topology, a journal, and what this makes of the words after it
abbrev pub journal_and : (List ℕ → Shape) → List (List ℕ) → Shape
journal_and after names = topology_and (λ topology. file_and after) names

-- The word that each command begins with, and what comes after it where the tariffs have such
-- names, in the order of the usage text; each file and each number has its name there. A port has
-- 16 bits and is not 0; a seed has 64; links are enough to join the nodes. Entries are shipped from
-- an epoch on; the first one's is 1.
abbrev pub program_line : ProgramVerb → List ℕ × (List (List ℕ) → Shape)
program_line command.Run = (codes "run", with_tariff (last IsFileName (λ journal. journal)))
program_line command.Audit = (codes "audit", journal_and (λ journal. line_end))
program_line command.Serve = (
  codes "serve",
  journal_and (λ journal. number_and 1 65535 (λ port. number_and 1 most_connections
      (λ connections. number_and 1 most_workers (λ workers. line_end)))),
)
program_line command.Prove =
    (codes "prove", topology_and (λ topology. items AreNewEndWords (λ end. end) least_ends))
program_line command.Check = (codes "check", topology_and (λ topology. line_end))
program_line command.Price = (codes "price", λ names. file_and (λ topology. line_end))
program_line command.Ship =
    (codes "ship", journal_and (λ journal. number_and 1 most_epoch (λ from. line_end)))
program_line command.Follow = (codes "follow", journal_and (λ journal. line_end))
program_line command.Move = (
  codes "move",
  with_tariff (flag live_option (file_and (λ topology. file_and (λ journal. file_and
      (λ new_topology. other_and journal (λ new_journal. line_end)))))),
)
program_line command.Cut = (
  codes "cut",
  journal_and (λ journal. number_and 0 most_epoch (λ n. other_and journal
      (λ new_journal. line_end))),
)
program_line command.Generate = (
  codes "gen",
  λ names. number_and 0 (2 ^ 64 - 1) (λ seed. number_and least_nodes most_nodes
      (λ nodes. number_and (nodes - 1) most_links (λ links. number_and 0 most_hoses
      (λ hoses. line_end)))),
)

-- the word that a command begins with
abbrev pub program_word : ProgramVerb → List ℕ
program_word verb = (program_line verb).0

-- what comes after a command's own word, where the tariffs have these names
abbrev pub program_shape : List (List ℕ) → ProgramVerb → Shape
program_shape names verb = (program_line verb).1 names

-- what a command is to do
abbrev pub Task : List (List ℕ) → ProgramVerb → Type 0
Task names verb = Values (program_shape names verb)

-- ---- the words of a task

-- there are tariffs with these names to price under, and no more than there may be
abbrev pub ArePriceable : List (List ℕ) → Type 0
ArePriceable names = IsWithin 1 most_tariffs (length names)

-- the command is one of a program that has tariffs with these names
abbrev pub IsAvailable : List (List ℕ) → ProgramVerb → Type 0
IsAvailable names command.Run = ⊤
IsAvailable names command.Audit = ⊤
IsAvailable names command.Serve = ⊤
IsAvailable names command.Prove = ⊤
IsAvailable names command.Check = ⊤
IsAvailable names command.Price = ArePriceable names
IsAvailable names command.Ship = ⊤
IsAvailable names command.Follow = ⊤
IsAvailable names command.Move = ⊤
IsAvailable names command.Cut = ⊤
IsAvailable names command.Generate = ⊤

-- the word of a command that there is, and what comes after it
abbrev pub words_shape : List (List ℕ) → Shape
words_shape names = value (IsAvailable names) program_word (program_shape names)

-- the words are those of a command and of a task
abbrev pub AreWords : (names words : List (List ℕ)) (verb : ProgramVerb) → Task names verb
    → Type 0
AreWords names words verb task = Tells (words_shape names) words (verb, task)

-- the words are those of no command
abbrev pub AreWrongWords : List (List ℕ) → List (List ℕ) → Type 0
AreWrongWords names words =
    (verb : ProgramVerb) (task : Task names verb) → ¬ AreWords names words verb task

-- the number of the first of the endpoints of a certificate among the words
abbrev pub first_end : Option ℕ → ℕ
first_end None = 3
first_end (Some which) = 5

-- the first word is that of the command, whatever follows it
abbrev pub AsksFor : ProgramVerb → List (List ℕ) → Type 0
AsksFor verb words = IsFirst (λ word. word ≡ program_word verb) words

-- the first word is `serve`
abbrev pub AsksToServe : List (List ℕ) → Type 0
AsksToServe words = AsksFor command.Serve words
