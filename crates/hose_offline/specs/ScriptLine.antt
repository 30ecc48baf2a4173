-- A line of a script: a customer, and what it asks for.
use Rattle.std.specs.Prelude.{ℕ, List, drop}
use Rattle.hose_words.specs.Shapes.{Shape, Tells, Values, value}
use Rattle.hose_words.specs.Words.{IsChoice, IsFirst, words_of}
use Rattle.hose_graph.specs.Name.{IsName}
use Rattle.hose_graph.specs.Network.{Network}
use Rattle.hose_graph.specs.declared.command.Command.{Command}
use Rattle.hose_proto.specs.Command.{IsTold, TakesMemory, command_shape, verb_word}

-- a customer's name, and what comes after it
abbrev pub customer_and : Shape → Shape
customer_and shape = value IsName (λ name. name) (λ customer. shape)

-- a customer's name, and a command
abbrev pub script_shape : Network → Shape
script_shape network = customer_and (command_shape network)

-- The line's first word is the customer's name, and the words after it ask for the command.
abbrev pub IsAsking : Network → List ℕ → List ℕ → Command → Type 0
IsAsking network line customer command = (told : Values (command_shape network))
    × Tells (script_shape network) (words_of line) (customer, told) × IsTold network told command

-- the word after the customer begins a command that takes memory to read
abbrev pub WantsMemory : List (List ℕ) → Type 0
WantsMemory words = IsFirst (IsChoice TakesMemory verb_word) (drop 1 words)
