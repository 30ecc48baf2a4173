-- Commands by the forms of their fields: steps of proofs.
use Rattle.std.specs.Prelude.{◌≡◌, ℕ, List, [], ⊤, decimal, drop}
use Rattle.hose_words.specs.Words.{IsFirst}
use Rattle.hose_words.specs.steps.Form.{Form, finish, place, branch, list, Each, TellsNumber, grammar_of}
use Rattle.hose_words.specs.steps.Grammar.{Grammar}
use Rattle.hose_graph.specs.Hose.{Endpoint}
use Rattle.hose_graph.specs.Network.{Network, IsLinkOf}
use Rattle.hose_graph.specs.declared.command.Command.{Command}
use Rattle.hose_graph.specs.declared.command.Command.TheVariants.{Admit, AdmitAfter, Quote, Take, Release, Show, Vpns, Link, Down, Up}
use Rattle.hose_graph.specs.Limits.{least_ends}
use Rattle.hose_proto.specs.Command.{AreEndsOf, AreNewEnds, IsId, verb_word}
use Rattle.hose_proto.specs.Places.{end_word}
use Rattle.hose_proto.specs.declared.verb.Verb.{Verb}
use Rattle.hose_proto.specs.declared.verb.Verb.TheVariants as verb

-- ---- the fields

-- the fields after the first word of a command
pub data Asked : Type 0 where
  -- nothing more
  nothing : Asked
  -- the number of a VPN or of a quote
  an_id : Asked → Asked
  -- the number of a link
  one_link : Asked → Asked
  -- the endpoints of a hose, in any order, to the end of the line
  the_hose : Asked

-- the fields after the first word of a command
abbrev pub verb_asked : Verb → Asked
verb_asked verb.Admit = the_hose
verb_asked verb.AdmitAfter = an_id the_hose
verb_asked verb.Quote = the_hose
verb_asked verb.Take = an_id nothing
verb_asked verb.Release = an_id nothing
verb_asked verb.Show = an_id nothing
verb_asked verb.Vpns = nothing
verb_asked verb.Link = one_link nothing
verb_asked verb.Down = one_link nothing
verb_asked verb.Up = one_link nothing

-- what the fields of a command tell
abbrev pub AskedValues : Asked → Type 0
AskedValues nothing = ⊤
AskedValues (an_id asked) = ℕ × AskedValues asked
AskedValues (one_link asked) = ℕ × AskedValues asked
AskedValues the_hose = List Endpoint

-- the command of a first word and of what the fields after it tell
abbrev pub command_told : (verb : Verb) → AskedValues (verb_asked verb) → Command
command_told verb.Admit hose = Admit hose
command_told verb.AdmitAfter (known, hose) = AdmitAfter known hose
command_told verb.Quote hose = Quote hose
command_told verb.Take (quote, _) = Take quote
command_told verb.Release (id, _) = Release id
command_told verb.Show (id, _) = Show id
command_told verb.Vpns _ = Vpns
command_told verb.Link (link, _) = Link link
command_told verb.Down (link, _) = Down link
command_told verb.Up (link, _) = Up link

-- ---- what words ask for

-- the words are those of fields that tell this
abbrev pub Asks : Network → (asked : Asked) → AskedValues asked → List (List ℕ) → Type 0
Asks network nothing values words = words ≡ []
Asks network (an_id asked) (id, values) words =
    IsFirst (λ word. word ≡ decimal id) words × IsId id
    × Asks network asked values (drop 1 words)
Asks network (one_link asked) (link, values) words =
    IsFirst (λ word. word ≡ decimal link) words × IsLinkOf network link
    × Asks network asked values (drop 1 words)
Asks network the_hose hose words = AreEndsOf network words hose

-- The words ask for a command: they are its first word and those of the fields after it.
pub record AsksByFields (network : Network) (words : List (List ℕ)) (command : Command)
    : Type 0 where
  pub verb : Verb
  pub values : AskedValues (verb_asked verb)
  pub first : IsFirst (λ word. word ≡ verb_word verb) words
  pub asks : Asks network (verb_asked verb) values (drop 1 words)
  pub is : command ≡ command_told verb values

-- ---- what is not allowed

-- `NAME:RATE ..`, two endpoints at least, each at a node that no earlier word names
abbrev pub ends_form : Network → Form
ends_form network = list (end_word network) (AreNewEnds network) least_ends

-- the grammar of the fields of a command
abbrev pub asked_form : Network → Asked → Form
asked_form network nothing = finish
asked_form network (an_id asked) = place (TellsNumber IsId) (asked_form network asked)
asked_form network (one_link asked) =
    branch (IsLinkOf network) decimal (λ _. asked_form network asked)
asked_form network the_hose = ends_form network

-- what may stand after the first word
abbrev pub verb_form : Network → Verb → Form
verb_form network verb = asked_form network (verb_asked verb)

-- a command
abbrev pub command_form : Network → Form
command_form network = branch Each verb_word (verb_form network)

-- the grammar of commands
abbrev pub command_grammar : Network → Grammar
command_grammar network = grammar_of (command_form network)
