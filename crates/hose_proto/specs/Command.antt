-- Commands as words: `admit NAME:RATE ..`, `admit-after K NAME:RATE ..`, `quote NAME:RATE ..`,
-- `take Q`, `release ID`, `show ID`, `vpns`, `link L`, `down L` and `up L`.
use Rattle.std.specs.Prelude.{◌≡◌, ℕ, ◌≤◌, List, All, ⊤, codes, decimal, length, map, IsPermutation}
use Rattle.hose_words.specs.Numbers.{IsWithin}
use Rattle.hose_words.specs.Shapes.{Shape, Tells, Values, items, line_end, value}
use Rattle.hose_graph.specs.Hose.{IsEnd, HasDistinctNodes, Endpoint, node_of}
use Rattle.hose_graph.specs.Network.{Network, IsLinkOf, IsNodeOf}
use Rattle.hose_graph.specs.declared.command.Command.{Command}
use Rattle.hose_graph.specs.declared.command.Command.TheVariants.{Admit, AdmitAfter, Quote, Take, Release, Show, Vpns, Link, Down, Up}
use Rattle.hose_graph.specs.Limits.{least_ends, most_ends, most_epoch}
use Rattle.hose_proto.specs.Places.{IsHoseOf, end_word}
use Rattle.hose_proto.specs.declared.verb.Verb.{Verb}
use Rattle.hose_proto.specs.declared.verb.Verb.TheVariants as verb

-- ---- the table

-- the number of a VPN or of a quote, whether there is one or not, or 0
abbrev pub IsId : ℕ → Type 0
IsId id = IsWithin 0 most_epoch id

-- endpoints of a hose that may have more of them, in any order
pub record AreNewEnds (network : Network) (ends : List Endpoint) : Type 0 where
  pub few : length ends ≤ most_ends
  pub within : All IsEnd ends
  pub distinct : HasDistinctNodes ends
  pub nodes : All (λ end. IsNodeOf network (node_of end)) ends

-- `NAME:RATE ..`, two endpoints at least, each at a node that no earlier word names
abbrev pub ends_shape : Network → Shape
ends_shape network = items (AreNewEnds network) (end_word network) least_ends

-- the number of a VPN or of a quote, and what comes after it
abbrev pub id_and : Shape → Shape
id_and shape = value IsId decimal (λ id. shape)

-- the number of a link
abbrev pub link_shape : Network → Shape
link_shape network = value (IsLinkOf network) decimal (λ link. line_end)

-- the first word of each command, and what comes after it
abbrev pub verb_line : Verb → List ℕ × (Network → Shape)
verb_line verb.Admit = (codes "admit", ends_shape)
verb_line verb.AdmitAfter = (codes "admit-after", λ network. id_and (ends_shape network))
verb_line verb.Quote = (codes "quote", ends_shape)
verb_line verb.Take = (codes "take", λ network. id_and line_end)
verb_line verb.Release = (codes "release", λ network. id_and line_end)
verb_line verb.Show = (codes "show", λ network. id_and line_end)
verb_line verb.Vpns = (codes "vpns", λ network. line_end)
verb_line verb.Link = (codes "link", link_shape)
verb_line verb.Down = (codes "down", link_shape)
verb_line verb.Up = (codes "up", link_shape)

-- the first word of a command
abbrev pub verb_word : Verb → List ℕ
verb_word verb = (verb_line verb).0

-- what comes after the first word of a command
abbrev pub verb_shape : Network → Verb → Shape
verb_shape network verb = (verb_line verb).1 network

-- a command
abbrev pub command_shape : Network → Shape
command_shape network = value (λ verb. ⊤) verb_word (verb_shape network)

-- ---- what words ask for

-- the words are the endpoints of a hose, in any order
pub record AreEndsOf (network : Network) (words : List (List ℕ)) (hose : List Endpoint)
    : Type 0 where
  pub ends : List Endpoint
  pub spelled : words ≡ map (end_word network) ends
  pub same_ends : IsPermutation ends hose
  pub is_hose : IsHoseOf network hose

-- the endpoints are those of a hose, in any order, and this holds of the hose
abbrev pub InOrder : Network → List Endpoint → (List Endpoint → Type 0) → Type 0
InOrder network ends holds =
    (hose : List Endpoint) × IsPermutation ends hose × IsHoseOf network hose × holds hose

-- what is told is this command
abbrev pub IsTold : (network : Network) → Values (command_shape network) → Command → Type 0
IsTold network (verb.Admit, ends) command = InOrder network ends (λ hose. command ≡ Admit hose)
IsTold network (verb.AdmitAfter, (known, ends)) command =
    InOrder network ends (λ hose. command ≡ AdmitAfter known hose)
IsTold network (verb.Quote, ends) command = InOrder network ends (λ hose. command ≡ Quote hose)
IsTold network (verb.Take, (quote, _)) command = command ≡ Take quote
IsTold network (verb.Release, (id, _)) command = command ≡ Release id
IsTold network (verb.Show, (id, _)) command = command ≡ Show id
IsTold network (verb.Vpns, _) command = command ≡ Vpns
IsTold network (verb.Link, (link, _)) command = command ≡ Link link
IsTold network (verb.Down, (link, _)) command = command ≡ Down link
IsTold network (verb.Up, (link, _)) command = command ≡ Up link

-- the words ask for a command
abbrev pub IsCommand : Network → List (List ℕ) → Command → Type 0
IsCommand network words command = (told : Values (command_shape network))
    × Tells (command_shape network) words told × IsTold network told command

-- the commands that take memory to read: those with a hose
abbrev pub TakesMemory : Verb → Type 0
TakesMemory verb.Admit = ⊤
TakesMemory verb.AdmitAfter = ⊤
TakesMemory verb.Quote = ⊤
TakesMemory verb = ⊥
