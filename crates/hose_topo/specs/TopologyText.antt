-- The text of a topology: node and link lines in any order in which a link's nodes come before it,
-- and then `end`. Lines without a word are passed over, and so are comments, which begin with `#`.
use Rattle.std.specs.Prelude.{◌≡◌, ◌≢◌, ◌⊎◌, ℕ, ◌+◌, ◌<◌, ◌≤◌, List, [], ◌∷◌, ◌++◌, length, codes, decimal, Contains, Option, None, Some, slice_get, ⊤}
use Rattle.std.specs.List.{before_first, after_first}
use Rattle.std.specs.Option.{unwrap_or}
use Rattle.hose_words.specs.Words.{words_of}
use Rattle.hose_words.specs.Lines.{is_line_feed}
use Rattle.hose_words.specs.Limits.{line_limit}
use Rattle.hose_words.specs.Shapes.{IsFirstWrong, Shape, Tells, Values, last, line_end, value}
use Rattle.hose_graph.specs.Name.{IsName}
use Rattle.hose_graph.specs.Limit.{IsUpTo}
use Rattle.hose_graph.specs.Network.{Network, IsNodeOf, HasNodeRoom, HasLinkRoom, name_of}
use Rattle.hose_graph.specs.Limits.{most_capacity, most_length, most_cost}
use Rattle.hose_topo.specs.declared.line.LineKind.{LineKind}
use Rattle.hose_topo.specs.declared.line.LineKind.TheVariants as kind

-- ---- what a line may be

-- the line is passed over: it has no word, or its first word begins with `#`
abbrev pub IsPassedOver : List (List ℕ) → Type 0
IsPassedOver [] = ⊤
IsPassedOver (word ∷ words) = slice_get word 0 ≡ Some 35

-- the words that lines begin with
abbrev pub kind_word : LineKind → List ℕ
kind_word kind.Node = codes "node"
kind_word kind.Link = codes "link"
kind_word kind.End = codes "end"

-- a line of this kind may come
abbrev pub MayCome : Network → LineKind → Type 0
MayCome network kind.Node = HasNodeRoom network
MayCome network kind.Link = HasLinkRoom network
MayCome network kind.End = 0 < length network.nodes

-- a name that no node has
abbrev pub IsNewName : Network → List ℕ → Type 0
IsNewName network word = IsName word × (¬ Contains network.nodes word)

-- a node that is another one
abbrev pub IsOtherNode : Network → ℕ → ℕ → Type 0
IsOtherNode network a b = IsNodeOf network b × (b ≢ a)

-- What comes after the first word of a line: `NAME`; or `A B CAPACITY LENGTH`, and `COST` where it
-- is told.
abbrev pub kind_shape : Network → LineKind → Shape
kind_shape network kind.Node = value (IsNewName network) (λ name. name) (λ name. line_end)
kind_shape network kind.Link =
    value (IsNodeOf network) (name_of network)
    (λ a. value (IsOtherNode network a) (name_of network) (λ b. value (IsUpTo most_capacity) decimal
    (λ capacity. value (IsUpTo most_length) decimal (λ length. last (IsUpTo most_cost) decimal))))
kind_shape network kind.End = line_end

-- a line that is not passed over
abbrev pub line_shape : Network → Shape
line_shape network = value (MayCome network) kind_word (kind_shape network)

-- ---- what a line does

-- The network with the node or the link that a line tells, or none at the end. A link whose cost is
-- not told costs its length.
abbrev pub with_told : (network : Network) → Values (line_shape network) → Option Network
with_told network (kind.Node, (name, _)) =
    Some (record network { nodes = network.nodes ++ name ∷ [] })
with_told network (kind.Link, (a, (b, (capacity, (length, cost))))) = Some (record network {
  links = network.links ++ record {
    a = a;
    b = b;
    capacity = capacity;
    length = length;
    cost = unwrap_or cost length;
  } ∷ [];
})
with_told network (kind.End, _) = None

-- a line before the end: it is passed over, or adds to the network
abbrev pub AddsLine : Network → List (List ℕ) → Network → Type 0
AddsLine network words next =
    (IsPassedOver words × (next ≡ network))
    ⊎ ((told : Values (line_shape network)) × Tells (line_shape network) words told
    × (with_told network told ≡ Some next))

-- the line `end`, after a node at least
abbrev pub EndsText : Network → List (List ℕ) → Type 0
EndsText network words = Tells (line_shape network) words (kind.End, tt)

-- ---- the text

-- the words of the first line of a text, if it has a line and that is not too long
pub record HasLine (text : List ℕ) (words : List (List ℕ)) : Type 0 where
  pub some : text ≢ []
  pub short : length (before_first is_line_feed text) ≤ line_limit
  pub is_split : words ≡ words_of (before_first is_line_feed text)

-- This many lines at the front of a text add to a network, one after the other, and the rest of the
-- text is left.
pub data AddLines : Network → List ℕ → ℕ → Network → List ℕ → Type 0 where
  no_more : {network : Network} {text : List ℕ} → AddLines network text 0 network text
  one_more : {network next last : Network} {text rest : List ℕ} {count : ℕ} (words : List (List ℕ))
      → HasLine text words → AddsLine network words next
      → AddLines next (after_first is_line_feed text) count last rest
      → AddLines network text (count + 1) last rest

-- the network before the first line
abbrev pub no_network : Network
no_network = record { nodes = []; links = [] }

-- The text of a topology: lines that make its network from nothing, then `end`, and a rest that is
-- not looked at.
pub record IsTopologyText (text : List ℕ) (network : Network) (rest : List ℕ) : Type 0 where
  pub end : List ℕ
  pub count : ℕ
  pub words : List (List ℕ)
  pub lines : AddLines no_network text count network end
  pub line : HasLine end words
  pub is_end : EndsText network words
  pub left : rest ≡ after_first is_line_feed end

-- ---- what is not allowed

-- The first line of a text is wrong at a word. A line that is too long is wrong at word 0, and the
-- end of the text at word 1.
abbrev pub IsWrongLine : Network → List ℕ → ℕ → Type 0
IsWrongLine network text word =
    ((text ≡ []) × (word ≡ 1))
    ⊎ (((line_limit < length (before_first is_line_feed text)) × (word ≡ 0))
    ⊎ ((words : List (List ℕ)) × HasLine text words × (¬ IsPassedOver words)
    × IsFirstWrong (line_shape network) words word))

-- Not the text of a topology: after lines that add to a network, the line of this number, counted
-- from 1, is wrong at this word. What stands after that line is left.
pub record IsWrongAt (text : List ℕ) (line word : ℕ) (rest : List ℕ) : Type 0 where
  pub network : Network
  pub count : ℕ
  pub here : List ℕ
  pub lines : AddLines no_network text count network here
  pub is_line : line ≡ count + 1
  pub wrong : IsWrongLine network here word
  pub left : rest ≡ after_first is_line_feed here
