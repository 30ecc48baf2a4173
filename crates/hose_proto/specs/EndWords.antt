-- Endpoints as words by their form alone, whatever nodes there are.
use Rattle.std.specs.Prelude.{◌≡◌, ◌≢◌, ℕ, ◌<◌, ◌≤◌, ◌==◌, List, [], ◌++◌, All, AllPairs, codes, decimal, get_or, length}
use Rattle.std.specs.List.{before_first}
use Rattle.hose_graph.specs.Limit.{IsUpTo}
use Rattle.hose_graph.specs.Name.{IsName}
use Rattle.hose_graph.specs.Network.{Network, IsNodeOf, name_of}
use Rattle.hose_graph.specs.Limits.{most_ends, most_rate}

-- a name and a rate: `NAME:RATE`
abbrev pub named_rate : List ℕ → ℕ → List ℕ
named_rate name rate = name ++ codes ":" ++ decimal rate

-- what stands before a word's first colon; the whole word where it has none
abbrev pub name_in : List ℕ → List ℕ
name_in word = before_first (λ byte. byte == 58) word

-- a word has the form of an endpoint
abbrev pub IsEndWord : List ℕ → Type 0
IsEndWord word = (name : List ℕ) × (rate : ℕ) × (word ≡ named_rate name rate) × IsName name
    × IsUpTo most_rate rate

-- words of the endpoints of a hose that may have more of them
pub record AreNewEndWords (words : List (List ℕ)) : Type 0 where
  pub few : length words ≤ most_ends
  pub ends : All IsEndWord words
  pub distinct : AllPairs (λ one other. name_in one ≢ name_in other) words

-- ---- nodes

-- the name in a word is that of a node
abbrev pub NamesNode : Network → List ℕ → Type 0
NamesNode network word =
    (node : ℕ) × IsNodeOf network node × (name_of network node ≡ name_in word)

-- the first of some words whose name is that of no node, by its place, counted from 0
pub record IsFirstUnknown (network : Network) (words : List (List ℕ)) (place : ℕ) : Type 0 where
  pub within : place < length words
  pub unknown : ¬ NamesNode network (get_or words place [])
  pub earlier : (other : ℕ) → other < place → NamesNode network (get_or words other [])
