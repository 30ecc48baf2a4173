-- What the lines of a certificate say, and how they say it.
use Rattle.std.specs.Prelude.{◌≡◌, ◌≤◌, ◌-◌, ℕ, min, List, [], ◌∷◌, All, ⊤, codes, decimal, length, map, IsPermutation}
use Rattle.hose_words.specs.Numbers.{IsWithin}
use Rattle.hose_words.specs.Limits.{line_limit}
use Rattle.hose_graph.specs.Amounts.{ReservedLink}
use Rattle.hose_graph.specs.Hose.{Endpoint}
use Rattle.hose_graph.specs.Network.{Network, IsLinkOf, IsNodeOf}
use Rattle.hose_graph.specs.Limits.{most_amount}
use Rattle.hose_proto.specs.Places.{IsHoseOf, end_word}
use Rattle.hose_proto.specs.ReplyText.{joined}
use Rattle.hose_cert.specs.Limits.{line_numbers, most_number}

-- what one line of a certificate says
pub data CertLine : Type 0 where
  -- what the plan costs
  cost_line : ℕ → CertLine
  -- for whom it is
  hose_line : List Endpoint → CertLine
  -- what it reserves on a link
  use_line : ReservedLink → CertLine
  -- a link that it was to leave out
  without_line : ℕ → CertLine
  -- numbers of a root, for one node after the other from this one on
  pot_line : ℕ → ℕ → List ℕ → CertLine
  -- nothing more
  end_line : CertLine

-- how many numbers stand in the line of a root that begins at a node
abbrev pub numbers_from : Network → ℕ → ℕ
numbers_from network from = min line_numbers (length network.nodes - from)

-- the words of a line: `cost C`, `hose NAME:RATE ..`, `use L R`, `without L`, `pot R F P ..` or
-- `end`
abbrev pub line_words : Network → CertLine → List (List ℕ)
line_words network (cost_line cost) = codes "cost" ∷ decimal cost ∷ []
line_words network (hose_line hose) = codes "hose" ∷ map (end_word network) hose
line_words network (use_line (link, amount)) = codes "use" ∷ decimal link ∷ decimal amount ∷ []
line_words network (without_line link) = codes "without" ∷ decimal link ∷ []
line_words network (pot_line root from numbers) =
    codes "pot" ∷ decimal root ∷ decimal from ∷ map decimal numbers
line_words network end_line = codes "end" ∷ []

-- the text of a line: its words, with a space between each two
abbrev pub line_text : Network → CertLine → List ℕ
line_text network line = joined (line_words network line)

-- a line may say this
abbrev pub MayBeSaid : Network → CertLine → Type 0
MayBeSaid network (cost_line cost) = cost ≤ most_number
MayBeSaid network (hose_line hose) = IsHoseOf network hose
MayBeSaid network (use_line (link, amount)) = IsLinkOf network link × IsWithin 1 most_amount amount
MayBeSaid network (without_line link) = IsLinkOf network link
MayBeSaid network (pot_line root from numbers) = IsNodeOf network root × IsNodeOf network from
    × (length numbers ≡ numbers_from network from)
    × All (λ number. number ≤ most_number) numbers
MayBeSaid network end_line = ⊤

-- The bytes are the text of a line, in which the endpoints of a hose may stand in any order.
abbrev pub IsSpelled : Network → List ℕ → CertLine → Type 0
IsSpelled network bytes (hose_line hose) = (ends : List Endpoint) × IsPermutation ends hose
    × (bytes ≡ line_text network (hose_line ends))
IsSpelled network bytes line = bytes ≡ line_text network line

-- These bytes are a line of a certificate, not too long, that says this.
pub record IsLine (network : Network) (bytes : List ℕ) (line : CertLine) : Type 0 where
  pub short : length bytes ≤ line_limit
  pub may : MayBeSaid network line
  pub spelled : IsSpelled network bytes line
