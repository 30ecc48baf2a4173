-- The text of a certificate: its lines, one after the other, and what they say together.
use Rattle.std.specs.Prelude.{◌≡◌, ◌≢◌, ◌<◌, ◌≤◌, ◌+◌, ◌==◌, ℕ, List, [], ◌∷◌, Contains, length, ⊤, Option, None, Some, if◌then◌else◌, nat_lt}
use Rattle.std.specs.List.{before_first, after_first, flat_map}
use Rattle.hose_words.specs.Lines.{is_line_feed}
use Rattle.hose_graph.specs.Amounts.{ReservedLink, link_of}
use Rattle.hose_graph.specs.Ascending.{firsts}
use Rattle.hose_graph.specs.Network.{Network}
use Rattle.hose_graph.specs.Limits.{most_tree_links}
use Rattle.hose_cert.specs.CertLine.{CertLine, IsLine, cost_line, end_line, hose_line, pot_line, use_line, without_line}
use Rattle.hose_cert.specs.Limits.{line_numbers}

-- The text is these lines. A line feed ends each of them, but for the last one, which may end with
-- the text.
abbrev pub AreLines : Network → List ℕ → List CertLine → Type 0
AreLines network text [] = text ≡ []
AreLines network text (line ∷ more) =
    (text ≢ []) × IsLine network (before_first is_line_feed text) line
    × AreLines network (after_first is_line_feed text) more

-- ---- the order of the lines

-- the root and the first node of the numbers that come after a line, where numbers may come
abbrev pub place_after : Network → CertLine → ℕ × ℕ
place_after network (pot_line root from numbers) =
    if nat_lt (from + line_numbers) (length network.nodes)
    then (root, from + line_numbers) else (root + 1, 0)
place_after network line = (0, 0)

-- A line may follow another one, or be the first: the cost, the hose, links of the plan, links that
-- were left out, if any, the numbers of all roots, the end. Links ascend.
abbrev pub MayFollow : Network → Option CertLine → CertLine → Type 0
MayFollow network None (cost_line cost) = ⊤
MayFollow network (Some (cost_line cost)) (hose_line hose) = ⊤
MayFollow network (Some (hose_line hose)) (use_line pair) = ⊤
MayFollow network (Some (use_line pair)) (use_line next) = link_of pair < link_of next
MayFollow network (Some (use_line pair)) (without_line link) = ⊤
MayFollow network (Some (without_line link)) (without_line next) = link < next
MayFollow network (Some (use_line pair)) (pot_line root from numbers) =
    (root ≡ 0) × (from ≡ 0)
MayFollow network (Some (without_line link)) (pot_line root from numbers) =
    (root ≡ 0) × (from ≡ 0)
MayFollow network (Some (pot_line before at some)) (pot_line root from numbers) =
    (root, from) ≡ place_after network (pot_line before at some)
MayFollow network (Some (pot_line before at some)) end_line =
    place_after network (pot_line before at some) ≡ (length network.nodes, 0)
MayFollow network last line = ⊥

-- each of the lines may follow the one before it, and the first one may follow this
abbrev pub FollowAll : Network → Option CertLine → List CertLine → Type 0
FollowAll network last [] = ⊤
FollowAll network last (line ∷ more) =
    MayFollow network last line × FollowAll network (Some line) more

-- the last of lines that come after one
abbrev pub last_of : Option CertLine → List CertLine → Option CertLine
last_of last [] = last
last_of last (line ∷ more) = last_of (Some line) more

-- ---- what lines say together

-- the link of the plan that a line tells, with its amount, or none
abbrev pub used_by : CertLine → List ReservedLink
used_by (use_line pair) = pair ∷ []
used_by line = []

-- the link that a line leaves out, or none
abbrev pub left_out_by : CertLine → List ℕ
left_out_by (without_line link) = link ∷ []
left_out_by line = []

-- the numbers that a line has of a root, or none
abbrev pub numbers_by : ℕ → CertLine → List ℕ
numbers_by root (pot_line other from numbers) = if root == other then numbers else []
numbers_by root line = []

-- the links of the plan that lines tell, with their amounts
abbrev pub used_in : List CertLine → List ReservedLink
used_in lines = flat_map used_by lines

-- the links that lines leave out
abbrev pub left_out_in : List CertLine → List ℕ
left_out_in lines = flat_map left_out_by lines

-- the numbers that lines have of a root, one for each node
abbrev pub numbers_in : ℕ → List CertLine → List ℕ
numbers_in root lines = flat_map (numbers_by root) lines

-- ---- whole certificates

-- Lines are those of a certificate: they stand in order up to `end`, the plan has no more links
-- than a tree, and none of them was left out.
pub record IsCertificate (network : Network) (lines : List CertLine) : Type 0 where
  pub follow : FollowAll network None lines
  pub ends : last_of None lines ≡ Some end_line
  pub few : length (used_in lines) ≤ most_tree_links
  pub apart : (link : ℕ) → Contains (left_out_in lines) link
      → Contains (firsts (used_in lines)) link → ⊥

-- The text is that of a certificate with these lines.
pub record IsCertText (network : Network) (text : List ℕ) (lines : List CertLine)
    : Type 0 where
  pub are : AreLines network text lines
  pub whole : IsCertificate network lines
