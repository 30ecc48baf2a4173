-- What the lines of a certificate say, and how they say it: steps of proofs.
use Rattle.std.specs.Prelude.{◌≡◌, ◌<◌, ◌≤◌, ◌==◌, ℕ, List, [], ◌∷◌, All, codes, decimal, length, map}
use Rattle.std.specs.List.{slice_split}
use Rattle.hose_words.specs.Numbers.{IsWithin}
use Rattle.hose_words.specs.Words.{words_of}
use Rattle.hose_graph.specs.Amounts.{amount_of, link_of}
use Rattle.hose_graph.specs.Network.{Network, IsLinkOf, IsNodeOf}
use Rattle.hose_graph.specs.Limits.{most_amount}
use Rattle.hose_proto.specs.Command.{AreEndsOf}
use Rattle.hose_cert.specs.declared.statement.Statement.{Statement}
use Rattle.hose_cert.specs.declared.statement.Statement.TheVariants as statement
use Rattle.hose_cert.specs.CertLine.{CertLine, cost_line, end_line, hose_line, numbers_from, pot_line, use_line, without_line}
use Rattle.hose_cert.specs.Limits.{most_number}

-- what a statement that was read says
abbrev pub statement_line : Statement → CertLine
statement_line (statement.Cost cost) = cost_line cost
statement_line (statement.Hose hose) = hose_line hose
statement_line (statement.Use pair) = use_line pair
statement_line (statement.Without link) = without_line link
statement_line (statement.Pot pot) = pot_line pot.root pot.from pot.numbers.items
statement_line statement.End = end_line

-- the words are those of a line: `cost C`, `hose NAME:RATE ..`, `use L R`, `without L`,
-- `pot R F P ..` or `end`
abbrev pub AreWordsOf : Network → List (List ℕ) → CertLine → Type 0
AreWordsOf network words (cost_line cost) =
    (words ≡ codes "cost" ∷ decimal cost ∷ []) × (cost ≤ most_number)
AreWordsOf network words (hose_line hose) =
    (ends : List (List ℕ)) × (words ≡ codes "hose" ∷ ends) × AreEndsOf network ends hose
AreWordsOf network words (use_line pair) =
    (words ≡ codes "use" ∷ decimal (link_of pair) ∷ decimal (amount_of pair) ∷ [])
    × IsLinkOf network (link_of pair) × IsWithin 1 most_amount (amount_of pair)
AreWordsOf network words (without_line link) =
    (words ≡ codes "without" ∷ decimal link ∷ []) × IsLinkOf network link
AreWordsOf network words (pot_line root from numbers) =
    (words ≡ codes "pot" ∷ decimal root ∷ decimal from ∷ map decimal numbers)
    × IsNodeOf network root × IsNodeOf network from
    × (length numbers ≡ numbers_from network from)
    × All (λ number. number ≤ most_number) numbers
AreWordsOf network words end_line = words ≡ codes "end" ∷ []

-- One space stands between each two words, and none before the first or after the last: no part
-- between spaces is empty.
abbrev pub IsSpaced : List ℕ → Type 0
IsSpaced bytes = All (λ part. 0 < length part) (slice_split (λ byte. byte == 32) bytes)

-- These bytes are the words of a line of a certificate, with one space between each two, and say
-- this.
pub record SaysLine (network : Network) (bytes : List ℕ) (line : CertLine) : Type 0 where
  pub spaced : IsSpaced bytes
  pub spelled : AreWordsOf network (words_of bytes) line
