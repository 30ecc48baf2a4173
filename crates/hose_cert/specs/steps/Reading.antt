-- What is read of the words of a certificate's lines.
use Rattle.std.specs.Prelude.{◌≡◌, ◌<◌, ◌≤◌, ℕ, List, ◌∷◌, All, Option, MatchOption, decimal, length, map}
use Rattle.hose_graph.specs.Network.{Network}
use Rattle.hose_cert.specs.CertLine.{CertLine}
use Rattle.hose_cert.specs.steps.CertLine.{AreWordsOf, statement_line}
use Rattle.hose_cert.specs.steps.Statement.{statement_word}
use Rattle.hose_cert.specs.Limits.{most_number}
use Rattle.hose_cert.specs.declared.statement.StatementKind.{StatementKind}
use Rattle.hose_cert.specs.declared.statement.Statement.{Statement}

-- what was read is so, or nothing is
abbrev pub IsLineTold : (CertLine → Type 0) → Option Statement → Type 0
IsLineTold Is told =
    MatchOption told ((line : CertLine) → Is line → ⊥) (λ one. Is (statement_line one))

-- what was read of the words after one that tells a kind of lines is so, or nothing is
abbrev pub IsToldAfter : Network → StatementKind → List (List ℕ) → Option Statement → Type 0
IsToldAfter network kind words told =
    IsLineTold (AreWordsOf network (statement_word kind ∷ words)) told

-- a number from the least to below the end
abbrev pub IsFrom : ℕ → ℕ → ℕ → Type 0
IsFrom least end number = (least ≤ number) × (number < end)

-- so many numbers
abbrev pub AreNumberWords : ℕ → List (List ℕ) → List ℕ → Type 0
AreNumberWords count words numbers = (words ≡ map decimal numbers)
    × (length numbers ≡ count) × All (λ number. number ≤ most_number) numbers
