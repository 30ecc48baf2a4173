-- The words that begin the lines of a certificate.
use Rattle.std.specs.Prelude.{ℕ, List, codes}
use Rattle.hose_cert.specs.declared.statement.StatementKind.{StatementKind}
use Rattle.hose_cert.specs.declared.statement.StatementKind.TheVariants as kind

-- the word that begins the lines of a kind
abbrev pub statement_word : StatementKind → List ℕ
statement_word kind.Cost = codes "cost"
statement_word kind.Hose = codes "hose"
statement_word kind.Use = codes "use"
statement_word kind.Without = codes "without"
statement_word kind.Pot = codes "pot"
statement_word kind.End = codes "end"
