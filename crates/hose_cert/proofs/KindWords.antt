-- The kinds of a certificate's lines, and the words that tell them.
use Rattle.std.proofs.Common.{◌≡◌, ◌∙◌, ℕ, List, map, refl, sym, ap, arith}
use Rattle.hose_words.proofs.Keywords.{choice_of}
use Rattle.hose_proto.specs.steps.Choices.{IsWordTable}
use Rattle.hose_proto.proofs.Words.{is_table}
use Rattle.hose_cert.specs.steps.Statement.{statement_word}
use Rattle.hose_cert.specs.declared.statement.StatementKind.{StatementKind}
use Rattle.hose_cert.specs.declared.statement.StatementKind.TheVariants as kind
use Rattle.hose_cert.specs.declared.statement.TheConstants.{KINDS}

-- the kind that a word tells
abbrev pub kind_of_word : List ℕ → StatementKind
kind_of_word word = choice_of statement_word (map (λ row. row.0) KINDS) kind.Cost word

pub kind_of_word-word : (one : StatementKind) → kind_of_word (statement_word one) ≡ one
kind_of_word-word kind.Cost = refl
kind_of_word-word other = refl

-- no two kinds have one word
pub kinds_apart : (one other : StatementKind) → statement_word one ≡ statement_word other → one ≡ other
kinds_apart one other same = sym (kind_of_word-word one) ∙ ap kind_of_word same ∙ kind_of_word-word other

-- the table has each kind with its word
pub kinds_told : IsWordTable statement_word (map (λ row. (row.0, row.1.now)) KINDS)
kinds_told = is_table statement_word (map (λ row. (row.0, row.1.now)) KINDS) kind.Cost refl kind_of_word-word (λ P all. all 0 kind.Cost (omega arith))
