-- Choices that are told by a word each, as a table has them.
use Rattle.std.specs.Prelude.{◌≡◌, ◌≢◌, ℕ, List, All, map}
use Rattle.std.specs.Borrow.{Bor}

-- a table has each of some choices, with its word
pub record IsWordTable {A : Type 0} (word_of : A → List ℕ) (rows : List (A × List ℕ)) : Type 0 where
  pub words : All (λ row. row.1 ≡ word_of row.0) rows
  pub each : (one : A) → ¬ All (λ row. row.0 ≢ one) rows

-- the rows of a table whose words are borrowed
abbrev pub rows_of : {A : Type 0} → List (A × Bor (List ℕ)) → List (A × List ℕ)
rows_of table = map (λ row. (row.0, row.1.now)) table
