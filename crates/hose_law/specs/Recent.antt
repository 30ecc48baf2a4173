-- Which links the recent entries of a history touched.
use Rattle.std.specs.Prelude.{ℕ, List}

-- a change: the epoch after an entry, and a link that the entry touched
abbrev pub Change : Type 0
Change = ℕ × ℕ

-- the changes of each epoch above a floor
pub record Recent : Type 0 where
  pub floor : ℕ
  pub changes : List Change
