-- The limit of a book's list of changes, which definitions cite in place of the code's constant.
use Rattle.std.specs.Prelude.{ℕ}

-- the greatest number of changes that are kept
abbrev pub most_changes : ℕ
most_changes = 65536
