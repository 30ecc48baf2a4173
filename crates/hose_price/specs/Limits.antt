-- The limit of a sheet, which definitions cite in place of the code's constant.
use Rattle.std.specs.Prelude.{ℕ}

-- the greatest number of tariffs
abbrev pub most_tariffs : ℕ
most_tariffs = 16
