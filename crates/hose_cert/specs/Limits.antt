-- The limits of certificates, which definitions cite in place of the code's constants.
use Rattle.std.specs.Prelude.{ℕ}

-- the greatest number
abbrev pub most_number : ℕ
most_number = 40000000000000000

-- the greatest number of numbers in a line
abbrev pub line_numbers : ℕ
line_numbers = 64
