-- The limits of lines and inputs, which definitions cite in place of the code's constants.
use Rattle.std.specs.Prelude.{ℕ}

-- the greatest number of bytes of a line, without its line feed
abbrev pub line_limit : ℕ
line_limit = 4096

-- the greatest number of bytes of one input: 1 GiB
abbrev pub input_limit : ℕ
input_limit = 1073741824
