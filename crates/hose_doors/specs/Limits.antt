-- The limit of a host's doors, which definitions cite in place of the code's constant.
use Rattle.std.specs.Prelude.{ℕ}

-- the greatest number of doors that a host has, beside that of the operator
abbrev pub most_doors : ℕ
most_doors = 64
