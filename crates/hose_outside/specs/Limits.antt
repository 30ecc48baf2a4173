-- The limit of a topology in JSON, which definitions cite in place of the code's constant.
use Rattle.std.specs.Prelude.{ℕ}

-- the greatest number of bytes of a topology in JSON: 16 MiB
abbrev pub json_limit : ℕ
json_limit = 16777216
