-- The limit of what a server serves, which definitions cite in place of the code's constant.
use Rattle.std.specs.Prelude.{ℕ}

-- the greatest number of connections that a server may be told to serve
abbrev pub most_connections : ℕ
most_connections = 10000
