-- The limits of what is generated, which definitions cite in place of the code's constants.
use Rattle.std.specs.Prelude.{ℕ}

-- the least number of nodes
abbrev pub least_nodes : ℕ
least_nodes = 6

-- the greatest number of hoses
abbrev pub most_hoses : ℕ
most_hoses = 20000
