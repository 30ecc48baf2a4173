-- The numbers and the name that are fixed for every network, hose and book. Definitions cite these
-- and no constant of the code, so that a change of a constant changes no statement: steps of
-- proofs.
use Rattle.std.specs.Prelude.{ℕ}

-- the greatest distance of two nodes: what the links of a tree cost at most
abbrev pub most_distance : ℕ
most_distance = 511000000
