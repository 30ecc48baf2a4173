-- Walks over a set of links, distances, and what a node reaches: steps of proofs.
use Rattle.std.specs.Prelude.{ℕ, Bool, false, List, slice_set}
use Rattle.hose_graph.specs.Network.{Network}
use Rattle.hose_law.specs.Walk.{IsIn, Joins}

-- the set without a link
abbrev pub set_without : List Bool → ℕ → List Bool
set_without set l = slice_set set l false

-- No link of the set leads out of a side, which has a truth value for each node.
abbrev pub IsClosedSide : Network → List Bool → List Bool → Type 0
IsClosedSide network set side =
    (l u v : ℕ) → IsIn set l → Joins network l u v → IsIn side u → IsIn side v
