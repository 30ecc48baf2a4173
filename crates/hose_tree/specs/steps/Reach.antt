-- What a round over the links does to the nodes that are known to be reached.
use Rattle.std.specs.Prelude.{ℕ, ◌<◌, Bool, List, sum_by, if◌then◌else◌}
use Rattle.hose_graph.specs.Network.{Network}
use Rattle.hose_law.specs.Walk.{IsIn, Joins, Reaches}

-- how many nodes are on a side
abbrev pub count_on : List Bool → ℕ
count_on side = sum_by (λ b. if b then 1 else 0) side

-- every node on the side is reached
abbrev pub AllReached : Network → List Bool → ℕ → List Bool → Type 0
AllReached network set from side = (v : ℕ) → IsIn side v → Reaches network set from v

-- this link, if it is of the set, does not lead out of the side
abbrev pub IsClosedAt : Network → List Bool → List Bool → ℕ → Type 0
IsClosedAt network set side l =
    (u v : ℕ) → IsIn set l → Joins network l u v → IsIn side u → IsIn side v

-- nor does any below a number
abbrev pub IsClosedBelow : Network → List Bool → List Bool → ℕ → Type 0
IsClosedBelow network set side n = (l : ℕ) → l < n → IsClosedAt network set side l
