-- Nodes whose entry fell and whose links are still to be followed.
use Rattle.std.specs.Prelude.{◌≡◌, ◌⊎◌, ℕ, ◌+◌, ◌*◌, ◌<◌, Bool, List, ◌∷◌, Option, Some, Contains, IsPermutation}
use Rattle.std.specs.declared.cmp.Reverse.{Reverse}
use Rattle.hose_graph.specs.Network.{Network}
use Rattle.hose_law.specs.Walk.{cost_of, Joins, IsIn}
use Rattle.hose_paths.specs.steps.Table.{entry, CannotLower, Lowers}

-- an entry and its node in one number, of which the lowest has the lowest entry
abbrev pub key_of : ℕ → ℕ → ℕ
key_of distance node = distance * 1024 + node

-- an entry of a node as it stood when it was put into the queue
abbrev pub Waiting : Type 0
Waiting = Reverse ℕ

-- a node's entry is in the queue
pub record IsQueued (table : List (Option ℕ)) (queue : List Waiting) (v : ℕ) : Type 0 where
  pub distance : ℕ
  pub there : Contains queue (record { 0 = key_of distance v })
  pub now : entry table v ≡ Some distance

-- No link of the set lowers an entry, but for the links of queued nodes and those of one node below
-- a number.
abbrev pub IsSettledBut : Network → List Bool → List (Option ℕ) → List Waiting → ℕ → ℕ → Type 0
IsSettledBut network set table queue node number =
    (l u v : ℕ) → IsIn set l → Joins network l u v
    → CannotLower table u v (cost_of network l) ⊎ IsQueued table queue u
    ⊎ ((u ≡ node) × (l < number))

-- One node's entry and this cost lower the entry of another, which is put into the queue then, or
-- they cannot, and nothing changes.
abbrev pub Relaxes : List (Option ℕ) → List Waiting → List (Option ℕ) → List Waiting → ℕ → ℕ → ℕ
    → Type 0
Relaxes old_table old_queue new_table new_queue from to cost =
    ((lowers : Lowers old_table new_table from to cost)
    × IsPermutation (record { 0 = key_of (lowers.near + cost) to } ∷ old_queue) new_queue)
    ⊎ ((new_table ≡ old_table) × (new_queue ≡ old_queue) × CannotLower old_table from to cost)
