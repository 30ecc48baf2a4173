-- How the numbers of a root are judged.
use Rattle.std.specs.Prelude.{◌≡◌, ◌↔◌, ◌+◌, ◌≤◌, ℕ, Bool, IsTrue, List, [], All, slice_index}
use Rattle.hose_graph.specs.Hose.{Endpoint}
use Rattle.hose_graph.specs.Network.{Network}
use Rattle.hose_law.specs.Walk.{IsIn, Joins, cost_of}
use Rattle.hose_cert.specs.Rules.{DifferWithinCosts, others_of, weighed_by}
use Rattle.hose_cert.specs.Limits.{most_number}
use Rattle.hose_cert.specs.declared.rows.Rows.{Rows}

-- no number is above the limit
abbrev pub AreUpToMost : List ℕ → Type 0
AreUpToMost numbers = All (λ number. number ≤ most_number) numbers

-- the numbers at the two nodes of a link differ by no more than its cost
abbrev pub ChangesWithin : Network → ℕ → List ℕ → Type 0
ChangesWithin network link numbers = (u v : ℕ) → Joins network link u v
    → slice_index numbers v ≤ slice_index numbers u + cost_of network link

-- the numbers at the two nodes of a link differ by no more than its cost, where the link is not one
-- of those that were left out
abbrev pub ChangesWithinKept : Network → List Bool → ℕ → List ℕ → Type 0
ChangesWithinKept network without link numbers =
    IsIn (others_of without) link → ChangesWithin network link numbers

-- a flag is true where it was and this holds
abbrev pub AlsoTells : Bool → Bool → Type 0 → Type 0
AlsoTells was now P = IsTrue now ↔ (IsTrue was × P)

-- The numbers of a root were judged, and the next root has none yet.
pub record IsRootJudged (network : Network) (cost : ℕ) (hose : List Endpoint) (without : List Bool)
    (old new : Rows) : Type 0 where
  pub root : new.root ≡ old.root + 1
  pub row : new.row.items ≡ []
  pub starts : AlsoTells old.starts new.starts (slice_index old.row.items old.root ≡ 0)
  pub changes : AlsoTells old.changes new.changes
      (DifferWithinCosts network (others_of without) old.row.items)
  pub weighs : AlsoTells old.weighs new.weighs (cost ≤ weighed_by old.row.items hose)
