use Rattle.std.proofs.Common.{◌≢◌, ℕ, ◌+◌, ◌<◌, length, get_or}
use Rattle.hose_tree.specs.steps.Peeling.{KeepsQuestions}
use Rattle.hose_tree.proofs.judge.Forest.peel_from.Given as goal

-- the leaf of this turn is a node, and no other up to the first one is a leaf
abbrev pub invariant-loop-self : goal.invariant-loop-self
invariant-loop-self l =
    KeepsQuestions l.top l.total l.fn.self l.self × (l.leaf < length l.top.nodes)
    × ((v : ℕ) → v < l.node + 1 → v ≢ l.leaf → get_or l.self.degrees v 0 ≢ 1)

abbrev pub decreases-loop-self : goal.decreases-loop-self
decreases-loop-self l = l.self.left
