-- No node and no link so far has changed.
use Rattle.std.proofs.Common.{ℕ, ◌<◌}
use Rattle.hose_move.specs.Changing.{HaveSameLink, HaveSameNode}
use Rattle.hose_move.proofs.changing.first_change.Given as goal

abbrev pub invariant-loop-node : goal.invariant-loop-node
invariant-loop-node l = (earlier : ℕ) → earlier < l.node → HaveSameNode l.old l.new earlier

abbrev pub invariant-loop-link : goal.invariant-loop-link
invariant-loop-link l = (earlier : ℕ) → earlier < l.link → HaveSameLink l.old l.new earlier
