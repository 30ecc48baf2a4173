-- The entries so far are committed.
use Rattle.hose_graph.specs.Network.{Network}
use Rattle.hose_move.specs.steps.Committing.{IsMoving}
use Rattle.hose_move.proofs.committing.commit_rest.Given as goal

abbrev pub invariant-loop-place : goal.invariant-loop-place
invariant-loop-place g l = (was : g.row.D.Denot) (network : Network) → IsMoving g.D.Disk was network l.entries l.fn.store l.from
    → IsMoving g.D.Disk was network l.entries l.store l.place
