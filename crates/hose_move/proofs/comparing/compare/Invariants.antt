-- So many entries were read, and they are the first of those that the journal should have.
use Rattle.std.proofs.Common.{◌-◌, ◌≤◌, [], length, take}
use Rattle.hose_graph.specs.Network.{Network}
use Rattle.hose_store.specs.steps.Replaying.{IsReplaying}
use Rattle.hose_move.proofs.comparing.compare.Given as goal

abbrev pub invariant-loop-place : goal.invariant-loop-place
invariant-loop-place g l = (l.place ≤ length l.entries)
    × ((was : g.row.D.Denot) (network : Network) → IsReplaying g.D.Disk was network l.fn.replay []
    → IsReplaying g.D.Disk was network l.replay (take l.place l.entries))

abbrev pub decreases-loop-place : goal.decreases-loop-place
decreases-loop-place g l = length l.entries - l.place
