-- Some entries were read.
use Rattle.std.proofs.Common.{◌-◌, [], List}
use Rattle.hose_graph.specs.Network.{Network}
use Rattle.hose_graph.specs.declared.entry.Entry.{Entry}
use Rattle.hose_graph.specs.Limits.{most_epoch}
use Rattle.hose_store.specs.steps.Replaying.{IsReplaying}
use Rattle.hose_move.specs.steps.Collecting.{HasPassed}
use Rattle.hose_move.proofs.collecting.pass.Given as goal

abbrev pub invariant-loop : goal.invariant-loop
invariant-loop g l = (was : g.row.D.Denot) (network : Network) → IsReplaying g.D.Disk was network l.fn.replay []
    → (entries : List Entry) × HasPassed g.D.Disk was network l.replay entries

abbrev pub decreases-loop : goal.decreases-loop
decreases-loop g l = most_epoch - l.replay.book.book.epoch
