-- Some entries were read.
use Rattle.std.proofs.Common.{◌-◌, [], List}
use Rattle.hose_graph.specs.Network.{Network}
use Rattle.hose_graph.specs.declared.entry.Entry.{Entry}
use Rattle.hose_graph.specs.Limits.{most_epoch}
use Rattle.hosed_host.specs.steps.Reading.{HasRead}
use Rattle.hosed_host.proofs.reading.read_all.Given as goal

abbrev pub invariant-loop : goal.invariant-loop
invariant-loop g l = (was : g.row.D.Denot) (network : Network) → HasRead g.D.Disk was network l.fn.replay l.fn.recent []
    → (entries : List Entry) × HasRead g.D.Disk was network l.replay l.recent entries

abbrev pub decreases-loop : goal.decreases-loop
decreases-loop g l = most_epoch - l.replay.book.book.epoch
