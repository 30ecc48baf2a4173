use Rattle.std.proofs.Common.{◌≡◌, ◌-◌}
use Rattle.hose_graph.specs.Limits.{most_epoch}
use Rattle.hose_journal.specs.Moments.{KeepsCount}
use Rattle.hose_journal.specs.steps.Reading.{OnlyRead}
use Rattle.hose_store.specs.steps.Opening.{IsRecovering}
use Rattle.hose_store.proofs.recovery.recover.Given as goal

abbrev pub invariant-loop : goal.invariant-loop
invariant-loop g l = record {
  recovering : IsRecovering g.D.Disk l.book l.reading;
  network : l.book.network ≡ l.fn.book.network;
  only : OnlyRead g.D.Disk l.fn.reading.disk l.reading.disk;
  count : KeepsCount g.D.Disk l.fn.reading.disk l.reading.disk;
}

abbrev pub decreases-loop : goal.decreases-loop
decreases-loop g l = most_epoch - l.book.book.epoch
