-- A call that reads on, and may enter what it reads in a book: steps of proofs.
use Rattle.std.specs.Prelude.{◌≡◌, IfErr, OnOk, Result}
use Rattle.hose_book.specs.Ledger.{Ledger}
use Rattle.hose_disk.specs.declared.disk.Disk.{Ghosts}
use Rattle.hose_journal.specs.Moments.{KeepsCount}
use Rattle.hose_journal.specs.steps.Reading.{OnlyRead}
use Rattle.hose_journal.specs.declared.reading.Reading.{Reading}
use Rattle.hose_store.specs.steps.Opening.{IsStopped}
use Rattle.hose_store.specs.declared.fault.StoreFault.{StoreFault}

-- The network stays, and the disk is only read. Its count of faults stays where the call ended
-- well, and else it is told why the entries are read no further.
pub record ReadsFurther {D T : Type 0} (disk : Ghosts D) (was now : Ledger) (old new : Reading D)
    (result : Result T StoreFault) : Type 0 where
  pub network : now.network ≡ was.network
  pub stopped : IfErr result (IsStopped disk old.disk new.disk was.network)
  pub only : OnlyRead disk old.disk new.disk
  pub count : OnOk result (KeepsCount disk old.disk new.disk)
