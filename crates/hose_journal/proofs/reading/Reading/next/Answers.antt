use Rattle.std.proofs.Common.{Some, subst}
use Rattle.std.specs.Prelude.{Err}
use Rattle.hose_journal.specs.steps.Reading.{HasRead}
use Rattle.hose_journal.specs.declared.fault.JournalFault.{JournalFault}
use Rattle.hose_journal.proofs.Readings.{fault_kept}
use Rattle.hose_journal.proofs.reading.Reading.next.Goals as goal

pub returns-in-Err-Memory-clause-read : goal.returns-in-Err-Memory-clause-read
returns-in-Err-Memory-clause-read g c = λ none digest entries reads.
    subst (λ (fault : JournalFault). HasRead g.D.Disk c.args.self.now c.read.new.self digest entries (Err fault)) c.in-Err-Memory.field-0-is (c.in-Err-Memory.ensures.read digest entries reads)

pub returns-in-Err-clause-read : goal.returns-in-Err-clause-read
returns-in-Err-clause-read g c = λ none digest entries reads.
    fault_kept g.D.Disk c.args.self.now c.read.new.self digest entries c.in-Err.fault (Some c.in-Err.fault) (c.in-Err.ensures.read digest entries reads)
