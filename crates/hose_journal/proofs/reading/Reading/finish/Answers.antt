use Rattle.std.proofs.Common.{None, sym, subst}
use Rattle.hose_journal.specs.steps.Journal.{Stands}
use Rattle.hose_journal.specs.declared.journal.Journal.{Journal}
use Rattle.hose_journal.proofs.Readings.{finished}
use Rattle.hose_journal.proofs.reading.Reading.finish.Goals as goal

pub returns-clause-stands : goal.returns-clause-stands
returns-clause-stands g c = λ digest entries reads.
    subst (λ (j : Journal g.row.D.Denot). Stands g.D.Disk j (record { digest = digest; entries = entries; doubt = None })) (sym c.at.ensures)
    (finished g.D.Disk c.args.self digest entries reads c.requires.3)
