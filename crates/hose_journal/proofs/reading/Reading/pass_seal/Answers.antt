use Rattle.hose_journal.proofs.Readings.{past_seal}
use Rattle.hose_journal.proofs.reading.Reading.pass_seal.Goals as goal

pub returns-clause-passed : goal.returns-clause-passed
returns-clause-passed g c = λ digest entries reads reaches going plain begins. past_seal g.D.Disk c.args.self.now digest entries reads reaches going plain begins
