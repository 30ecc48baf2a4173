use Rattle.std.proofs.Common.{arith}
use Rattle.hose_journal.specs.Entries.{TakesAny}
use Rattle.hose_journal.proofs.Lists.{journal_is_list}
use Rattle.hose_journal.proofs.OneList.{one_list}
use Rattle.hose_journal.proofs.reading.law_one_list.Goals as goal

pub returns-clause-read : goal.returns-clause-read
returns-clause-read c = λ version items rest is_version are. journal_is_list TakesAny version c.args.digest.now rest items is_version are

pub returns-clause-alone : goal.returns-clause-alone
returns-clause-alone c = λ image one other is also. one_list c.args.digest.now image one other (omega arith) is also
