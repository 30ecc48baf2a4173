use Rattle.std.proofs.Common.{arith}
use Rattle.hose_journal.proofs.Parts.{has_fields}
use Rattle.hose_journal.proofs.part.split_record.Goals as goal

pub returns-clause-fields : goal.returns-clause-fields
returns-clause-fields c =
    has_fields c.args.bytes.now c.split_at.result.0.now c.split_at.result.1.now c.split_at-2.result.0.now c.split_at-2.result.1.now c.args.width c.number_of_four-len.result
    c.split_at.ensures.front c.split_at.ensures.back c.split_at-2.ensures.front c.split_at-2.ensures.back c.number_of_four-len.ensures (omega arith) (omega arith)
