use Rattle.std.proofs.Common.{rules}
use Rattle.hose_journal.proofs.Parts.{open_bytes, part_fault}
use Rattle.hose_journal.proofs.part.part.Goals as goal

pub returns-in-Err : goal.returns-in-Err
returns-in-Err c = λ digest entries size value.
    let bytes = c.args.bytes.now in
    let whole = open_bytes bytes (search rules) (search rules) in
    part_fault c.args.chained digest entries bytes _ c.in-Err.fault whole (search (rules, c.in-Err.ensures digest entries size value))
