use Rattle.std.proofs.Common.{rules, length, arith, ap}
use Rattle.hose_codec.specs.Spelling.{IsSpelling}
use Rattle.hose_codec.proofs.Entries.{length-spelling}
use Rattle.hose_codec.proofs.writing.encode.Goals as goal

pub returns-clause-short : goal.returns-clause-short
returns-clause-short c =
    let is : IsSpelling c.args.entry.now c.put_entry.new.out.items = search rules in
    omega (arith, c.put_entry.new.out.ok.0, ap length is.spelled, length-spelling c.args.entry.now is.is_entry)
