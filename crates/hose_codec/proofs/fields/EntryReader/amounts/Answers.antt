use Rattle.std.proofs.Common.{rules, ◌≤◌}
use Rattle.hose_codec.specs.declared.limits.TheConstants.{MOST_PAIRS}
use Rattle.hose_codec.proofs.Counted.{amounts_are_read}
use Rattle.hose_codec.proofs.fields.EntryReader.amounts.Goals as goal

pub returns : goal.returns
returns c =
    let some : 1 ≤ c.in_ok-two_bytes.field-0 = search rules in
    let few : c.in_ok-two_bytes.field-0 ≤ MOST_PAIRS = search rules in
    amounts_are_read _ c.in_ok-two_bytes.field-0 _ _ _ c.pairs.result some few c.in_ok-two_bytes.ensures.parts (rw c.from-count.ensures at c.pairs.ensures)
