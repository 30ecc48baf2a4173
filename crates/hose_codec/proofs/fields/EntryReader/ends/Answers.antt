use Rattle.std.proofs.Common.{rules, ◌≤◌}
use Rattle.hose_graph.specs.declared.limits.TheConstants.{LEAST_ENDS, MOST_ENDS}
use Rattle.hose_codec.proofs.Counted.{ends_are_read}
use Rattle.hose_codec.proofs.fields.EntryReader.ends.Goals as goal

pub returns : goal.returns
returns c =
    let enough : LEAST_ENDS ≤ c.in_ok-byte.field-0 = search rules in
    let few : c.in_ok-byte.field-0 ≤ MOST_ENDS = search rules in
    ends_are_read _ c.in_ok-byte.field-0 _ _ _ c.pairs.result enough few c.in_ok-byte.ensures.parts (rw c.from-count.ensures at c.pairs.ensures)
