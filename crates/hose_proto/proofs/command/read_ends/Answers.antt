use Rattle.std.proofs.Common.{subst}
use Rattle.std.specs.List.Sorted.{IsPermutation}
use Rattle.hose_proto.proofs.Hoses.{hose_made}
use Rattle.hose_proto.proofs.ListItems.{new_ends_go_on}
use Rattle.hose_proto.proofs.command.read_ends.Goals as goal

pub read_items-requires-clause-goes_on : goal.read_items-requires-clause-goes_on
read_items-requires-clause-goes_on c = new_ends_go_on c.args.top.now c.requires

pub returns-clause-ok : goal.returns-clause-ok
returns-clause-ok c =
    let items = c.in_ok-ends.ends.items in
    let moved = subst (λ others. IsPermutation others c.in_ok-hose.hose) c.deref.ensures.value c.in_ok-hose.ensures.same_ends in
    record {
      ends = items;
      spelled = c.in_ok-ends.ensures.told;
      same_ends = moved;
      is_hose = hose_made c.args.top.now items c.in_ok-hose.hose c.in_ok-ends.ensures.fine moved c.in_ok-hose.ensures.hose;
    }
