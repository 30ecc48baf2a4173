use Rattle.std.proofs.Common.{subst}
use Rattle.hose_proto.specs.steps.Reading.{EndsList}
use Rattle.hose_proto.proofs.Faults.{handed, is_told}
use Rattle.hose_proto.proofs.ItemByItem.{item_more, wrong_last}
use Rattle.hose_proto.proofs.lists.read_items.Goals as goal

pub returns-in_err-item-clause-bad : goal.returns-in_err-item-clause-bad
returns-in_err-item-clause-bad g c =
    let network = c.args.top.now in
    let items = c.loop-items.items.items in
    let ends = subst (λ others. EndsList (g.L.Items.word_of network) (g.L.Items.may_come network others) c.args.least others c.loop-items.words c.in_err-item.field-0.0.number) c.deref.ensures.value c.in_err-item.ensures.wrong in
    handed _ c.from_residual.result c.from_residual.ensures.1 (is_told (wrong_last (c.requires.goes_on items c.loop-items.invariant.so_far) c.loop-items.invariant.listing ends))

pub loop-items-preserved : goal.loop-items-preserved
loop-items-preserved g c =
    let items = c.loop-items.items.items in
    let came = rw c.in-Some.is at c.in_ok-item.ensures.next in
    let may = subst (λ others. g.L.Items.may_come c.args.top.now others c.in-Some.item) c.deref.ensures.value came.1 in
    let are = (c.requires.goes_on items c.loop-items.invariant.so_far).more c.in-Some.item may in
    rw c.in_ok-push.ensures.items (record { listing = item_more c.loop-items.invariant.listing came.0 are; so_far = are })
