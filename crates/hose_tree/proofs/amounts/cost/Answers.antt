use Rattle.std.proofs.Common.{arith}
use Rattle.hose_tree.proofs.Costs.{cost_more, cost_little}
use Rattle.hose_tree.proofs.amounts.cost.Goals as goal

pub loop-link-preserved : goal.loop-link-preserved
loop-link-preserved c =
    let little = cost_little c.args.amounts.now c.pairs-link-items.result.now c.pairs-link-items.ensures.value c.requires.amounts c.loop-link.link-index c.loop-link-test.true c.link.result.cost c.link.ensures.is_link.in_range.cost.1 in
    let more = cost_more c.args.top.now c.pairs-link-items.result.now c.loop-link.link-index c.loop-link-test.true c.link.result c.link.ensures.value in
    record {
      so_far = omega (arith, more, c.loop-link.invariant.so_far);
      small = omega (arith, little, c.loop-link.invariant.small);
    }
