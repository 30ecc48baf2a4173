use Rattle.std.proofs.Common.{length, ap, arith}
use Rattle.hose_cert.proofs.Weighed.{share_is, weighed_more, weighs_little}
use Rattle.hose_cert.proofs.rows.weight.Goals as goal

pub overflow_add-sum : goal.overflow_add-sum
overflow_add-sum c =
    let items = c.ends-node-items.result.now in
    let i = c.loop-node.node-index in
    let share = share_is c.args.row.now items i c.from.result c.from-in-loop-node.result c.from.ensures c.from-in-loop-node.ensures in
    let little = weighs_little c.args.row.now c.args.hose.now items c.ends-node-items.ensures.value c.requires.numbers c.ends-node-items.ensures.hose.within c.requires.nodes i c.loop-node-test.true in
    omega (arith, share, little, ap length c.ends-node-items.ensures.value, c.ends-node-items.ensures.hose.counted.few, c.loop-node.invariant.small, c.loop-node-test.true)

pub loop-node-preserved : goal.loop-node-preserved
loop-node-preserved c =
    let items = c.ends-node-items.result.now in
    let i = c.loop-node.node-index in
    let same = c.ends-node-items.ensures.value in
    let share = share_is c.args.row.now items i c.from.result c.from-in-loop-node.result c.from.ensures c.from-in-loop-node.ensures in
    let little = weighs_little c.args.row.now c.args.hose.now items same c.requires.numbers c.ends-node-items.ensures.hose.within c.requires.nodes i c.loop-node-test.true in
    let more = weighed_more c.args.row.now c.args.hose.now items same i c.loop-node-test.true in
    record {
      so_far = omega (arith, share, more, c.loop-node.invariant.so_far);
      small = omega (arith, share, little, c.loop-node.invariant.small);
    }
