use Rattle.std.proofs.Common.{◌<◌, length, get_or, arith}
use Rattle.hose_book.proofs.Reserved.{amount_here}
use Rattle.hose_book.proofs.changing.subtract_amounts.Goals as goal

pub overflow_sub-loads : goal.overflow_sub-loads
overflow_sub-loads c =
    let link = (get_or c.args.amounts.now c.loop-l.l-index (0, 0)).0 in
    let below : link < length c.args.loads.now = c.requires.links c.loop-l.l-index (0, 0) c.loop-l-test.true in
    omega (arith, c.loop-l.invariant link below, amount_here c.args.amounts.now c.loop-l.l-index c.loop-l-test.true, c.requires.held link below)
