use Rattle.std.proofs.Common.{◌<◌, length, get_or, arith}
use Rattle.hose_book.proofs.Reserved.{amount_here}
use Rattle.hose_book.proofs.changing.add_amounts.Goals as goal

pub overflow_add-loads : goal.overflow_add-loads
overflow_add-loads c =
    let link = (get_or c.args.amounts.now c.loop-l.l-index (0, 0)).0 in
    let below : link < length c.args.loads.now = c.requires.links c.loop-l.l-index (0, 0) c.loop-l-test.true in
    omega (arith, c.loop-l.invariant link below, amount_here c.args.amounts.now c.loop-l.l-index c.loop-l-test.true, c.requires.fits link below)
