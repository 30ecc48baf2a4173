use Rattle.std.proofs.Common.{arith}
use Rattle.hose_tree.proofs.Reaching.{count_le}
use Rattle.hose_tree.proofs.reach.spread_all.Goals as goal

pub loop-smaller : goal.loop-smaller
loop-smaller c = omega (arith, count_le c.spread.new.side, c.spread.ensures.grows c.loop-test.true)
