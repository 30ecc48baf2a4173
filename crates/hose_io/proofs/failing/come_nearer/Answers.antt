use Rattle.hose_io.proofs.Lists.{map_next}
use Rattle.std.proofs.Common.{arith}
use Rattle.hose_io.proofs.failing.come_nearer.Goals as goal

pub loop-nth-preserved : goal.loop-nth-preserved
loop-nth-preserved c =
    map_next _ _ _ _ _ (omega arith) c.loop-nth.invariant c.saturating_sub.ensures
