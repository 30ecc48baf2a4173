use Rattle.std.proofs.Common.{codes}
use Rattle.hose_io.proofs.Gathering.{IsAdded-next, IsAdded-two}
use Rattle.hose_audit.proofs.lines.add_live.Goals as goal

pub returns : goal.returns
returns g c =
    let count = rw c.live.ensures.value at c.add_numbered.ensures in
    let priced = IsAdded-two (codes " cost ") _ count (rw c.total_cost.ensures at c.add_numbered-2.ensures) in
    IsAdded-next priced c.add.ensures
