use Rattle.std.proofs.Common.{codes}
use Rattle.hose_io.proofs.Gathering.{IsAdded-next, IsAdded-two}
use Rattle.hose_audit.proofs.lines.add_vpn.Goals as goal

pub returns : goal.returns
returns g c =
    let customer = IsAdded-next (IsAdded-next c.add_numbered.ensures c.add.ensures) (rw c.bytes.ensures.value at c.add-2.ensures) in
    let priced = IsAdded-two (codes " cost ") _ customer (rw c.cost.ensures at c.add_numbered-2.ensures) in
    let ends = IsAdded-next (IsAdded-next priced c.add-3.ensures) (rw c.ends.ensures.value at c.add_ends.ensures) in
    let pairs = IsAdded-next (IsAdded-next ends c.add-4.ensures) (rw c.pairs.ensures.value at c.add_pairs.ensures) in
    IsAdded-next pairs c.add-5.ensures
