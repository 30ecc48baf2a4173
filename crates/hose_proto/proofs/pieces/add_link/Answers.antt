use Rattle.std.proofs.Common.{codes}
use Rattle.hose_io.proofs.Gathering.{IsAdded-next, IsAdded-two}
use Rattle.hose_proto.proofs.pieces.add_link.Goals as goal

pub returns : goal.returns
returns g c = IsAdded-two (codes " cost ") _ (IsAdded-two (codes " capacity ") _ (IsAdded-next c.add_node.ensures c.add_node-2.ensures) c.add_numbered.ensures) c.add_numbered-2.ensures
