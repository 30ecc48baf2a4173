use Rattle.hose_io.proofs.Gathering.{IsAdded-next}
use Rattle.hose_proto.proofs.NodeNames.{name_lent}
use Rattle.hose_proto.proofs.pieces.add_node.Goals as goal

pub returns : goal.returns
returns g c = IsAdded-next c.add.ensures (rw (name_lent c.args.top.now c.args.node _ c.bytes.result.now c.name.ensures c.bytes.ensures.value) at c.add-2.ensures)
