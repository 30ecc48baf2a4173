use Rattle.std.proofs.Common.{[], arith}
use Rattle.hose_io.proofs.Gathering.{IsAdded-item}
use Rattle.hose_proto.specs.ReplyText.{node_text}
use Rattle.hose_proto.proofs.reply_text.add_side.Goals as goal

pub loop-node-preserved : goal.loop-node-preserved
loop-node-preserved g c =
    IsAdded-item [] (node_text c.args.top.now) c.args.nodes.now c.loop-node.node-index 0 (omega arith) c.loop-node.invariant c.add_node.ensures
