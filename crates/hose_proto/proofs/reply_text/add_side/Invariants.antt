use Rattle.std.proofs.Common.{take}
use Rattle.std.specs.List.{flat_map}
use Rattle.hose_io.specs.steps.Gather.{IsAdded}
use Rattle.hose_proto.specs.ReplyText.{node_text}
use Rattle.hose_proto.proofs.reply_text.add_side.Given as goal

abbrev pub invariant-loop-node : goal.invariant-loop-node
invariant-loop-node g l = IsAdded g.S.Sink l.fn.gather l.fn.sink l.gather l.sink (flat_map (node_text l.top) (take l.node-index l.nodes))
