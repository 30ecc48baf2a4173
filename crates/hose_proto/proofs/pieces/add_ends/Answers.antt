use Rattle.std.proofs.Common.{[], codes, arith}
use Rattle.hose_io.proofs.Gathering.{IsAdded-item, IsAdded-two}
use Rattle.hose_proto.specs.ReplyText.{end_text}
use Rattle.hose_proto.proofs.pieces.add_ends.Goals as goal

pub loop-end-preserved : goal.loop-end-preserved
loop-end-preserved g c =
    IsAdded-item [] (end_text c.args.top.now) c.args.ends.now c.loop-end.end-index (0, 0) (omega arith) c.loop-end.invariant
    (IsAdded-two (codes ":") _ c.add_node.ensures c.add_numbered.ensures)
