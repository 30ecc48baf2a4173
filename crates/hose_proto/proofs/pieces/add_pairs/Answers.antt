use Rattle.std.proofs.Common.{[], codes, arith}
use Rattle.hose_io.proofs.Gathering.{IsAdded-item, IsAdded-two}
use Rattle.hose_proto.specs.ReplyText.{pair_text}
use Rattle.hose_proto.proofs.pieces.add_pairs.Goals as goal

pub loop-pair-preserved : goal.loop-pair-preserved
loop-pair-preserved g c =
    IsAdded-item [] pair_text c.args.pairs.now c.loop-pair.pair-index (0, 0) (omega arith) c.loop-pair.invariant
    (IsAdded-two (codes ":") _ (rw c.from.ensures at c.add_numbered.ensures) c.add_numbered-in-loop-pair.ensures)
