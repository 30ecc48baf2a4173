use Rattle.std.proofs.Common.{take}
use Rattle.std.specs.List.{flat_map}
use Rattle.hose_io.specs.steps.Gather.{IsAdded}
use Rattle.hose_proto.specs.ReplyText.{pair_text}
use Rattle.hose_proto.proofs.pieces.add_pairs.Given as goal

abbrev pub invariant-loop-pair : goal.invariant-loop-pair
invariant-loop-pair g l = IsAdded g.S.Sink l.fn.gather l.fn.sink l.gather l.sink (flat_map pair_text (take l.pair-index l.pairs))
