use Rattle.std.proofs.Common.{take}
use Rattle.std.specs.List.{flat_map}
use Rattle.hose_io.specs.steps.Gather.{IsAdded}
use Rattle.hose_proto.specs.ReplyText.{end_text}
use Rattle.hose_proto.proofs.pieces.add_ends.Given as goal

abbrev pub invariant-loop-end : goal.invariant-loop-end
invariant-loop-end g l = IsAdded g.S.Sink l.fn.gather l.fn.sink l.gather l.sink (flat_map (end_text l.top) (take l.end-index l.ends))
