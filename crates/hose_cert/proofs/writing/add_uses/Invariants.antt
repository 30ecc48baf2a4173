use Rattle.std.proofs.Common.{take}
use Rattle.std.specs.List.{flat_map}
use Rattle.hose_io.specs.steps.Gather.{IsAdded}
use Rattle.hose_proto.specs.ReplyText.{line_of}
use Rattle.hose_cert.specs.steps.Written.{use_text}
use Rattle.hose_cert.proofs.writing.add_uses.Given as goal

abbrev pub invariant-loop-pair : goal.invariant-loop-pair
invariant-loop-pair g l =
    IsAdded g.S.Sink l.fn.gather l.fn.sink l.gather l.sink (flat_map (λ pair. line_of (use_text pair)) (take l.pair-index l.pairs))
