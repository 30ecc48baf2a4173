use Rattle.std.specs.List.{flat_map, range_with_len}
use Rattle.hose_io.specs.steps.Gather.{IsAdded}
use Rattle.hose_proto.specs.ReplyText.{line_of}
use Rattle.hose_cert.specs.Written.{block_line, numbers_of}
use Rattle.hose_cert.specs.steps.Written.{pieces_of}
use Rattle.hose_cert.proofs.writing.add_root.Given as goal

abbrev pub invariant-loop-block : goal.invariant-loop-block
invariant-loop-block g l =
    IsAdded g.S.Sink l.fn.gather l.fn.sink l.gather l.sink
    (flat_map (λ block. line_of (pieces_of l.top (block_line l.top l.root (numbers_of l.distances.most l.distances.dist.now) block))) (range_with_len 0 l.block))
