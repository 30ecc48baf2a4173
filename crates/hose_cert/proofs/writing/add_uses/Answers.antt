use Rattle.std.proofs.Common.{ℕ, [], arith}
use Rattle.hose_io.proofs.Gathering.{IsAdded-item}
use Rattle.hose_proto.specs.ReplyText.{line_of}
use Rattle.hose_cert.specs.steps.Written.{use_text}
use Rattle.hose_cert.proofs.writing.add_uses.Goals as goal

pub loop-pair-preserved : goal.loop-pair-preserved
loop-pair-preserved g c =
    IsAdded-item [] (λ (pair : ℕ × ℕ). line_of (use_text pair)) c.args.pairs.now c.loop-pair.pair-index (0, 0) (omega arith) c.loop-pair.invariant c.add_use.ensures
