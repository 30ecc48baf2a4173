use Rattle.std.proofs.Common.{ℕ, ◌++◌, [], arith, codes, decimal}
use Rattle.hose_io.proofs.Gathering.{IsAdded-item}
use Rattle.hose_proto.proofs.reply_text.add_ids.Goals as goal

pub loop-id-preserved : goal.loop-id-preserved
loop-id-preserved g c =
    IsAdded-item [] (λ (id : ℕ). codes " " ++ decimal id) c.args.ids.now c.loop-id.id-index 0 (omega arith) c.loop-id.invariant c.add_numbered.ensures
