use Rattle.std.proofs.Common.{[], ◌∷◌, length, length-append, ap, arith}
use Rattle.hose_proto.specs.ReplyText.{reply_text}
use Rattle.hose_io.proofs.Gathering.{IsAdded-next, IsPut-finished, one_piece-finished}
use Rattle.hose_proto.proofs.reply_text.put_reply.Goals as goal

pub returns : goal.returns
returns g c =
    let added = rw c.new-gather.ensures at (IsAdded-next c.add_reply.ensures c.add.ensures) in
    record {
      put = IsPut-finished c.finish.result added c.finish.ensures;
      one_piece = λ fits. one_piece-finished c.finish.result added c.finish.ensures (λ none. absurd (omega (arith, ap length none, length-append (reply_text c.args.top.now c.args.reply.now) (10 ∷ [])))) fits;
    }
