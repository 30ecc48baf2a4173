use Rattle.std.proofs.Common.{[], ◌∷◌, codes, decimal}
use Rattle.hose_proto.specs.ReplyText.{spaced}
use Rattle.hose_proto.proofs.Spacing.{added_after, added_last}
use Rattle.hose_proto.proofs.reply_text.add_stale.Goals as goal

pub returns : goal.returns
returns g c network =
    added_after (codes "stale ") (decimal c.args.seen) (spaced (decimal c.args.now ∷ [])) c.add_numbered.ensures (added_last (codes " ") (decimal c.args.now) c.add_numbered-2.ensures)
