use Rattle.std.proofs.Common.{[], ◌∷◌, codes, decimal}
use Rattle.hose_proto.specs.ReplyText.{spaced}
use Rattle.hose_proto.proofs.Spacing.{added_after, added_last}
use Rattle.hose_proto.proofs.reply_text.add_at.Goals as goal

pub returns : goal.returns
returns g c =
    added_after c.args.words.now (decimal c.args.number) (spaced (codes "at" ∷ decimal c.args.at ∷ [])) c.add_numbered.ensures (added_last (codes " at ") (decimal c.args.at) c.add_numbered-2.ensures)
