use Rattle.hose_replies.specs.declared.head.Head.TheVariants as head
use Rattle.hose_replies.proofs.ReplyLemmas.{told_after}
use Rattle.hose_replies.proofs.lines.read_epoch.Goals as goal

pub returns-clause-ok : goal.returns-clause-ok
returns-clause-ok c = told_after (head.Epoch c.args.one) (c.in_ok-at.at, tt) c.in_ok-at.ensures.ok c.epoch_reply.ensures
