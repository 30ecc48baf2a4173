use Rattle.hose_replies.specs.declared.head.Head.TheVariants as head
use Rattle.hose_replies.proofs.ReplyLemmas.{told_after}
use Rattle.hose_replies.proofs.lines.read_lone.Goals as goal

pub returns-clause-ok : goal.returns-clause-ok
returns-clause-ok c = told_after (head.Lone c.args.one) tt c.in_ok-read.ensures.ok c.lone_reply.ensures
