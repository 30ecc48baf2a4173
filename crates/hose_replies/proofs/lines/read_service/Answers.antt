use Rattle.hose_replies.specs.declared.head.Head.TheVariants as head
use Rattle.hose_replies.proofs.ReplyLemmas.{told_after}
use Rattle.hose_replies.proofs.lines.read_service.Goals as goal

pub returns-clause-ok : goal.returns-clause-ok
returns-clause-ok c = let read = c.in_ok-link in told_after (head.Service c.args.one) (read.link, (read.at, tt)) read.ensures.ok c.service_reply.ensures
