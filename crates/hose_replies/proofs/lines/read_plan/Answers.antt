use Rattle.hose_replies.specs.declared.head.Head.TheVariants as head
use Rattle.hose_replies.proofs.ReplyLemmas.{told_after}
use Rattle.hose_replies.proofs.lines.read_plan.Goals as goal

pub returns-clause-ok : goal.returns-clause-ok
returns-clause-ok c = let read = c.in_ok-id in told_after (head.Plan c.args.one) (read.id, (read.cost, (read.at, read.amounts))) read.ensures.ok c.plan_reply.ensures
