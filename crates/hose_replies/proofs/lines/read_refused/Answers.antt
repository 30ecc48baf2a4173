use Rattle.std.proofs.Common.{refl}
use Rattle.hose_replies.specs.declared.head.Head.TheVariants as head
use Rattle.hose_replies.proofs.ReplyLemmas.{told_after}
use Rattle.hose_replies.proofs.lines.read_refused.Goals as goal

pub returns-clause-ok : goal.returns-clause-ok
returns-clause-ok c = let read = c.in_ok-at in told_after head.Refused (read.at, read.side) read.ensures.ok refl
