use Rattle.std.proofs.Common.{refl}
use Rattle.hose_replies.specs.declared.head.Head.TheVariants as head
use Rattle.hose_replies.proofs.ReplyLemmas.{told_after}
use Rattle.hose_replies.proofs.lines.read_too_many.Goals as goal

pub returns-clause-ok : goal.returns-clause-ok
returns-clause-ok c = told_after head.Too (c.in_ok-at.at, tt) c.in_ok-at.ensures.ok refl
