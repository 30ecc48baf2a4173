use Rattle.std.proofs.Common.{refl}
use Rattle.hose_replies.specs.declared.head.Head.TheVariants as head
use Rattle.hose_replies.proofs.ReplyLemmas.{told_after}
use Rattle.hose_replies.proofs.lines.read_link.Goals as goal

pub returns-clause-ok : goal.returns-clause-ok
returns-clause-ok c = let read = c.in_ok-link in told_after head.Link (read.link, (read.load, (read.out, (read.at, tt)))) read.ensures.ok refl
