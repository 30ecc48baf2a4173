use Rattle.std.proofs.Common.{refl}
use Rattle.hose_replies.specs.declared.head.Head.TheVariants as head
use Rattle.hose_replies.proofs.ReplyLemmas.{told_after}
use Rattle.hose_replies.proofs.lines.read_shown.Goals as goal

pub returns-clause-ok : goal.returns-clause-ok
returns-clause-ok c = let read = c.in_ok-id in told_after head.Vpn (read.id, (read.cost, (read.at, (read.hose, read.amounts)))) read.ensures.ok refl
