use Rattle.std.proofs.Common.{refl}
use Rattle.hose_replies.specs.declared.head.Head.TheVariants as head
use Rattle.hose_replies.proofs.ReplyLemmas.{told_after}
use Rattle.hose_replies.proofs.lines.read_bad.Goals as goal

pub returns-clause-ok : goal.returns-clause-ok
returns-clause-ok c = told_after head.Bad (c.in_ok-word.word, tt) c.in_ok-word.ensures.ok refl
