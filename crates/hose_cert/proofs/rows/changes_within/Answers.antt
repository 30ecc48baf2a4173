use Rattle.hose_cert.proofs.Changing.{first_fails, second_tells}
use Rattle.hose_cert.proofs.rows.changes_within.Goals as goal

pub returns-then-a-b : goal.returns-then-a-b
returns-then-a-b c = second_tells c.args.top.now c.args.link c.args.row.now c.link-link.result c.link-link.ensures.value c.if-a-b.true

pub returns-else-a-b : goal.returns-else-a-b
returns-else-a-b c = first_fails c.args.top.now c.args.link c.args.row.now c.link-link.result c.link-link.ensures.value c.if-a-b.false
