use Rattle.std.proofs.Common.{None, Some, Ok, Err}
use Rattle.hose_cert.proofs.LinesRead.{has_all, has_more, has_none, has_refused, still_up_to, up_to_taken, up_to_then}
use Rattle.hose_cert.proofs.reading.read_text.Goals as goal

pub loop-more-init : goal.loop-more-init
loop-more-init g c = has_none g.S.Source c.args.top.now c.args.lines.now

pub returns-in_err-more-clause-reads : goal.returns-in_err-more-clause-reads
returns-in_err-more-clause-reads g c =
    let l = c.loop-more in
    let met = c.in_err-more.field-0.0 in
    still_up_to g.S.Source c.args.lines.now c.take_next.new.lines c.from_residual.result met c.from_residual.ensures.1
    (up_to_then g.S.Source c.args.lines.now l.lines c.take_next.new.lines (Some met) l.invariant.up_to (up_to_taken g.S.Source c.args.top.now l.draft l.lines c.take_next.new.lines (Err met) c.in_err-more.ensures))

pub loop-more-preserved : goal.loop-more-preserved
loop-more-preserved g c =
    let l = c.loop-more in
    has_more g.S.Source c.args.top.now c.nodes-nodes.ensures.network c.args.lines.now l.lines c.take_next.new.lines l.draft l.invariant c.in-More.more (rw c.in-More.is at c.in_ok-more.ensures)

pub returns-in-Refused-clause-text : goal.returns-in-Refused-clause-text
returns-in-Refused-clause-text g c =
    let l = c.loop-more in
    has_refused g.S.Source c.args.top.now c.nodes-nodes.ensures.network c.args.lines.now l.lines c.take_next.new.lines l.draft l.invariant (rw c.in-Refused.is at c.in_ok-more.ensures)

pub returns-in-Refused-clause-reads : goal.returns-in-Refused-clause-reads
returns-in-Refused-clause-reads g c =
    let l = c.loop-more in
    up_to_then g.S.Source c.args.lines.now l.lines c.take_next.new.lines None l.invariant.up_to
    (up_to_taken g.S.Source c.args.top.now l.draft l.lines c.take_next.new.lines (Ok c.in_ok-more.field-0) c.in_ok-more.ensures)

pub returns-in-Over-clause-text : goal.returns-in-Over-clause-text
returns-in-Over-clause-text g c =
    let l = c.loop-more in
    has_all g.S.Source c.args.top.now c.nodes-nodes.ensures.network c.args.lines.now l.lines c.take_next.new.lines l.draft l.invariant c.in-Over.last c.whole.result
    (rw c.in-Over.is at c.in_ok-more.ensures) c.whole.ensures

pub returns-in-Over-clause-reads : goal.returns-in-Over-clause-reads
returns-in-Over-clause-reads g c =
    let l = c.loop-more in
    up_to_then g.S.Source c.args.lines.now l.lines c.take_next.new.lines None l.invariant.up_to
    (up_to_taken g.S.Source c.args.top.now l.draft l.lines c.take_next.new.lines (Ok c.in_ok-more.field-0) c.in_ok-more.ensures)
