use Rattle.std.proofs.Common.{None, Some, Ok, Err}
use Rattle.hose_cert.proofs.LinesRead.{still_up_to, up_to_passed, up_to_start, up_to_then}
use Rattle.hose_cert.proofs.reading.pass_over.Goals as goal

pub loop-init : goal.loop-init
loop-init g c = up_to_start g.S.Source c.args.lines.now

pub returns-in_err-pass_one-clause-reads : goal.returns-in_err-pass_one-clause-reads
returns-in_err-pass_one-clause-reads g c =
    let met = c.in_err-pass_one.field-0.0 in
    still_up_to g.S.Source c.args.lines.now c.pass_one.new.lines c.from_residual.result met c.from_residual.ensures.1
    (up_to_then g.S.Source c.args.lines.now c.loop.lines c.pass_one.new.lines (Some met) c.loop.invariant (up_to_passed g.S.Source c.loop.lines c.pass_one.new.lines (Err met) c.in_err-pass_one.ensures))

pub loop-preserved : goal.loop-preserved
loop-preserved g c =
    up_to_then g.S.Source c.args.lines.now c.loop.lines c.pass_one.new.lines None c.loop.invariant
    (up_to_passed g.S.Source c.loop.lines c.pass_one.new.lines (Ok c.in_ok-pass_one.field-0) c.in_ok-pass_one.ensures)

pub returns-clause-reads : goal.returns-clause-reads
returns-clause-reads g c =
    up_to_then g.S.Source c.args.lines.now c.loop.lines c.pass_one.new.lines None c.loop.invariant
    (up_to_passed g.S.Source c.loop.lines c.pass_one.new.lines (Ok c.in_ok-pass_one.field-0) c.in_ok-pass_one.ensures)
