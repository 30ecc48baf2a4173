use Rattle.hose_cert.proofs.LinesRead.{still_up_to}
use Rattle.hose_cert.proofs.reading.refuse.Goals as goal

pub returns-in_err-pass_over-clause-reads : goal.returns-in_err-pass_over-clause-reads
returns-in_err-pass_over-clause-reads g c =
    still_up_to g.S.Source c.args.lines.now c.pass_over.new.lines c.from_residual.result c.in_err-pass_over.field-0.0 c.from_residual.ensures.1 c.in_err-pass_over.ensures.reads
