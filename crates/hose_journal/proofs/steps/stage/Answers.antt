use Rattle.std.proofs.Common.{length}
use Rattle.hose_journal.specs.Image.{IsClosed}
use Rattle.hose_journal.proofs.Runs.{weaker}
use Rattle.hose_journal.proofs.Gates.{stage_keeps, stage_lands}
use Rattle.hose_journal.proofs.steps.stage.Goals as goal

pub returns-in_err-put-clause-any_moment : goal.returns-in_err-put-clause-any_moment
returns-in_err-put-clause-any_moment g c = λ before at closed.
    weaker g.D.Disk c.args.disk.now c.put.new.disk _ (IsClosed before) (stage_keeps g.D.Disk c.args.disk.now c.put.new.disk c.args.gate (length c.args.bytes.now) before at closed) c.put.ensures.any_moment

pub returns-clause-any_moment : goal.returns-clause-any_moment
returns-clause-any_moment g c = λ before at closed.
    weaker g.D.Disk c.args.disk.now c.put.new.disk _ (IsClosed before) (stage_keeps g.D.Disk c.args.disk.now c.put.new.disk c.args.gate (length c.args.bytes.now) before at closed) c.put.ensures.any_moment

pub returns-clause-staged : goal.returns-clause-staged
returns-clause-staged g c = λ before at closed.
    stage_lands g.D.Disk c.args.disk.now c.put.new.disk c.args.gate before c.args.bytes.now at closed c.in_ok-put.ensures.landed
