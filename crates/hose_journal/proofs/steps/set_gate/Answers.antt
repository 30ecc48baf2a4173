use Rattle.hose_journal.specs.steps.Gates.{IsDoubtful}
use Rattle.hose_journal.proofs.Runs.{now_too, weaker}
use Rattle.hose_journal.proofs.Gates.{gate_keeps, gate_lands}
use Rattle.hose_journal.proofs.steps.set_gate.Goals as goal

pub returns-in_err-put-clause-any_moment : goal.returns-in_err-put-clause-any_moment
returns-in_err-put-clause-any_moment g c = λ before bytes at staged.
    weaker g.D.Disk c.args.disk.now c.put.new.disk _ (IsDoubtful before bytes) (gate_keeps g.D.Disk c.args.disk.now c.put.new.disk c.args.gate before bytes at staged) c.put.ensures.any_moment

pub returns-in_err-put-clause-torn : goal.returns-in_err-put-clause-torn
returns-in_err-put-clause-torn g c = now_too g.D.Disk c.args.disk.now c.put.new.disk _ (g.met.D.Disk.counts_now c.put.new.disk) c.put.ensures.any_moment

pub returns-clause-torn : goal.returns-clause-torn
returns-clause-torn g c = now_too g.D.Disk c.args.disk.now c.put.new.disk _ (g.met.D.Disk.counts_now c.put.new.disk) c.put.ensures.any_moment

pub returns-clause-any_moment : goal.returns-clause-any_moment
returns-clause-any_moment g c = λ before bytes at staged.
    weaker g.D.Disk c.args.disk.now c.put.new.disk _ (IsDoubtful before bytes) (gate_keeps g.D.Disk c.args.disk.now c.put.new.disk c.args.gate before bytes at staged) c.put.ensures.any_moment

pub returns-clause-set : goal.returns-clause-set
returns-clause-set g c = λ before bytes at staged.
    gate_lands g.D.Disk c.args.disk.now c.put.new.disk c.args.gate c.args.value before bytes at staged c.in_ok-put.ensures.landed
