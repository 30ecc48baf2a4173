use Rattle.hose_journal.specs.Moments.{LeavesOnly}
use Rattle.hose_journal.specs.Opening.{HasNoRecord}
use Rattle.hose_journal.proofs.Beginnings.{cleared_then, gate_moments, head_moments}
use Rattle.hose_journal.proofs.beginning.begin.Goals.{After-put-2}
use Rattle.hose_journal.proofs.beginning.begin.Goals as goal

pub returns-in_err-put-clause-any_moment : goal.returns-in_err-put-clause-any_moment
returns-in_err-put-clause-any_moment g c =
    cleared_then g.D.Disk c.args.disk.now c.clear.new.disk c.put.new.disk c.args.digest.now c.clear.ensures.any_moment
    (head_moments g.D.Disk c.clear.new.disk c.put.new.disk c.args.digest.now c.head_bytes-bytes.result c.told-digest c.head_bytes-bytes.ensures c.in_ok-clear.ensures.cleared c.put.ensures.any_moment)

-- up to the write of the gate
begun : (g : _) (c : After-put-2 g) → LeavesOnly g.D.Disk c.args.disk.now c.put-2.new.disk (HasNoRecord c.args.digest.now)
begun g c =
    cleared_then g.D.Disk c.args.disk.now c.clear.new.disk c.put-2.new.disk c.args.digest.now c.clear.ensures.any_moment
    (gate_moments g.D.Disk c.clear.new.disk c.put.new.disk c.args.digest.now c.head_bytes-bytes.result c.told-digest c.head_bytes-bytes.ensures c.in_ok-clear.ensures.cleared c.put.ensures.any_moment
    c.put-2.new.disk c.in_ok-put.ensures.landed c.put-2.ensures.any_moment)

pub returns-in_err-put-2-clause-any_moment : goal.returns-in_err-put-2-clause-any_moment
returns-in_err-put-2-clause-any_moment g c = begun g (goal.at.returns-in_err-put-2-clause-any_moment g c).After-put-2

pub returns-clause-any_moment : goal.returns-clause-any_moment
returns-clause-any_moment g c = begun g (goal.at.returns-clause-any_moment g c).After-put-2
