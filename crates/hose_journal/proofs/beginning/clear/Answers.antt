use Rattle.hose_journal.proofs.Beginnings.{cleared_run}
use Rattle.hose_journal.proofs.beginning.clear.Goals as goal

pub returns-in_err-put-clause-any_moment : goal.returns-in_err-put-clause-any_moment
returns-in_err-put-clause-any_moment g c = cleared_run g.D.Disk c.args.disk.now c.empty.new.disk c.put.new.disk c.empty.ensures.any_moment c.in_ok-empty.ensures.emptied c.put.ensures.any_moment

pub returns-clause-any_moment : goal.returns-clause-any_moment
returns-clause-any_moment g c = cleared_run g.D.Disk c.args.disk.now c.empty.new.disk c.put.new.disk c.empty.ensures.any_moment c.in_ok-empty.ensures.emptied c.put.ensures.any_moment
