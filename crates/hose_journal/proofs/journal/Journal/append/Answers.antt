use Rattle.std.proofs.Common.{inr}
use Rattle.hose_journal.proofs.Accounts.{appended, settled_then}
use Rattle.hose_journal.proofs.Runs.{on_err_so, on_ok_so}
use Rattle.hose_journal.proofs.journal.Journal.append.Goals as goal

pub returns-in_err-settle-clause-any_moment : goal.returns-in_err-settle-clause-any_moment
returns-in_err-settle-clause-any_moment g c = λ account entry stands is_ready few.
    settled_then g.D.Disk account c.args.self.now.disk c.settle.new.self.disk entry (c.settle.ensures.any_moment account stands)

pub returns-clause-any_moment : goal.returns-clause-any_moment
returns-clause-any_moment g c = λ account entry stands is_ready few.
    appended g.D.Disk account c.args.self.now.disk c.settle.new.self.disk c.add_entry.new.self.disk entry (c.settle.ensures.any_moment account stands)
    (c.add_entry.ensures.any_moment account entry (c.in_ok-settle.ensures.settled account stands) is_ready few)

pub returns-clause-added : goal.returns-clause-added
returns-clause-added g c = on_ok_so c.add_entry.result c.add_entry.ensures.added (λ added account entry stands is_ready few. added account entry (c.in_ok-settle.ensures.settled account stands) is_ready few)

pub returns-clause-durable : goal.returns-clause-durable
returns-clause-durable g c = on_ok_so c.add_entry.result c.add_entry.ensures.durable (λ durable account entry stands is_ready few. durable account entry (c.in_ok-settle.ensures.settled account stands) is_ready few)

pub returns-clause-failed : goal.returns-clause-failed
returns-clause-failed g c = on_err_so c.add_entry.result c.add_entry.ensures.failed (λ failed account entry stands is_ready few. inr (failed account entry (c.in_ok-settle.ensures.settled account stands) is_ready few))
