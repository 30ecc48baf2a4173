use Rattle.hose_outside.proofs.fault.Fault.put.Goals as goal

pub returns-in-Damaged-clause-put : goal.returns-in-Damaged-clause-put
returns-in-Damaged-clause-put g c = rw c.in-Damaged.is c.put_numbered-in-Damaged.ensures
