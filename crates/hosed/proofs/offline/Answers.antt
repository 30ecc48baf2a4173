use Rattle.hosed.proofs.offline.Goals as goal

pub returns-clause-outcome : goal.returns-clause-outcome
returns-clause-outcome g c = rw c.status.ensures c.offline_ended.ensures.outcome
