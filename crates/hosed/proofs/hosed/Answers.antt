use Rattle.hosed.proofs.hosed.Goals as goal

pub returns-clause-outcome : goal.returns-clause-outcome
returns-clause-outcome g c = rw c.status.ensures c.hosed_ended.ensures.outcome
