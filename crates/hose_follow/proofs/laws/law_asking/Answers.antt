use Rattle.hose_follow.proofs.Asking.{asked_same, not_zero, spells_none}
use Rattle.hose_follow.proofs.laws.law_asking.Goals as goal

pub returns-clause-brings_none : goal.returns-clause-brings_none
returns-clause-brings_none g c = λ store packet none. spells_none g.D.Disk store packet none

pub returns-clause-zero : goal.returns-clause-zero
returns-clause-zero g c = λ entry spells. not_zero entry spells

pub returns-clause-same : goal.returns-clause-same
returns-clause-same g c = λ store left packet answer none offered. asked_same g.D.Disk store left packet answer none offered
