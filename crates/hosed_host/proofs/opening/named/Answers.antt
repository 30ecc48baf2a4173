use Rattle.hosed_host.proofs.opening.named.Goals as goal

pub returns : goal.returns
returns c = λ operators same. record { bound = c.in-Some.opening.bound; opens = c.in-Some.ensures.some; guards = c.rule_for.ensures operators same }
