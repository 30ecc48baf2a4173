use Rattle.std.specs.Prelude.{None}
use Rattle.cases_host.proofs.counter.CounterHostAnswers.unsent.Goals as goal

pub returns-clause-leads : goal.returns-clause-leads
returns-clause-leads c = λ from exchanges link many has. (None, tt)
