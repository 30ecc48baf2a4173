use Rattle.hose_host.specs.steps.Keeping.{at}
use Rattle.hose_host.specs.steps.Seats.{Quiet}
use Rattle.hose_host.proofs.Keepings.{keeps_quiet, keeps_same}
use Rattle.hose_host.proofs.serving.ask_for_rest.Goals as goal

pub returns-then-goes_on : goal.returns-then-goes_on
returns-then-goes_on g c = λ heard kept. keeps_quiet g.N.Connections g.A.HostAnswers heard (Quiet heard kept) c.args.place c.args.network.now c.ask_again.new.self c.args.answers.now c.args.seat.now kept c.ask_again.ensures

pub returns-else-goes_on : goal.returns-else-goes_on
returns-else-goes_on g c = λ heard kept. keeps_same g.N.Connections g.A.HostAnswers heard (Quiet heard kept) (Quiet heard kept) c.args.place (at c.args.network.now c.args.answers.now c.args.seat.now kept) (λ life so. so)
