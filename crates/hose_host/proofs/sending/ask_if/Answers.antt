use Rattle.hose_host.specs.steps.Keeping.{at}
use Rattle.hose_host.specs.steps.Seats.{Quiet}
use Rattle.hose_host.proofs.Keepings.{keeps_quiet, keeps_same}
use Rattle.hose_host.proofs.sending.ask_if.Goals as goal

pub returns-then-full : goal.returns-then-full
returns-then-full g c = λ heard kept. keeps_quiet g.N.Connections g.A.HostAnswers heard (Quiet heard kept) c.args.place c.args.network.now c.ask_again.new.self c.args._answers.now c.args._seat.now kept c.ask_again.ensures

pub returns-else-full : goal.returns-else-full
returns-else-full g c = λ heard kept. keeps_same g.N.Connections g.A.HostAnswers heard (Quiet heard kept) (Quiet heard kept) c.args.place (at c.args.network.now c.args._answers.now c.args._seat.now kept) (λ life so. so)
