use Rattle.std.proofs.Common.{false}
use Rattle.hose_host.specs.steps.Keeping.{at}
use Rattle.hose_host.specs.steps.Seats.{Anyhow, Finished}
use Rattle.hose_host.proofs.Keepings.{keeps_known, keeps_left, keeps_then}
use Rattle.hose_host.proofs.sending.leave.Goals as goal

pub returns-clause-keeps : goal.returns-clause-keeps
returns-clause-keeps g c = λ heard coming.
    let seat = c.args.seat.now in
    keeps_then g.N.Connections g.A.HostAnswers heard Anyhow (Finished false heard) (Finished false heard) c.args.place (at c.args.network.now c.args.answers.now seat coming) (at c.close.new.self c.args.answers.now seat seat.kept) (at c.close.new.self c.leave.new.self seat seat.kept)
    (keeps_left g.N.Connections g.A.HostAnswers heard Anyhow c.args.place c.args.network.now c.close.new.self c.args.answers.now seat coming seat.kept c.requires.lost c.close.ensures)
    (keeps_known g.N.Connections g.A.HostAnswers heard (Finished false heard) c.args.place c.close.new.self c.args.answers.now c.leave.new.self seat seat.kept (λ life so. so.gone c.requires.lost) c.leave.ensures.others c.leave.ensures.comes c.leave.ensures.about c.leave.ensures.count c.leave.ensures.waits)
