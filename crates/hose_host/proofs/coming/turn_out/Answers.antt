use Rattle.std.proofs.Common.{false}
use Rattle.std.proofs.Common.{ap}
use Rattle.hose_host.specs.steps.Keeping.{at}
use Rattle.hose_host.specs.steps.Seats.{Anyhow, AtRest, Finished}
use Rattle.hose_host.proofs.Keepings.{finished_rest, keeps_lost, keeps_on, keeps_same, keeps_then}
use Rattle.hose_host.proofs.coming.turn_out.Goals as goal

pub returns-then-is_lost-clause-keeps : goal.returns-then-is_lost-clause-keeps
returns-then-is_lost-clause-keeps g c = λ heard. keeps_same g.N.Connections g.A.HostAnswers heard (AtRest heard c.args.seat.now.kept) (AtRest heard c.args.seat.now.kept) c.args.place (at c.args.network.now c.args.answers.now c.args.seat.now c.args.seat.now.kept) (λ life so. so)

pub returns-clause-keeps : goal.returns-clause-keeps
returns-clause-keeps g c = λ heard.
    let lost = ap (λ s. s.lost) c.lose.ensures in
    let was = c.args.seat.now in
    let seat = c.lose.new.self in
    keeps_on g.N.Connections g.A.HostAnswers heard (AtRest heard was.kept) (Finished false heard) (AtRest heard seat.kept) c.args.place (at c.args.network.now c.args.answers.now was was.kept) (at c.leave.new.network c.leave.new.answers seat seat.kept) (λ life so. finished_rest g.N.Connections g.A.HostAnswers heard _ life seat so)
    (keeps_then g.N.Connections g.A.HostAnswers heard (AtRest heard was.kept) Anyhow (Finished false heard) c.args.place (at c.args.network.now c.args.answers.now was was.kept) (at c.args.network.now c.args.answers.now seat seat.kept) (at c.leave.new.network c.leave.new.answers seat seat.kept)
    (keeps_lost g.N.Connections g.A.HostAnswers heard (AtRest heard was.kept) Anyhow c.args.place c.args.network.now c.args.answers.now was seat was.kept seat.kept lost (λ life. tt))
    (c.leave.ensures.keeps heard seat.kept))
