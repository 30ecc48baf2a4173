use Rattle.std.proofs.Common.{true, false}
use Rattle.std.proofs.Common.{ap}
use Rattle.std.proofs.lemmas.Bool.{false≢true}
use Rattle.hose_host.specs.steps.Keeping.{at}
use Rattle.hose_host.specs.steps.Seats.{Anyhow, AtRest, Calm, Finished, Quiet}
use Rattle.hose_host.proofs.Keepings.{finished_on, finished_rest, keeps_lost, keeps_on, keeps_same, keeps_then}
use Rattle.hose_host.proofs.sending.let_go.Goals as goal

pub returns-then-not-is_to_go-clause-calm : goal.returns-then-not-is_to_go-clause-calm
returns-then-not-is_to_go-clause-calm g c = λ heard.
    let seat = c.args.seat.now in
    keeps_same g.N.Connections g.A.HostAnswers heard (Calm heard seat.kept) (AtRest heard seat.kept) c.args.place (at c.args.network.now c.args.answers.now seat seat.kept) (λ life so. record { calm = so; gone = λ lost. absurd (false≢true (cc (lost, c.is_to_go.ensures c.if-not-is_to_go.true))) })

pub returns-then-not-is_to_go-clause-quiet : goal.returns-then-not-is_to_go-clause-quiet
returns-then-not-is_to_go-clause-quiet g c = λ heard.
    let seat = c.args.seat.now in
    keeps_same g.N.Connections g.A.HostAnswers heard (Quiet heard seat.kept) (Finished true heard) c.args.place (at c.args.network.now c.args.answers.now seat seat.kept) (λ life so. record { quiet = so; gone = λ lost. absurd (false≢true (cc (lost, c.is_to_go.ensures c.if-not-is_to_go.true))); none = λ over. absurd (false≢true (cc over)) })

pub returns-clause-calm : goal.returns-clause-calm
returns-clause-calm g c = λ heard.
    let lost = ap (λ s. s.lost) c.lose.ensures in
    let was = c.args.seat.now in
    let seat = c.lose.new.self in
    keeps_on g.N.Connections g.A.HostAnswers heard (Calm heard was.kept) (Finished false heard) (AtRest heard seat.kept) c.args.place (at c.args.network.now c.args.answers.now was was.kept) (at c.leave.new.network c.leave.new.answers seat seat.kept) (λ life so. finished_rest g.N.Connections g.A.HostAnswers heard _ life seat so)
    (keeps_then g.N.Connections g.A.HostAnswers heard (Calm heard was.kept) Anyhow (Finished false heard) c.args.place (at c.args.network.now c.args.answers.now was was.kept) (at c.args.network.now c.args.answers.now seat seat.kept) (at c.leave.new.network c.leave.new.answers seat seat.kept)
    (keeps_lost g.N.Connections g.A.HostAnswers heard (Calm heard was.kept) Anyhow c.args.place c.args.network.now c.args.answers.now was seat was.kept seat.kept lost (λ life. tt))
    (c.leave.ensures.keeps heard seat.kept))

pub returns-clause-quiet : goal.returns-clause-quiet
returns-clause-quiet g c = λ heard.
    let lost = ap (λ s. s.lost) c.lose.ensures in
    let was = c.args.seat.now in
    let seat = c.lose.new.self in
    keeps_on g.N.Connections g.A.HostAnswers heard (Quiet heard was.kept) (Finished false heard) (Finished true heard) c.args.place (at c.args.network.now c.args.answers.now was was.kept) (at c.leave.new.network c.leave.new.answers seat seat.kept) (λ life so. finished_on g.N.Connections g.A.HostAnswers heard _ _ life seat (λ over. absurd (false≢true (cc over))) so)
    (keeps_then g.N.Connections g.A.HostAnswers heard (Quiet heard was.kept) Anyhow (Finished false heard) c.args.place (at c.args.network.now c.args.answers.now was was.kept) (at c.args.network.now c.args.answers.now seat seat.kept) (at c.leave.new.network c.leave.new.answers seat seat.kept)
    (keeps_lost g.N.Connections g.A.HostAnswers heard (Quiet heard was.kept) Anyhow c.args.place c.args.network.now c.args.answers.now was seat was.kept seat.kept lost (λ life. tt))
    (c.leave.ensures.keeps heard seat.kept))
