use Rattle.hose_host.specs.steps.Keeping.{at}
use Rattle.hose_host.specs.steps.Seats.{Calm, Freed, Quiet}
use Rattle.hose_host.proofs.Keepings.{keeps_calm, keeps_from, keeps_same}
use Rattle.hose_host.proofs.serving.send_due.Goals as goal

pub returns-then-size-lt-OUTPUT : goal.returns-then-size-lt-OUTPUT
returns-then-size-lt-OUTPUT g c = λ heard.
    let seat = c.args.seat.now in
    keeps_same g.N.Connections g.A.HostAnswers heard (Calm heard seat.kept) (Calm heard seat.kept) c.args.place (at c.args.network.now c.args.answers.now seat seat.kept) (λ life so. so)

pub returns : goal.returns
returns g c = λ heard.
    let kept = c.args.seat.now.kept in
    let first = at c.args.network.now c.args.answers.now c.args.seat.now kept in
    keeps_calm g.N.Connections g.A.HostAnswers heard (Calm heard kept) kept c.args.place first c.send.new.network c.args.answers.now c.send.new.seat
    (keeps_from g.N.Connections g.A.HostAnswers heard (Calm heard kept) (Freed heard kept) (Quiet heard kept) c.args.place first (at c.send.new.network c.args.answers.now c.send.new.seat kept) (λ life so. so.freed) (c.send.ensures heard kept))
