use Rattle.std.proofs.Common.{ap, arith, length}
use Rattle.hose_host.specs.steps.Keeping.{at}
use Rattle.hose_host.specs.steps.Seats.{Calm, Freed, Quiet}
use Rattle.hose_host.proofs.Keepings.{keeps_calm, keeps_quiet, keeps_same, keeps_then}
use Rattle.hose_host.proofs.serving.end_turn.Goals as goal

pub returns-then-goes_on : goal.returns-then-goes_on
returns-then-goes_on g c = λ heard.
    let seat = c.args.seat.now in
    let calm = at c.args.network.now c.args.answers.now seat seat.kept in
    keeps_then g.N.Connections g.A.HostAnswers heard (Freed heard seat.kept) (Calm heard seat.kept) (Calm heard seat.kept) c.args.place calm calm (at c.ask_again.new.self c.args.answers.now seat seat.kept)
    (keeps_same g.N.Connections g.A.HostAnswers heard (Freed heard seat.kept) (Calm heard seat.kept) c.args.place calm (λ life so. record { freed = so; out = λ kept none. absurd (omega (arith, c.goes_on.ensures c.if-goes_on.true, ap length none)) }))
    (keeps_quiet g.N.Connections g.A.HostAnswers heard (Calm heard seat.kept) c.args.place c.args.network.now c.ask_again.new.self c.args.answers.now seat seat.kept c.ask_again.ensures)

pub returns : goal.returns
returns g c = λ heard.
    let kept = c.args.seat.now.kept in
    let first = at c.args.network.now c.args.answers.now c.args.seat.now kept in
    let now = c.send.new.seat in
    keeps_calm g.N.Connections g.A.HostAnswers heard (Freed heard kept) kept c.args.place first c.ask_for_rest.new.network c.args.answers.now now
    (keeps_then g.N.Connections g.A.HostAnswers heard (Freed heard kept) (Quiet heard kept) (Quiet heard kept) c.args.place first (at c.send.new.network c.args.answers.now now kept) (at c.ask_for_rest.new.network c.args.answers.now now kept)
    (c.send.ensures heard kept) (c.ask_for_rest.ensures heard kept))
