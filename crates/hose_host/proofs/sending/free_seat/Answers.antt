use Rattle.std.proofs.Common.{true}
use Rattle.std.proofs.Common.{refl}
use Rattle.hose_host.specs.steps.Keeping.{at}
use Rattle.hose_host.specs.steps.Seats.{Finished, Freed, Gone, Keeping, Quiet}
use Rattle.hose_host.proofs.Keepings.{finished_lost, keeps_from, keeps_same, keeps_still, keeps_then}
use Rattle.hose_host.proofs.sending.free_seat.Goals as goal

pub returns-then-is_lost-clause-keeps : goal.returns-then-is_lost-clause-keeps
returns-then-is_lost-clause-keeps g c =
    let seat = c.args.seat.now in
    keeps_same g.N.Connections g.A.HostAnswers c.args.heard Gone (Finished true c.args.heard) c.args.place (at c.args.network.now c.args.answers.now seat seat.kept) (λ life so. finished_lost g.N.Connections g.A.HostAnswers c.args.heard _ life seat (cc (c.is_lost.ensures, c.if-is_lost.true)) (so (cc (c.is_lost.ensures, c.if-is_lost.true))))

pub returns-clause-keeps : goal.returns-clause-keeps
returns-clause-keeps g c =
    let heard = c.args.heard in
    let kept = c.args.seat.now.kept in
    let first = at c.args.network.now c.args.answers.now c.args.seat.now kept in
    let second = at c.args.network.now c.args.answers.now c.release.new.seat kept in
    let third = at c.send.new.network c.args.answers.now c.send.new.seat kept in
    let now = c.send.new.seat in
    let asked = at c.ask_if.new.network c.args.answers.now now now.kept in
    keeps_then g.N.Connections g.A.HostAnswers heard Gone (Quiet heard now.kept) (Finished true heard) c.args.place first asked (at c.let_go.new.network c.let_go.new.answers c.let_go.new.seat c.let_go.new.seat.kept)
    (keeps_still g.N.Connections g.A.HostAnswers heard Gone kept c.args.place first c.ask_if.new.network c.args.answers.now now
    (keeps_then g.N.Connections g.A.HostAnswers heard Gone (Quiet heard kept) (Quiet heard kept) c.args.place first third (at c.ask_if.new.network c.args.answers.now now kept)
    (keeps_then g.N.Connections g.A.HostAnswers heard Gone (Freed heard kept) (Quiet heard kept) c.args.place first second third (keeps_from g.N.Connections g.A.HostAnswers heard Gone (Keeping kept) (Freed heard kept) c.args.place first second (λ life so was. refl) (c.release.ensures kept)) (c.send.ensures heard kept))
    (c.ask_if.ensures heard kept)))
    (c.let_go.ensures.quiet heard)
