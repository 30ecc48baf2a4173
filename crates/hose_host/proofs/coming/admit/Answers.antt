use Rattle.hose_host.specs.steps.Keeping.{at}
use Rattle.hose_host.specs.steps.Seats.{AtRest}
use Rattle.hose_host.proofs.Keepings.{keeps_came, keeps_known, keeps_quiet, keeps_then}
use Rattle.hose_host.proofs.coming.admit.Goals as goal

pub returns-in_default-clause-keeps : goal.returns-in_default-clause-keeps
returns-in_default-clause-keeps g c = λ heard.
    let seat = c.args.seat.now in
    let rest = AtRest heard seat.kept in
    keeps_then g.N.Connections g.A.HostAnswers heard rest rest rest c.args.place (at c.args.network.now c.args.answers.now seat seat.kept) (at c.args.network.now c.begin.new.self seat seat.kept) (at c.put_off.new.self c.begin.new.self seat seat.kept)
    (keeps_known g.N.Connections g.A.HostAnswers heard rest c.args.place c.args.network.now c.args.answers.now c.begin.new.self seat seat.kept (λ life so. so.gone c.requires.lost) c.begin.ensures.others c.begin.ensures.comes c.begin.ensures.about c.begin.ensures.count c.begin.ensures.waits)
    (keeps_quiet g.N.Connections g.A.HostAnswers heard rest c.args.place c.args.network.now c.put_off.new.self c.begin.new.self seat seat.kept c.put_off.ensures)

pub returns-then-not-accept-clause-keeps : goal.returns-then-not-accept-clause-keeps
returns-then-not-accept-clause-keeps g c = λ heard.
    let seat = c.args.seat.now in
    let rest = AtRest heard seat.kept in
    keeps_then g.N.Connections g.A.HostAnswers heard rest rest rest c.args.place (at c.args.network.now c.args.answers.now seat seat.kept) (at c.accept.new.self c.begin.new.self seat seat.kept) (at c.accept.new.self c.leave.new.self seat seat.kept)
    (keeps_then g.N.Connections g.A.HostAnswers heard rest rest rest c.args.place (at c.args.network.now c.args.answers.now seat seat.kept) (at c.args.network.now c.begin.new.self seat seat.kept) (at c.accept.new.self c.begin.new.self seat seat.kept)
    (keeps_known g.N.Connections g.A.HostAnswers heard rest c.args.place c.args.network.now c.args.answers.now c.begin.new.self seat seat.kept (λ life so. so.gone c.requires.lost) c.begin.ensures.others c.begin.ensures.comes c.begin.ensures.about c.begin.ensures.count c.begin.ensures.waits)
    (keeps_quiet g.N.Connections g.A.HostAnswers heard rest c.args.place c.args.network.now c.accept.new.self c.begin.new.self seat seat.kept (rw c.if-not-accept.true at c.accept.ensures)))
    (keeps_known g.N.Connections g.A.HostAnswers heard rest c.args.place c.accept.new.self c.begin.new.self c.leave.new.self seat seat.kept (λ life so. so.gone c.requires.lost) c.leave.ensures.others c.leave.ensures.comes c.leave.ensures.about c.leave.ensures.count c.leave.ensures.waits)

pub returns-clause-keeps : goal.returns-clause-keeps
returns-clause-keeps g c = λ heard.
    let seat = c.args.seat.now in
    let new = c.new.result in
    let rest = AtRest heard seat.kept in
    keeps_then g.N.Connections g.A.HostAnswers heard rest rest (AtRest heard new.kept) c.args.place (at c.args.network.now c.args.answers.now seat seat.kept) (at c.args.network.now c.begin.new.self seat seat.kept) (at c.accept.new.self c.begin.new.self new new.kept)
    (keeps_known g.N.Connections g.A.HostAnswers heard rest c.args.place c.args.network.now c.args.answers.now c.begin.new.self seat seat.kept (λ life so. so.gone c.requires.lost) c.begin.ensures.others c.begin.ensures.comes c.begin.ensures.about c.begin.ensures.count c.begin.ensures.waits)
    (keeps_came g.N.Connections g.A.HostAnswers heard c.args.door c.args.place c.args.network.now c.accept.new.self c.begin.new.self seat new c.requires.lost c.in-Ok.ensures.begins.0 (rw c.if-not-accept.false at c.accept.ensures) c.new.ensures)
