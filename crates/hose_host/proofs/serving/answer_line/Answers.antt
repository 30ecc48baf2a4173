use Rattle.std.proofs.Common.{subst}
use Rattle.hose_host.specs.steps.Seats.{IsSaid, SeatState}
use Rattle.hose_host.proofs.Keepings.{keeps_answered}
use Rattle.hose_host.proofs.serving.answer_line.Goals as goal

pub returns-clause-keeps : goal.returns-clause-keeps
returns-clause-keeps g c = λ coming.
    let same = c.answer-reply.ensures.about in
    keeps_answered g.N.Connections g.A.HostAnswers c.args.heard c.args.place c.args._network.now c.args.answers.now c.answer-reply.new.self c.args.seat.now c.put_reply.new.seat coming c.line.result c.answer-reply.result (cc (c.is_lost.ensures, c.if-is_lost.false)) c.line.ensures (rw c.door.ensures at c.answer-reply.ensures.answers) c.requires.now c.answer-reply.ensures.rises c.answer-reply.ensures.known c.answer-reply.ensures.others same
    (λ open_still. subst (λ (seat : SeatState). IsSaid c.args.heard (g.A.HostAnswers.count c.answer-reply.new.self) (g.A.HostAnswers.text (g.A.HostAnswers.about c.args.answers.now) c.answer-reply.result) seat c.put_reply.new.seat) c.clear_line.ensures
    (subst (λ (topic : g.A.HostAnswers.subject). IsSaid c.args.heard (g.A.HostAnswers.count c.answer-reply.new.self) (g.A.HostAnswers.text topic c.answer-reply.result) c.clear_line.new.self c.put_reply.new.seat) same (c.put_reply.ensures open_still)))
