use Rattle.std.proofs.Common.{true}
use Rattle.hose_host.specs.steps.Keeping.{at}
use Rattle.hose_host.specs.steps.Seats.{Finished, Freed, Quiet}
use Rattle.hose_host.proofs.Keepings.{keeps_from, keeps_same, keeps_still, keeps_then}
use Rattle.hose_host.proofs.ending.write_seat.Goals as goal

pub returns-then-is_lost-clause-keeps : goal.returns-then-is_lost-clause-keeps
returns-then-is_lost-clause-keeps g c = λ heard. keeps_same g.N.Connections g.A.HostAnswers heard (Finished true heard) (Finished true heard) c.args.place (at c.args.network.now c.args.answers.now c.args.seat.now c.args.seat.now.kept) (λ life so. so)

pub returns-clause-keeps : goal.returns-clause-keeps
returns-clause-keeps g c = λ heard.
    let was = c.args.seat.now in
    let sent = c.send.new.seat in
    let first = at c.args.network.now c.args.answers.now was was.kept in
    keeps_then g.N.Connections g.A.HostAnswers heard (Finished true heard) (Quiet heard sent.kept) (Finished true heard) c.args.place first (at c.send.new.network c.args.answers.now sent sent.kept) (at c.let_go.new.network c.let_go.new.answers c.let_go.new.seat c.let_go.new.seat.kept)
    (keeps_still g.N.Connections g.A.HostAnswers heard (Finished true heard) was.kept c.args.place first c.send.new.network c.args.answers.now sent
    (keeps_from g.N.Connections g.A.HostAnswers heard (Finished true heard) (Freed heard was.kept) (Quiet heard was.kept) c.args.place first (at c.send.new.network c.args.answers.now sent was.kept) (λ life so. so.quiet.freed) (c.send.ensures heard was.kept)))
    (c.let_go.ensures.quiet heard)
