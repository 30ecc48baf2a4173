use Rattle.hose_host.specs.steps.Keeping.{at}
use Rattle.hose_host.specs.steps.Seats.{AtRest, Calm}
use Rattle.hose_host.proofs.Keepings.{keeps_from, keeps_then}
use Rattle.hose_host.proofs.serving.serve.Goals as goal

pub returns-clause-keeps : goal.returns-clause-keeps
returns-clause-keeps g c =
    let heard = c.args.heard in
    let was = c.args.seat.now in
    let sent = c.send_due.new.seat in
    let told = c.read.new.seat in
    let now = c.let_go.new.seat in
    let first = at c.args.network.now c.args.answers.now was was.kept in
    let second = at c.send_due.new.network c.args.answers.now sent sent.kept in
    let third = at c.read.new.network c.read.new.answers told told.kept in
    keeps_then g.N.Connections g.A.HostAnswers heard (AtRest heard was.kept) (Calm heard told.kept) (AtRest heard now.kept) c.args.place first third (at c.let_go.new.network c.let_go.new.answers now now.kept)
    (keeps_then g.N.Connections g.A.HostAnswers heard (AtRest heard was.kept) (Calm heard sent.kept) (Calm heard told.kept) c.args.place first second third
    (keeps_from g.N.Connections g.A.HostAnswers heard (AtRest heard was.kept) (Calm heard was.kept) (Calm heard sent.kept) c.args.place first second (λ life so. so.calm) (c.send_due.ensures heard)) c.read.ensures.keeps)
    (c.let_go.ensures.calm heard)
