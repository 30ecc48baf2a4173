use Rattle.hose_host.specs.steps.Keeping.{at}
use Rattle.hose_host.specs.steps.Seats.{Calm, Freed}
use Rattle.hose_host.proofs.Keepings.{keeps_then}
use Rattle.hose_host.proofs.serving.read.Goals as goal

pub returns-clause-keeps : goal.returns-clause-keeps
returns-clause-keeps g c =
    let heard = c.args.heard in
    let was = c.args.seat.now in
    let mid = c.take_turn.new.seat in
    let now = c.end_turn.new.seat in
    keeps_then g.N.Connections g.A.HostAnswers heard (Calm heard was.kept) (Freed heard mid.kept) (Calm heard now.kept) c.args.place (at c.args.network.now c.args.answers.now was was.kept) (at c.take_turn.new.network c.take_turn.new.answers mid mid.kept) (at c.end_turn.new.network c.take_turn.new.answers now now.kept)
    c.take_turn.ensures.keeps (c.end_turn.ensures heard)
