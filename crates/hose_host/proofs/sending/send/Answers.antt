use Rattle.hose_host.specs.steps.Keeping.{at}
use Rattle.hose_host.specs.steps.Seats.{Freed, Quiet}
use Rattle.hose_host.proofs.Keepings.{keeps_then}
use Rattle.hose_host.proofs.sending.send.Goals as goal

pub loop-preserved : goal.loop-preserved
loop-preserved g c = λ heard kept. keeps_then g.N.Connections g.A.HostAnswers heard (Freed heard kept) (Freed heard kept) (Freed heard kept) c.args.place (at c.args.network.now c.args.answers.now c.args.seat.now kept) (at c.loop.network c.args.answers.now c.loop.seat kept) (at c.send_piece.new.network c.args.answers.now c.send_piece.new.seat kept) (c.loop.invariant heard kept) (rw c.loop-test.true at (c.send_piece.ensures.keeps heard kept))

pub returns : goal.returns
returns g c = λ heard kept. keeps_then g.N.Connections g.A.HostAnswers heard (Freed heard kept) (Freed heard kept) (Quiet heard kept) c.args.place (at c.args.network.now c.args.answers.now c.args.seat.now kept) (at c.loop.network c.args.answers.now c.loop.seat kept) (at c.send_piece.new.network c.args.answers.now c.send_piece.new.seat kept) (c.loop.invariant heard kept) (rw c.loop-test.false at (c.send_piece.ensures.keeps heard kept))
