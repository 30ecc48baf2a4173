use Rattle.hose_host.specs.steps.Keeping.{at}
use Rattle.hose_host.specs.steps.Seats.{Freed, Keeping}
use Rattle.hose_host.proofs.Keepings.{keeps_then}
use Rattle.hose_host.proofs.sending.release.Goals as goal

pub loop-preserved : goal.loop-preserved
loop-preserved g c = λ kept. keeps_then g.N.Connections g.A.HostAnswers c.args.heard (Keeping kept) (Keeping kept) (Keeping kept) c.args.place (at c.args.network.now c.args.answers.now c.args.seat.now kept) (at c.args.network.now c.args.answers.now c.loop.seat kept) (at c.args.network.now c.args.answers.now c.release_one.new.seat kept) (c.loop.invariant kept) (rw c.loop-test.true at (c.release_one.ensures.keeps kept))

pub returns : goal.returns
returns g c = λ kept. keeps_then g.N.Connections g.A.HostAnswers c.args.heard (Keeping kept) (Keeping kept) (Freed c.args.heard kept) c.args.place (at c.args.network.now c.args.answers.now c.args.seat.now kept) (at c.args.network.now c.args.answers.now c.loop.seat kept) (at c.args.network.now c.args.answers.now c.release_one.new.seat kept) (c.loop.invariant kept) (rw c.loop-test.false at (c.release_one.ensures.keeps kept))
