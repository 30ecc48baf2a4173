use Rattle.std.proofs.Common.{true}
use Rattle.std.proofs.Common.{◌+◌, ◌∙◌, arith}
use Rattle.hose_host.specs.steps.Keeping.{hall}
use Rattle.hose_host.specs.steps.Seats.{AllFinished, FreedBelow}
use Rattle.hose_host.proofs.Keepings.{all_then, all_weaker}
use Rattle.hose_host.proofs.sending.free_all.Goals as goal

pub returns-clause-keeps : goal.returns-clause-keeps
returns-clause-keeps g c = all_then g.N.Connections g.A.HostAnswers (FreedBelow 0) (FreedBelow c.loop-place.place) (AllFinished true) (hall c.args.network.now c.args.answers.now c.args.seats.now.items c.args.heard) (hall c.loop-place.network c.loop-place.answers c.loop-place.seats.items c.args.heard) (hall c.loop-place.network c.loop-place.answers c.loop-place.seats.items c.args.heard) c.loop-place.invariant.keeps
    (all_weaker g.N.Connections g.A.HostAnswers c.args.heard (FreedBelow c.loop-place.place) (AllFinished true) c.loop-place.network c.loop-place.answers c.loop-place.seats.items (λ place life seat below so. so.1 (search (arith, below, c.loop-place.invariant.same))))

pub loop-place-preserved : goal.loop-place-preserved
loop-place-preserved g c = record {
  keeps = all_then g.N.Connections g.A.HostAnswers (FreedBelow 0) (FreedBelow c.loop-place.place) (FreedBelow (c.loop-place.place + 1)) (hall c.args.network.now c.args.answers.now c.args.seats.now.items c.args.heard) (hall c.loop-place.network c.loop-place.answers c.loop-place.seats.items c.args.heard) (hall c.free_at.new.network c.free_at.new.answers c.free_at.new.seats.items c.args.heard) c.loop-place.invariant.keeps c.free_at.ensures.keeps;
  same = c.free_at.ensures.same ∙ c.loop-place.invariant.same;
  ends = c.free_at.ensures.ends ∙ c.loop-place.invariant.ends;
  fits = c.free_at.ensures.fits;
}
