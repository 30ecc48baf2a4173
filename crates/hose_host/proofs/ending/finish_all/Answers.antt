use Rattle.std.proofs.Common.{◌+◌, ◌∙◌, arith}
use Rattle.hose_host.specs.steps.Keeping.{hall}
use Rattle.hose_host.specs.steps.Seats.{AllFinished, FinishedBelow, Resting}
use Rattle.hose_host.proofs.Keepings.{all_then, all_weaker}
use Rattle.hose_host.proofs.ending.finish_all.Goals as goal

pub returns-clause-keeps : goal.returns-clause-keeps
returns-clause-keeps g c =
    let was = g.A.HostAnswers.ends c.args.answers.now in
    let now = g.A.HostAnswers.ends c.loop-place.answers in
    let first = hall c.args.network.now c.args.answers.now c.args.seats.now.items c.args.heard in
    let last = hall c.loop-place.network c.loop-place.answers c.loop-place.seats.items c.args.heard in
    all_then g.N.Connections g.A.HostAnswers Resting (FinishedBelow was 0) (AllFinished now) first first last
    (all_weaker g.N.Connections g.A.HostAnswers c.args.heard Resting (FinishedBelow was 0) c.args.network.now c.args.answers.now c.args.seats.now.items (λ place life seat below so. (so, λ none. absurd (omega (arith, none)))))
    (all_then g.N.Connections g.A.HostAnswers (FinishedBelow was 0) (FinishedBelow now c.loop-place.place) (AllFinished now) first last last c.loop-place.invariant.keeps
    (all_weaker g.N.Connections g.A.HostAnswers c.args.heard (FinishedBelow now c.loop-place.place) (AllFinished now) c.loop-place.network c.loop-place.answers c.loop-place.seats.items (λ place life seat below so. so.1 (search (arith, below, c.loop-place.invariant.same)))))

pub loop-place-preserved : goal.loop-place-preserved
loop-place-preserved g c =
    record {
      keeps = all_then g.N.Connections g.A.HostAnswers (FinishedBelow (g.A.HostAnswers.ends c.args.answers.now) 0) (FinishedBelow (g.A.HostAnswers.ends c.loop-place.answers) c.loop-place.place) (FinishedBelow (g.A.HostAnswers.ends c.finish_at.new.answers) (c.loop-place.place + 1)) (hall c.args.network.now c.args.answers.now c.args.seats.now.items c.args.heard) (hall c.loop-place.network c.loop-place.answers c.loop-place.seats.items c.args.heard) (hall c.finish_at.new.network c.finish_at.new.answers c.finish_at.new.seats.items c.args.heard) c.loop-place.invariant.keeps c.finish_at.ensures.keeps;
      same = c.finish_at.ensures.same ∙ c.loop-place.invariant.same;
      ends = λ none. c.loop-place.invariant.ends (c.finish_at.ensures.ends none);
      fits = c.finish_at.ensures.fits;
    }
