use Rattle.std.proofs.Common.{false}
use Rattle.std.proofs.Common.{ap, refl, sym, ◌∙◌}
use Rattle.std.proofs.lemmas.Bool.{false≢true}
use Rattle.hose_host.specs.steps.Keeping.{at}
use Rattle.hose_host.specs.steps.Seats.{Anyhow, AtRest, Calm, Finished, Freed, Quiet}
use Rattle.hose_host.proofs.Keepings.{finished_lost, finished_on, keeps_from, keeps_lost, keeps_on, keeps_same, keeps_still, keeps_then}
use Rattle.hose_host.proofs.ending.finish_seat.Goals as goal

pub returns-then-is_lost-clause-keeps : goal.returns-then-is_lost-clause-keeps
returns-then-is_lost-clause-keeps g c =
    let seat = c.args.seat.now in
    keeps_same g.N.Connections g.A.HostAnswers c.args.heard (AtRest c.args.heard seat.kept) (Finished (g.A.HostAnswers.ends c.args.answers.now) c.args.heard) c.args.place (at c.args.network.now c.args.answers.now seat seat.kept) (λ life so. finished_lost g.N.Connections g.A.HostAnswers c.args.heard _ life seat (cc (c.is_lost.ensures, c.if-is_lost.true)) (so.gone (cc (c.is_lost.ensures, c.if-is_lost.true))))

pub returns-then-is_finished-clause-keeps : goal.returns-then-is_finished-clause-keeps
returns-then-is_finished-clause-keeps g c =
    let heard = c.args.heard in
    let was = c.args.seat.now in
    let told = c.take_kept.new.seat in
    let now = c.send.new.seat in
    let by_now = c.take_kept.new.answers in
    let first = at c.args.network.now c.args.answers.now was was.kept in
    let ended = g.A.HostAnswers.ends by_now in
    keeps_on g.N.Connections g.A.HostAnswers heard (AtRest heard was.kept) (Quiet heard now.kept) (Finished ended heard) c.args.place first (at c.send.new.network by_now now now.kept)
    (λ life so. record { quiet = so; gone = λ lost. absurd (false≢true (cc (lost, (c.is_finished.ensures c.if-is_finished.true).0))); none = λ goes_on kept. (c.is_finished.ensures c.if-is_finished.true).1 goes_on })
    (keeps_still g.N.Connections g.A.HostAnswers heard (AtRest heard was.kept) told.kept c.args.place first c.send.new.network by_now now
    (keeps_then g.N.Connections g.A.HostAnswers heard (AtRest heard was.kept) (Freed heard told.kept) (Quiet heard told.kept) c.args.place first (at c.args.network.now by_now told told.kept) (at c.send.new.network by_now now told.kept)
    (keeps_from g.N.Connections g.A.HostAnswers heard (AtRest heard was.kept) (Calm heard was.kept) (Freed heard told.kept) c.args.place first (at c.args.network.now by_now told told.kept) (λ life so. so.calm) c.take_kept.ensures.keeps) (c.send.ensures heard told.kept)))

pub returns-clause-keeps : goal.returns-clause-keeps
returns-clause-keeps g c =
    let heard = c.args.heard in
    let lost = ap (λ s. s.lost) c.lose.ensures in
    let was = c.args.seat.now in
    let told = c.take_kept.new.seat in
    let now = c.send.new.seat in
    let gone = c.lose.new.self in
    let by_now = c.take_kept.new.answers in
    let first = at c.args.network.now c.args.answers.now was was.kept in
    keeps_on g.N.Connections g.A.HostAnswers heard (AtRest heard was.kept) (Finished false heard) (Finished (g.A.HostAnswers.ends c.leave.new.answers) heard) c.args.place first (at c.leave.new.network c.leave.new.answers gone gone.kept) (λ life so. finished_on g.N.Connections g.A.HostAnswers heard _ _ life gone (λ goes_on. refl) so)
    (keeps_then g.N.Connections g.A.HostAnswers heard (AtRest heard was.kept) Anyhow (Finished false heard) c.args.place first (at c.send.new.network by_now gone gone.kept) (at c.leave.new.network c.leave.new.answers gone gone.kept)
    (keeps_then g.N.Connections g.A.HostAnswers heard (AtRest heard was.kept) (Quiet heard told.kept) Anyhow c.args.place first (at c.send.new.network by_now now told.kept) (at c.send.new.network by_now gone gone.kept)
    (keeps_then g.N.Connections g.A.HostAnswers heard (AtRest heard was.kept) (Freed heard told.kept) (Quiet heard told.kept) c.args.place first (at c.args.network.now by_now told told.kept) (at c.send.new.network by_now now told.kept)
    (keeps_from g.N.Connections g.A.HostAnswers heard (AtRest heard was.kept) (Calm heard was.kept) (Freed heard told.kept) c.args.place first (at c.args.network.now by_now told told.kept) (λ life so. so.calm) c.take_kept.ensures.keeps) (c.send.ensures heard told.kept))
    (keeps_lost g.N.Connections g.A.HostAnswers heard (Quiet heard told.kept) Anyhow c.args.place c.send.new.network by_now now gone told.kept gone.kept lost (λ life. tt)))
    (c.leave.ensures.keeps heard gone.kept))

pub returns-then-is_finished-clause-ends : goal.returns-then-is_finished-clause-ends
returns-then-is_finished-clause-ends g c = c.take_kept.ensures.ends

pub returns-clause-ends : goal.returns-clause-ends
returns-clause-ends g c = λ goes_on. c.take_kept.ensures.ends (sym c.leave.ensures.ends ∙ goes_on)
