use Rattle.std.proofs.Common.{arith, true}
use Rattle.hose_host.specs.steps.Keeping.{hall, host_of, housed}
use Rattle.hose_host.specs.steps.Seats.{AllFinished, FreedBelow, Resting}
use Rattle.hose_host.proofs.Keepings.{all_then, all_weaker, host_all, host_then}
use Rattle.hose_host.proofs.ending.write_all.Goals as goal

pub returns-clause-keeps : goal.returns-clause-keeps
returns-clause-keeps g c =
    let was = c.args.places.now in
    let first = hall c.args.network.now c.args.answers.now was.seats.items was.heard in
    let freed = hall c.free_all.new.network c.free_all.new.answers c.free_all.new.seats.items was.heard in
    host_then g.N.Connections g.A.HostAnswers Resting (AllFinished true) (AllFinished true) (housed c.args.network.now c.args.answers.now was.seats.items was.heard was.opened) (housed c.free_all.new.network c.free_all.new.answers c.free_all.new.seats.items was.heard was.opened) (host_of c.write_out.new.network c.write_out.new.answers c.write_out.new.places)
    (host_all g.N.Connections g.A.HostAnswers Resting (AllFinished true) was.opened first freed
    (all_then g.N.Connections g.A.HostAnswers Resting (FreedBelow 0) (AllFinished true) first first freed
    (all_weaker g.N.Connections g.A.HostAnswers was.heard Resting (FreedBelow 0) c.args.network.now c.args.answers.now was.seats.items (λ place life seat below so. (so.gone, λ none. absurd (omega (arith, none)))))
    c.free_all.ensures.keeps))
    c.write_out.ensures.keeps
