use Rattle.std.proofs.Common.{ap, arith, length, sym}
use Rattle.hose_net.specs.Story.{bound_of}
use Rattle.hose_net.specs.declared.hold.Hold.TheVariants.{Alone}
use Rattle.hose_host.specs.steps.Keeping.{housed}
use Rattle.hose_host.specs.steps.Seats.{FreedBelow, Resting}
use Rattle.hose_host.proofs.Keepings.{all_weaker, host_all, host_alone, host_link, host_then, leaves_none, link_quiet}
use Rattle.hose_host.proofs.linking.begin.Goals as goal

pub returns-in-None-clause-keeps : goal.returns-in-None-clause-keeps
returns-in-None-clause-keeps g c =
    let places = c.args.places.now in
    let first = housed c.args.network.now c.args.answers.now places.seats.items places.heard places.opened in
    let last = housed c.args.network.now c.args.answers.now places.seats.items (bound_of Alone) places.opened in
    host_then g.N.Connections g.A.HostAnswers Resting (FreedBelow 0) Resting first last last
    (host_alone g.N.Connections g.A.HostAnswers Resting places.heard c.args.network.now c.args.answers.now c.args.answers.now places.seats.items places.opened (λ place life seat so. so.gone) (λ from xs link has. has) (leaves_none g.N.Connections g.A.HostAnswers c.args.answers.now) (omega (arith, c.requires.heard)) (c.requires.alone (sym (rw c.in-None.is at c.standby.ensures))))
    (host_all g.N.Connections g.A.HostAnswers (FreedBelow 0) Resting places.opened last.hall last.hall (all_weaker g.N.Connections g.A.HostAnswers (bound_of Alone) (FreedBelow 0) Resting c.args.network.now c.args.answers.now places.seats.items (λ place life seat below so. absurd (omega (arith, below, ap length c.requires.none)))))

pub returns-in-Some-clause-keeps : goal.returns-in-Some-clause-keeps
returns-in-Some-clause-keeps g c =
    let places = c.args.places.now in
    host_link g.N.Connections g.A.HostAnswers Resting places.opened places.opened c.args.network.now c.expect.new.self c.args.answers.now c.args.answers.now places.seats.items places.heard (link_quiet g.N.Connections g.A.HostAnswers places.opened c.args.network.now c.expect.new.self c.args.answers.now c.expect.ensures)
