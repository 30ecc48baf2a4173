use Rattle.std.proofs.Common.{arith}
use Rattle.hose_net.specs.Story.{bound_of}
use Rattle.hose_net.specs.declared.hold.Hold.TheVariants.{Alone}
use Rattle.hose_host.specs.steps.Keeping.{housed}
use Rattle.hose_host.specs.steps.Seats.{FreedBelow, InRound}
use Rattle.hose_host.proofs.Keepings.{host_alone, host_freed, host_then, round_gone}
use Rattle.hose_host.proofs.linking.go_alone.Goals as goal

pub returns-clause-keeps : goal.returns-clause-keeps
returns-clause-keeps g c = λ ended.
    let places = c.args.places.now in
    host_then g.N.Connections g.A.HostAnswers (InRound ended) (FreedBelow 0) (InRound ended) (housed c.args.network.now c.args.answers.now places.seats.items places.heard places.opened) (housed c.args.network.now c.go_on.new.self places.seats.items (bound_of Alone) places.opened) (housed c.free_all.new.network c.free_all.new.answers c.free_all.new.seats.items (bound_of Alone) places.opened)
    (host_alone g.N.Connections g.A.HostAnswers (InRound ended) places.heard c.args.network.now c.args.answers.now c.go_on.new.self places.seats.items places.opened (λ place life seat so. round_gone g.N.Connections g.A.HostAnswers ended place places.heard life seat so) c.go_on.ensures.comes c.go_on.ensures.leaves (omega (arith, c.if-places-ge-ALONE.false)) c.requires.may)
    (host_freed g.N.Connections g.A.HostAnswers ended (bound_of Alone) c.args.network.now c.free_all.new.network c.go_on.new.self c.tell_hold.new.self c.free_all.new.answers places.seats.items c.free_all.new.seats.items places.opened c.tell_hold.ensures.comes c.tell_hold.ensures.leaves c.free_all.ensures.keeps)
