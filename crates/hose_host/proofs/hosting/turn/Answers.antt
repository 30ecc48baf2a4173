use Rattle.std.proofs.Common.{false}
use Rattle.hose_host.specs.steps.Keeping.{host_of, housed}
use Rattle.hose_host.specs.steps.Seats.{Resting}
use Rattle.hose_host.proofs.Keepings.{all_then, host_all, host_late, host_link, host_or_parts, host_then, link_quiet, parts_late, parts_stopped}
use Rattle.hose_host.proofs.hosting.turn.Goals as goal

pub returns-in-Stop-clause-keeps : goal.returns-in-Stop-clause-keeps
returns-in-Stop-clause-keeps g c =
    let was = c.args.places.now in
    parts_stopped g.N.Connections g.A.HostAnswers Resting c.args.network.now c.next.new.self c.args.answers.now was.seats.items was.heard was.opened (rw c.in-Stop.is at c.next.ensures)

pub returns-in-Door-clause-keeps : goal.returns-in-Door-clause-keeps
returns-in-Door-clause-keeps g c =
    let was = c.args.places.now in
    let asked = housed c.next.new.self c.args.answers.now was.seats.items was.heard was.opened in
    let came = housed c.come.new.network c.come.new.answers c.come.new.seats.items was.heard was.opened in
    let last = housed c.make_room.new.network c.make_room.new.answers c.make_room.new.seats.items was.heard was.opened in
    host_then g.N.Connections g.A.HostAnswers Resting Resting Resting (host_of c.args.network.now c.args.answers.now was) asked last
    (host_link g.N.Connections g.A.HostAnswers Resting was.opened was.opened c.args.network.now c.next.new.self c.args.answers.now c.args.answers.now was.seats.items was.heard (link_quiet g.N.Connections g.A.HostAnswers was.opened c.args.network.now c.next.new.self c.args.answers.now (rw c.in-Door.is at c.next.ensures)))
    (host_all g.N.Connections g.A.HostAnswers Resting Resting was.opened asked.hall last.hall
    (all_then g.N.Connections g.A.HostAnswers Resting Resting Resting asked.hall came.hall last.hall (c.come.ensures.keeps was.heard) (c.make_room.ensures.keeps was.heard)))

pub returns-in-Place-clause-keeps : goal.returns-in-Place-clause-keeps
returns-in-Place-clause-keeps g c =
    let was = c.args.places.now in
    host_or_parts g.N.Connections g.A.HostAnswers c.serve_place.result Resting Resting (host_of c.args.network.now c.args.answers.now was) (host_of c.next.new.self c.args.answers.now was) (host_of c.serve_place.new.network c.serve_place.new.answers c.serve_place.new.places)
    (host_link g.N.Connections g.A.HostAnswers Resting was.opened was.opened c.args.network.now c.next.new.self c.args.answers.now c.args.answers.now was.seats.items was.heard (link_quiet g.N.Connections g.A.HostAnswers was.opened c.args.network.now c.next.new.self c.args.answers.now (rw c.in-Place.is at c.next.ensures)))
    c.serve_place.ensures.keeps

pub returns-in-Link-clause-keeps : goal.returns-in-Link-clause-keeps
returns-in-Link-clause-keeps g c =
    let was = c.args.places.now in
    host_or_parts g.N.Connections g.A.HostAnswers c.serve_link.result Resting Resting (host_of c.args.network.now c.args.answers.now was) (host_of c.next.new.self c.args.answers.now was) (host_of c.serve_link.new.network c.serve_link.new.answers c.serve_link.new.places)
    (host_link g.N.Connections g.A.HostAnswers Resting was.opened was.opened c.args.network.now c.next.new.self c.args.answers.now c.args.answers.now was.seats.items was.heard (link_quiet g.N.Connections g.A.HostAnswers was.opened c.args.network.now c.next.new.self c.args.answers.now (rw c.in-Link.is at c.next.ensures)))
    c.serve_link.ensures.keeps

pub returns-in-Second-clause-keeps : goal.returns-in-Second-clause-keeps
returns-in-Second-clause-keeps g c =
    let was = c.args.places.now in
    host_then g.N.Connections g.A.HostAnswers Resting Resting Resting (host_of c.args.network.now c.args.answers.now was) (host_of c.next.new.self c.args.answers.now was) (host_of c.pass_second.new.network c.pass_second.new.answers c.pass_second.new.places)
    (host_link g.N.Connections g.A.HostAnswers Resting was.opened was.opened c.args.network.now c.next.new.self c.args.answers.now c.args.answers.now was.seats.items was.heard (link_quiet g.N.Connections g.A.HostAnswers was.opened c.args.network.now c.next.new.self c.args.answers.now (rw c.in-Second.is at c.next.ensures)))
    (c.pass_second.ensures.keeps false)

pub returns-then-not-may_go_alone-clause-keeps : goal.returns-then-not-may_go_alone-clause-keeps
returns-then-not-may_go_alone-clause-keeps g c =
    let was = c.args.places.now in
    parts_late g.N.Connections g.A.HostAnswers Resting c.args.network.now c.next.new.self c.args.answers.now was.seats.items was.heard was.opened (cc (c.may_go_alone.ensures, c.if-not-may_go_alone.true)) (rw c.in-Late.is at c.next.ensures)

pub returns-else-not-may_go_alone-clause-keeps : goal.returns-else-not-may_go_alone-clause-keeps
returns-else-not-may_go_alone-clause-keeps g c =
    let was = c.args.places.now in
    host_then g.N.Connections g.A.HostAnswers Resting Resting Resting (host_of c.args.network.now c.args.answers.now was) (host_of c.next.new.self c.args.answers.now was) (host_of c.go_alone.new.network c.go_alone.new.answers c.go_alone.new.places)
    (host_late g.N.Connections g.A.HostAnswers Resting c.args.network.now c.next.new.self c.args.answers.now was.seats.items was.heard was.opened (rw c.in-Late.is at c.next.ensures))
    (c.go_alone.ensures.keeps false)
