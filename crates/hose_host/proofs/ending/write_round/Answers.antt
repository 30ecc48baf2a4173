use Rattle.std.proofs.Common.{true}
use Rattle.hose_net.specs.declared.hold.Parting.TheVariants as parting
use Rattle.hose_host.specs.steps.Keeping.{housed}
use Rattle.hose_host.specs.steps.Seats.{AllFinished}
use Rattle.hose_host.proofs.Keepings.{host_all, host_late, host_link, host_then, link_quiet, parts_keeps, parts_stopped}
use Rattle.hose_host.proofs.ending.write_round.Goals as goal

pub returns-in-Stop-clause-keeps : goal.returns-in-Stop-clause-keeps
returns-in-Stop-clause-keeps g c =
    let was = c.args.places.now in
    parts_keeps g.N.Connections g.A.HostAnswers parting.Told (AllFinished true) (AllFinished true) (housed c.args.network.now c.args.answers.now was.seats.items was.heard was.opened) (housed c.next.new.self c.args.answers.now was.seats.items was.heard was.opened)
    (parts_stopped g.N.Connections g.A.HostAnswers (AllFinished true) c.args.network.now c.next.new.self c.args.answers.now was.seats.items was.heard was.opened (rw c.in-Stop.is at c.next.ensures))

pub returns-in-Door-clause-keeps : goal.returns-in-Door-clause-keeps
returns-in-Door-clause-keeps g c =
    let was = c.args.places.now in
    host_link g.N.Connections g.A.HostAnswers (AllFinished true) was.opened was.opened c.args.network.now c.next.new.self c.args.answers.now c.args.answers.now was.seats.items was.heard (link_quiet g.N.Connections g.A.HostAnswers was.opened c.args.network.now c.next.new.self c.args.answers.now (rw c.in-Door.is at c.next.ensures))

pub returns-in-Place-clause-keeps : goal.returns-in-Place-clause-keeps
returns-in-Place-clause-keeps g c =
    let was = c.args.places.now in
    let asked = housed c.next.new.self c.args.answers.now was.seats.items was.heard was.opened in
    let last = housed c.write_at.new.network c.write_at.new.answers c.write_at.new.seats.items was.heard was.opened in
    host_then g.N.Connections g.A.HostAnswers (AllFinished true) (AllFinished true) (AllFinished true) (housed c.args.network.now c.args.answers.now was.seats.items was.heard was.opened) asked last
    (host_link g.N.Connections g.A.HostAnswers (AllFinished true) was.opened was.opened c.args.network.now c.next.new.self c.args.answers.now c.args.answers.now was.seats.items was.heard (link_quiet g.N.Connections g.A.HostAnswers was.opened c.args.network.now c.next.new.self c.args.answers.now (rw c.in-Place.is at c.next.ensures)))
    (host_all g.N.Connections g.A.HostAnswers (AllFinished true) (AllFinished true) was.opened asked.hall last.hall (c.write_at.ensures.keeps was.heard))

pub returns-in-Link-clause-keeps : goal.returns-in-Link-clause-keeps
returns-in-Link-clause-keeps g c =
    let was = c.args.places.now in
    let now = c.listen.new.places in
    host_then g.N.Connections g.A.HostAnswers (AllFinished true) (AllFinished true) (AllFinished true) (housed c.args.network.now c.args.answers.now was.seats.items was.heard was.opened) (housed c.next.new.self c.args.answers.now was.seats.items was.heard was.opened) (housed c.listen.new.network c.listen.new.answers now.seats.items now.heard now.opened)
    (host_link g.N.Connections g.A.HostAnswers (AllFinished true) was.opened was.opened c.args.network.now c.next.new.self c.args.answers.now c.args.answers.now was.seats.items was.heard (link_quiet g.N.Connections g.A.HostAnswers was.opened c.args.network.now c.next.new.self c.args.answers.now (rw c.in-Link.is at c.next.ensures)))
    (c.listen.ensures.keeps true)

pub returns-in-Second-clause-keeps : goal.returns-in-Second-clause-keeps
returns-in-Second-clause-keeps g c =
    let was = c.args.places.now in
    let now = c.pass_second.new.places in
    host_then g.N.Connections g.A.HostAnswers (AllFinished true) (AllFinished true) (AllFinished true) (housed c.args.network.now c.args.answers.now was.seats.items was.heard was.opened) (housed c.next.new.self c.args.answers.now was.seats.items was.heard was.opened) (housed c.pass_second.new.network c.pass_second.new.answers now.seats.items now.heard now.opened)
    (host_link g.N.Connections g.A.HostAnswers (AllFinished true) was.opened was.opened c.args.network.now c.next.new.self c.args.answers.now c.args.answers.now was.seats.items was.heard (link_quiet g.N.Connections g.A.HostAnswers was.opened c.args.network.now c.next.new.self c.args.answers.now (rw c.in-Second.is at c.next.ensures)))
    (c.pass_second.ensures.keeps true)

pub returns-then-not-may_go_alone-clause-keeps : goal.returns-then-not-may_go_alone-clause-keeps
returns-then-not-may_go_alone-clause-keeps g c =
    let was = c.args.places.now in
    host_late g.N.Connections g.A.HostAnswers (AllFinished true) c.args.network.now c.next.new.self c.args.answers.now was.seats.items was.heard was.opened (rw c.in-Late.is at c.next.ensures)

pub returns-else-not-may_go_alone-clause-keeps : goal.returns-else-not-may_go_alone-clause-keeps
returns-else-not-may_go_alone-clause-keeps g c =
    let was = c.args.places.now in
    let now = c.go_alone.new.places in
    host_then g.N.Connections g.A.HostAnswers (AllFinished true) (AllFinished true) (AllFinished true) (housed c.args.network.now c.args.answers.now was.seats.items was.heard was.opened) (housed c.next.new.self c.args.answers.now was.seats.items was.heard was.opened) (housed c.go_alone.new.network c.go_alone.new.answers now.seats.items now.heard now.opened)
    (host_late g.N.Connections g.A.HostAnswers (AllFinished true) c.args.network.now c.next.new.self c.args.answers.now was.seats.items was.heard was.opened (rw c.in-Late.is at c.next.ensures))
    (c.go_alone.ensures.keeps true)
