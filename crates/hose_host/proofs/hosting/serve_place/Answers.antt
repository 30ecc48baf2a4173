use Rattle.hose_host.specs.steps.Keeping.{housed}
use Rattle.hose_host.specs.steps.Seats.{Resting}
use Rattle.hose_host.proofs.Keepings.{asked_parts, host_all, host_link, host_then}
use Rattle.hose_host.proofs.hosting.serve_place.Goals as goal

pub returns-then-is_ending-clause-keeps : goal.returns-then-is_ending-clause-keeps
returns-then-is_ending-clause-keeps g c =
    let was = c.args.places.now in
    let first = housed c.args.network.now c.args.answers.now was.seats.items was.heard was.opened in
    let mid = housed c.attend.new.network c.attend.new.answers c.attend.new.seats.items was.heard was.opened in
    let last = housed c.bring.new.network c.bring.new.answers c.attend.new.seats.items was.heard was.opened in
    asked_parts g.N.Connections g.A.HostAnswers Resting Resting first last
    (host_then g.N.Connections g.A.HostAnswers Resting Resting Resting first mid last
    (host_all g.N.Connections g.A.HostAnswers Resting Resting was.opened first.hall mid.hall c.attend.ensures.keeps)
    (host_link g.N.Connections g.A.HostAnswers Resting was.opened was.opened c.attend.new.network c.bring.new.network c.attend.new.answers c.bring.new.answers c.attend.new.seats.items was.heard c.bring.ensures.keeps))

pub returns-clause-keeps : goal.returns-clause-keeps
returns-clause-keeps g c =
    let was = c.args.places.now in
    let first = housed c.args.network.now c.args.answers.now was.seats.items was.heard was.opened in
    let mid = housed c.attend.new.network c.attend.new.answers c.attend.new.seats.items was.heard was.opened in
    let last = housed c.bring.new.network c.bring.new.answers c.attend.new.seats.items was.heard was.opened in
    host_then g.N.Connections g.A.HostAnswers Resting Resting Resting first mid last
    (host_all g.N.Connections g.A.HostAnswers Resting Resting was.opened first.hall mid.hall c.attend.ensures.keeps)
    (host_link g.N.Connections g.A.HostAnswers Resting was.opened was.opened c.attend.new.network c.bring.new.network c.attend.new.answers c.bring.new.answers c.attend.new.seats.items was.heard c.bring.ensures.keeps)
