use Rattle.hose_host.specs.steps.Keeping.{housed}
use Rattle.hose_host.specs.steps.Seats.{InRound}
use Rattle.hose_host.proofs.Keepings.{host_link, host_near, host_then, link_open, link_same, link_then}
use Rattle.hose_host.proofs.linking.listen.Goals as goal

pub returns-then-not-places-clause-keeps : goal.returns-then-not-places-clause-keeps
returns-then-not-places-clause-keeps g c = λ ended.
    let was = c.args.places.now in
    host_link g.N.Connections g.A.HostAnswers (InRound ended) was.opened was.opened c.args.network.now c.args.network.now c.args.answers.now c.args.answers.now was.seats.items was.heard (link_same g.N.Connections g.A.HostAnswers was.opened c.args.network.now c.args.answers.now)

pub returns-in-Ok-clause-keeps : goal.returns-in-Ok-clause-keeps
returns-in-Ok-clause-keeps g c = λ ended.
    let was = c.args.places.now in
    let now = c.hear.new.places in
    host_then g.N.Connections g.A.HostAnswers (InRound ended) (InRound ended) (InRound ended) (housed c.args.network.now c.args.answers.now was.seats.items was.heard was.opened) (housed c.read_link.new.network c.read_link.new.answers was.seats.items was.heard was.opened) (housed c.hear.new.network c.hear.new.answers now.seats.items now.heard now.opened)
    (host_link g.N.Connections g.A.HostAnswers (InRound ended) was.opened was.opened c.args.network.now c.read_link.new.network c.args.answers.now c.read_link.new.answers was.seats.items was.heard (link_open g.N.Connections g.A.HostAnswers was.opened c.args.network.now c.read_link.new.network c.args.answers.now c.read_link.new.answers c.if-not-places.false c.read_link.ensures.keeps))
    (c.hear.ensures.keeps ended)

pub returns-in-Err-NotNow-clause-keeps : goal.returns-in-Err-NotNow-clause-keeps
returns-in-Err-NotNow-clause-keeps g c = λ ended.
    let was = c.args.places.now in
    host_link g.N.Connections g.A.HostAnswers (InRound ended) was.opened was.opened c.args.network.now c.read_link.new.network c.args.answers.now c.read_link.new.answers was.seats.items was.heard (link_open g.N.Connections g.A.HostAnswers was.opened c.args.network.now c.read_link.new.network c.args.answers.now c.read_link.new.answers c.if-not-places.false c.read_link.ensures.keeps)

pub returns-in-Err-Over-clause-keeps : goal.returns-in-Err-Over-clause-keeps
returns-in-Err-Over-clause-keeps g c = λ ended.
    let was = c.args.places.now in
    let now = c.close.new.places in
    host_near g.N.Connections g.A.HostAnswers (InRound ended) was.opened now.opened c.args.network.now c.close.new.network c.args.answers.now c.read_link.new.answers was.seats.items now.seats.items was.heard now.heard
    (link_then g.N.Connections g.A.HostAnswers was.opened was.opened now.opened c.args.network.now c.read_link.new.network c.close.new.network c.args.answers.now c.read_link.new.answers c.read_link.new.answers (link_open g.N.Connections g.A.HostAnswers was.opened c.args.network.now c.read_link.new.network c.args.answers.now c.read_link.new.answers c.if-not-places.false c.read_link.ensures.keeps) c.close.ensures.keeps was.heard) c.close.ensures.seats c.close.ensures.heard
