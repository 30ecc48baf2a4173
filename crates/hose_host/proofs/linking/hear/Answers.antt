use Rattle.hose_host.specs.steps.Keeping.{housed}
use Rattle.hose_host.specs.steps.Seats.{InRound}
use Rattle.hose_host.proofs.Keepings.{host_link, host_near, host_then}
use Rattle.hose_host.proofs.linking.hear.Goals as goal

pub returns-then-is_useless-clause-keeps : goal.returns-then-is_useless-clause-keeps
returns-then-is_useless-clause-keeps g c = λ ended.
    let was = c.args.places.now in
    let now = c.close.new.places in
    host_near g.N.Connections g.A.HostAnswers (InRound ended) was.opened now.opened c.args.network.now c.close.new.network c.args.answers.now c.args.answers.now was.seats.items now.seats.items was.heard now.heard (c.close.ensures.keeps was.heard) c.close.ensures.seats c.close.ensures.heard

pub returns-in_default-clause-keeps : goal.returns-in_default-clause-keeps
returns-in_default-clause-keeps g c = λ ended.
    let places = c.args.places.now in
    host_link g.N.Connections g.A.HostAnswers (InRound ended) places.opened places.opened c.args.network.now c.renew.new.network c.args.answers.now c.args.answers.now places.seats.items places.heard (c.renew.ensures places.opened)

pub returns-clause-keeps : goal.returns-clause-keeps
returns-clause-keeps g c = λ ended.
    let places = c.args.places.now in
    let now = c.join.new.places in
    let first = housed c.args.network.now c.args.answers.now places.seats.items places.heard places.opened in
    let renewed = housed c.renew.new.network c.args.answers.now places.seats.items places.heard places.opened in
    let last = housed c.join.new.network c.join.new.answers now.seats.items now.heard now.opened in
    host_then g.N.Connections g.A.HostAnswers (InRound ended) (InRound ended) (InRound ended) first renewed last
    (host_link g.N.Connections g.A.HostAnswers (InRound ended) places.opened places.opened c.args.network.now c.renew.new.network c.args.answers.now c.args.answers.now places.seats.items places.heard (c.renew.ensures places.opened))
    (c.join.ensures.keeps ended)
