use Rattle.hose_host.specs.steps.Keeping.{housed}
use Rattle.hose_host.specs.steps.Seats.{FreedBelow, InRound}
use Rattle.hose_host.proofs.Keepings.{host_freed, host_joins, host_link, host_then, link_same, round_gone}
use Rattle.hose_host.proofs.linking.join.Goals as goal

pub returns-then-not-joins-clause-keeps : goal.returns-then-not-joins-clause-keeps
returns-then-not-joins-clause-keeps g c = λ ended.
    let places = c.args.places.now in
    host_link g.N.Connections g.A.HostAnswers (InRound ended) places.opened places.opened c.args.network.now c.args.network.now c.args.answers.now c.args.answers.now places.seats.items places.heard (link_same g.N.Connections g.A.HostAnswers places.opened c.args.network.now c.args.answers.now)

pub returns-clause-keeps : goal.returns-clause-keeps
returns-clause-keeps g c = λ ended.
    let places = c.args.places.now in
    let count = c.args.count in
    let first = housed c.args.network.now c.args.answers.now places.seats.items places.heard places.opened in
    let joined = housed c.args.network.now c.go_on.new.self places.seats.items count places.opened in
    let last = housed c.free_all.new.network c.free_all.new.answers c.free_all.new.seats.items count places.opened in
    host_then g.N.Connections g.A.HostAnswers (InRound ended) (FreedBelow 0) (InRound ended) first joined last
    (host_joins g.N.Connections g.A.HostAnswers (InRound ended) places.heard count c.args.network.now c.args.answers.now c.go_on.new.self places.seats.items places.opened (λ place life seat so. round_gone g.N.Connections g.A.HostAnswers ended place places.heard life seat so) c.go_on.ensures.comes c.go_on.ensures.leaves c.requires.opened (c.joins.ensures.less c.if-not-joins.false) (c.joins.ensures.joins c.if-not-joins.false) c.requires.heard)
    (host_freed g.N.Connections g.A.HostAnswers ended count c.args.network.now c.free_all.new.network c.go_on.new.self c.tell_joined.new.answers c.free_all.new.answers places.seats.items c.free_all.new.seats.items places.opened c.tell_joined.ensures.comes c.tell_joined.ensures.leaves c.free_all.ensures.keeps)
