use Rattle.hose_net.specs.Story.{leaves_lines}
use Rattle.hose_host.specs.steps.Keeping.{host_of}
use Rattle.hose_host.specs.steps.Seats.{AllFinished, Resting}
use Rattle.hose_host.proofs.Keepings.{host_first, host_parts, host_same, host_then, hosted}
use Rattle.hose_host.proofs.hosting.host.Goals as goal

pub loop-init : goal.loop-init
loop-init g c = record {
  keeps = host_same g.N.Connections g.A.HostAnswers Resting (host_of c.begin.new.network c.args.answers.now c.begin.new.places);
  fits = c.requires.fits;
}

pub loop-preserved : goal.loop-preserved
loop-preserved g c = record {
  keeps = host_then g.N.Connections g.A.HostAnswers Resting Resting Resting (host_of c.begin.new.network c.args.answers.now c.begin.new.places) (host_of c.loop.network c.loop.answers c.loop.places) (host_of c.round.new.network c.round.new.answers c.round.new.places) c.loop.invariant.keeps c.in_default.ensures.keeps;
  fits = c.round.ensures.fits;
}

pub returns-in-Some-round-clause-hosted : goal.returns-in-Some-round-clause-hosted
returns-in-Some-round-clause-hosted g c = λ from comes.
    let places = c.new-places.result in
    let begun = host_of c.begin.new.network c.args.answers.now c.begin.new.places in
    let last = c.round.new.places in
    let why = c.in-Some-round.why in
    hosted g.N.Connections g.A.HostAnswers last.heard last.opened c.args.network.now c.round.new.network c.args.answers.now c.round.new.answers last.seats.items from comes why begun
    (host_first g.N.Connections g.A.HostAnswers c.args.network.now c.args.answers.now places.seats.items places.heard places.opened begun c.new-places.ensures.seats c.new-places.ensures.heard c.new-places.ensures.closed c.begin.ensures.keeps)
    c.begin.ensures.alone
    (host_parts g.N.Connections g.A.HostAnswers why Resting Resting (AllFinished (leaves_lines why)) begun (host_of c.loop.network c.loop.answers c.loop.places) (host_of c.round.new.network c.round.new.answers last) c.loop.invariant.keeps c.in-Some-round.ensures.keeps)
