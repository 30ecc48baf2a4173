use Rattle.std.proofs.Common.{◌∙◌, refl, true}
use Rattle.hose_host.specs.steps.Keeping.{host_of}
use Rattle.hose_host.specs.steps.Seats.{AllFinished}
use Rattle.hose_host.proofs.Keepings.{host_link, host_then, link_quiet}
use Rattle.hose_host.proofs.ending.write_out.Goals as goal

pub loop-init : goal.loop-init
loop-init g c =
    let was = c.args.places.now in
    record {
      keeps = host_link g.N.Connections g.A.HostAnswers (AllFinished true) was.opened was.opened c.args.network.now c.end_soon.new.self c.args.answers.now c.args.answers.now was.seats.items was.heard (link_quiet g.N.Connections g.A.HostAnswers was.opened c.args.network.now c.end_soon.new.self c.args.answers.now c.end_soon.ensures);
      ends = refl;
      fits = c.requires;
    }

pub loop-preserved : goal.loop-preserved
loop-preserved g c = record {
  keeps = host_then g.N.Connections g.A.HostAnswers (AllFinished true) (AllFinished true) (AllFinished true) (host_of c.args.network.now c.args.answers.now c.args.places.now) (host_of c.loop.network c.loop.answers c.loop.places) (host_of c.write_round.new.network c.write_round.new.answers c.write_round.new.places) c.loop.invariant.keeps c.write_round.ensures.keeps;
  ends = c.write_round.ensures.ends ∙ c.loop.invariant.ends;
  fits = c.write_round.ensures.fits;
}

pub returns-then-not-write_round-clause-keeps : goal.returns-then-not-write_round-clause-keeps
returns-then-not-write_round-clause-keeps g c = host_then g.N.Connections g.A.HostAnswers (AllFinished true) (AllFinished true) (AllFinished true) (host_of c.args.network.now c.args.answers.now c.args.places.now) (host_of c.loop.network c.loop.answers c.loop.places) (host_of c.write_round.new.network c.write_round.new.answers c.write_round.new.places) c.loop.invariant.keeps c.write_round.ensures.keeps
