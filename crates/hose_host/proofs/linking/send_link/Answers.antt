use Rattle.std.proofs.Common.{true, ◌∙◌}
use Rattle.hose_host.proofs.Keepings.{link_then}
use Rattle.hose_host.proofs.linking.send_link.Goals as goal

pub loop-preserved : goal.loop-preserved
loop-preserved g c = record {
  keeps = link_then g.N.Connections g.A.HostAnswers true true true c.args.network.now c.loop.network c.send_some.new.network c.args.answers.now c.loop.answers c.send_some.new.answers c.loop.invariant.keeps c.send_some.ensures.keeps;
  ends = c.send_some.ensures.ends ∙ c.loop.invariant.ends;
  fits = c.send_some.ensures.fits;
}

pub returns-clause-keeps : goal.returns-clause-keeps
returns-clause-keeps g c = link_then g.N.Connections g.A.HostAnswers true true true c.args.network.now c.loop.network c.send_some.new.network c.args.answers.now c.loop.answers c.send_some.new.answers c.loop.invariant.keeps c.send_some.ensures.keeps
