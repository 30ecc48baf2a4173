use Rattle.std.proofs.Common.{true}
use Rattle.hose_host.proofs.Keepings.{link_by, link_then}
use Rattle.hose_host.proofs.linking.send_more.Goals as goal

pub returns-clause-keeps : goal.returns-clause-keeps
returns-clause-keeps g c = link_then g.N.Connections g.A.HostAnswers true true true c.args.network.now c.args.network.now c.send_link.new.network c.args.answers.now c.gather.new.self c.send_link.new.answers (link_by g.N.Connections g.A.HostAnswers true c.args.network.now c.args.answers.now c.gather.new.self c.gather.ensures.comes c.gather.ensures.leaves) c.send_link.ensures.keeps
