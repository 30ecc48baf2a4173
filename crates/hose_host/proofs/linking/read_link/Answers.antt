use Rattle.std.proofs.Common.{take, true}
use Rattle.hose_host.proofs.Keepings.{link_gave, link_quiet, link_then}
use Rattle.hose_host.proofs.linking.read_link.Goals as goal

pub returns-in-Err-NotNow-clause-keeps : goal.returns-in-Err-NotNow-clause-keeps
returns-in-Err-NotNow-clause-keeps g c = link_then g.N.Connections g.A.HostAnswers true true true c.args.network.now c.read_link.new.self c.send_link.new.network c.args.answers.now c.args.answers.now c.send_link.new.answers (link_quiet g.N.Connections g.A.HostAnswers true c.args.network.now c.read_link.new.self c.args.answers.now c.in-Err-NotNow.ensures.did) c.send_link.ensures.keeps

pub returns-in-Err-Over-clause-keeps : goal.returns-in-Err-Over-clause-keeps
returns-in-Err-Over-clause-keeps g c = link_quiet g.N.Connections g.A.HostAnswers true c.args.network.now c.read_link.new.self c.args.answers.now c.in-Err-Over.ensures.did

pub returns-clause-keeps : goal.returns-clause-keeps
returns-clause-keeps g c = link_then g.N.Connections g.A.HostAnswers true true true c.args.network.now c.read_link.new.self c.send_more.new.network c.args.answers.now c.take_in.new.self c.send_more.new.answers
    (link_gave g.N.Connections g.A.HostAnswers c.args.network.now c.read_link.new.self c.args.answers.now c.take_in.new.self (take c.in-Ok.count c.read_link.new.into) c.in-Ok.ensures.did c.take_in.ensures.comes c.take_in.ensures.leaves)
    c.send_more.ensures.keeps
