use Rattle.std.proofs.Common.{sym, true}
use Rattle.hose_host.proofs.Keepings.{link_opened, link_quiet, link_then_at}
use Rattle.hose_host.proofs.linking.open_link.Goals as goal

pub returns-then-not-open_link-clause-keeps : goal.returns-then-not-open_link-clause-keeps
returns-then-not-open_link-clause-keeps g c = λ was. link_quiet g.N.Connections g.A.HostAnswers was c.args.network.now c.open_link.new.self c.args.answers.now (rw c.if-not-open_link.true at c.open_link.ensures) c.args.heard

pub returns-clause-keeps : goal.returns-clause-keeps
returns-clause-keeps g c = λ was. link_then_at g.N.Connections g.A.HostAnswers c.args.heard was true true c.args.network.now c.open_link.new.self c.send_more.new.network c.args.answers.now c.link_opened.new.self c.send_more.new.answers
    (link_opened g.N.Connections g.A.HostAnswers c.args.heard c.is_alone.result was c.args.network.now c.open_link.new.self c.args.answers.now c.link_opened.new.self c.in-Some.path.now c.is_alone.ensures c.link_opened.ensures.waits (sym c.in-Some.ensures) (rw c.if-not-open_link.false at c.open_link.ensures) c.link_opened.ensures.comes c.link_opened.ensures.leaves)
    (c.send_more.ensures.keeps c.args.heard)
