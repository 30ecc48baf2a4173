use Rattle.hose_host.proofs.Keepings.{link_quiet}
use Rattle.hose_host.proofs.linking.renew.Goals as goal

pub returns-then-is_news : goal.returns-then-is_news
returns-then-is_news g c = λ opened. link_quiet g.N.Connections g.A.HostAnswers opened c.args.network.now c.expect.new.self c.args.answers.now c.expect.ensures
